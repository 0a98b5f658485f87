use Rattle.std.proofs.Common.{subst}
use Rattle.pb_medium.specs.Entries.{record_of}
use Rattle.pb_world.specs.Judges.{IsLastOf}
use Rattle.pb_world.proofs.Hearing.{goes-then, claims-then}
use Rattle.pb_world.proofs.judge.Judge.may_follow.Goals as goal
use Rattle.std.proofs.Common.{length}

pub returns-then-goes_on : goal.returns-then-goes_on
returns-then-goes_on c = λ p specs k keeps.
    goes-then p specs k (record_of c.args.telegram.now) c.in-Some.last k.last c.goes_on.result (subst (IsLastOf (length specs) k.last) c.in-Some.is keeps.last)
    c.if-last-telegram.true (λ m is. c.goes_on.ensures p specs k m keeps is) c.if-goes_on.true

pub returns-else-goes_on : goal.returns-else-goes_on
returns-else-goes_on c = λ p specs k keeps.
    claims-then p specs k (record_of c.args.telegram.now) c.in-Some.last k.last c.goes_on.result c.claims.result (subst (IsLastOf (length specs) k.last) c.in-Some.is keeps.last)
    c.if-last-telegram.true (λ m is. c.goes_on.ensures p specs k m keeps is) c.if-goes_on.false (c.claims.ensures p specs k keeps)
