-- What is played is the run.
use Rattle.std.proofs.Common.{Some, None, refl, subst}
use Rattle.pb_world.specs.RunTo.{GoesOn, StopsIn}
use Rattle.pb_world.proofs.Alone.{rest-begins, rest-ends, rest-goes, rest-stops}
use Rattle.pb_world.proofs.Instants.{in-err}
use Rattle.pb_world.proofs.run_to.run_to.Goals as goal

pub loop-at-init : goal.loop-at-init
loop-at-init c = record { end = refl; rest = rest-begins c.args.until c.get.result c.args.watched.now c.get.ensures.value c.requires }

pub returns-in_err-at-clause-fault : goal.returns-in_err-at-clause-fault
returns-in_err-at-clause-fault c =
    let now = c.loop-at.leg.now in
    let old = c.loop-at.watched in
    let new = c.play_instant.new.watched in
    let fault = c.in_err-at.field-0.0 in
    in-err _ _ c.from_residual.result fault c.from_residual.ensures.0 c.from_residual.ensures.1
    (rest-stops c.args.until now c.args.watched.now old new fault (subst (λ n. StopsIn n now old fault new) c.loop-at.invariant.end c.in_err-at.ensures) c.loop-at.invariant.rest)

pub loop-at-preserved : goal.loop-at-preserved
loop-at-preserved c =
    let now = c.loop-at.leg.now in
    let old = c.loop-at.watched in
    let new = c.play_instant.new.watched in
    let goes : GoesOn c.args.until now old (Some c.in-Some.at) new =
    subst (λ t. GoesOn c.args.until now old t new) c.in-Some.is (subst (λ n. GoesOn n now old c.in_ok-at.field-0 new) c.loop-at.invariant.end c.in_ok-at.ensures) in
    record { end = c.loop-at.invariant.end; rest = rest-goes c.args.until now c.in-Some.at c.args.watched.now old new goes c.loop-at.invariant.rest }

pub returns-clause-run : goal.returns-clause-run
returns-clause-run c =
    let now = c.loop-at.leg.now in
    let old = c.loop-at.watched in
    let new = c.play_instant.new.watched in
    let goes : GoesOn c.args.until now old None new =
    subst (λ t. GoesOn c.args.until now old t new) c.in_default.is (subst (λ n. GoesOn n now old c.in_ok-at.field-0 new) c.loop-at.invariant.end c.in_ok-at.ensures) in
    rest-ends c.args.until now c.args.watched.now old new goes c.loop-at.invariant.rest
