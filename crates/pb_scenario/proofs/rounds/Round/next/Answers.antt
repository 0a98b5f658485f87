-- The first of a round's happenings.
use Rattle.std.proofs.Common.{sym}
use Rattle.pb_scenario.specs.Steps.{deed_of}
use Rattle.pb_scenario.proofs.Happenings.{soonest-series}
use Rattle.pb_scenario.proofs.rounds.Round.next.Goals as goal

pub returns-then-self-gt0 : goal.returns-then-self-gt0
returns-then-self-gt0 c =
    let r = c.args.self in
    sym (soonest-series r.at r.every r.left (deed_of r.deed.now) c.if-self-gt0.true)
