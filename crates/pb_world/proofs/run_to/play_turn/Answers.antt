-- A tap that is due takes its turn.
use Rattle.std.proofs.Common.{◌≡◌, ◌∙◌, ap, subst, sym, true}
use Rattle.law_runs.specs.Runs.{wants}
use Rattle.pb_world.specs.RunTo.{alone_until, Plays, turn_if}
use Rattle.pb_world.specs.Watched.{world_in}
use Rattle.pb_world.specs.Worlds.{due_at}
use Rattle.pb_world.proofs.run_to.play_turn.Goals as goal

pub returns-then-is_due : goal.returns-then-is_due
returns-then-is_due c =
    let leg = c.args.leg in
    let tap = c.args.tap in
    let old = c.args.watched.now in
    let is : true ≡ wants (alone_until leg.until) leg.now tap (due_at (world_in old) tap) =
    sym c.if-is_due.true ∙ c.is_due.ensures tap ∙ ap (wants (alone_until leg.until) leg.now tap) c.due.ensures in
    subst (λ b. Plays leg.now old (turn_if b tap) c.take_turn.result c.take_turn.new.watched) is c.take_turn.ensures
