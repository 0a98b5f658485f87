-- Late steps have happened.
use Rattle.std.proofs.Common.{◌∙◌, subst}
use Rattle.std.specs.Prelude.{length}
use Rattle.law_runs.specs.Runs.{all}
use Rattle.law_runs.specs.Bus.{bus}
use Rattle.pb_world.proofs.Counting.{count-all}
use Rattle.pb_scenario.specs.Plays.{Happened}
use Rattle.pb_scenario.specs.Said.{said_by}
use Rattle.pb_scenario.specs.Steps.{steps_of}
use Rattle.pb_scenario.specs.declared.deeds.When.TheVariants.{AfterTurns}
use Rattle.pb_scenario.proofs.Moving.{in-err, ready-after, stops-as}
use Rattle.pb_scenario.proofs.plays.play_late.Goals as goal

pub next_turn-requires-clause-taps : goal.next_turn-requires-clause-taps
next_turn-requires-clause-taps g c =
    let old = g.S.Stage.view c.args.stage.now in
    let new = g.S.Stage.view c.play_steps.new.stage in
    count-all c.args.now (said_by AfterTurns (steps_of c.today-2.result.now)) old.world new.world c.in_ok-play_steps.ensures.world ∙ c.requires.taps

pub next_turn-requires-clause-ready : goal.next_turn-requires-clause-ready
next_turn-requires-clause-ready g c =
    ready-after c.args.now (g.S.Stage.view c.args.stage.now) (g.S.Stage.view c.play_steps.new.stage) _ c.in_ok-play_steps.ensures c.requires.ready

pub returns-clause-plays : goal.returns-clause-plays
returns-clause-plays g c =
    let old = g.S.Stage.view c.args.stage.now in
    let new = g.S.Stage.view c.play_steps.new.stage in
    subst (λ es. Happened c.args.now old es new) c.today-2.ensures.late c.in_ok-play_steps.ensures
