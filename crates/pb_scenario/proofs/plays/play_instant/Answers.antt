-- What is played at a moment is an instant of the run.
use Rattle.std.proofs.Common.{◌≡◌, ◌∙◌, ℕ, Option, ap}
use Rattle.law_turn.specs.Stations.{earlier}
use Rattle.law_runs.specs.Runs.{next, next_turn, onward, passing, turns}
use Rattle.law_runs.specs.Bus.{bus, dues, next_change}
use Rattle.pb_scenario.specs.Steps.{steps_of}
use Rattle.pb_scenario.specs.Walks.{passes, plan_in}
use Rattle.pb_scenario.specs.declared.deeds.When.TheVariants.{BeforeTurns}
use Rattle.pb_scenario.specs.Said.{said_by}
use Rattle.pb_scenario.specs.Plays.{Happened}
use Rattle.pb_world.proofs.Counting.{count-all}
use Rattle.pb_scenario.proofs.Moving.{happened-as, happened-at, in-err, ready-after, stops-as, stops-at}
use Rattle.pb_scenario.proofs.PlayedInstants.{ends-early, ends-late, ends-passing, ends-turns, goes-on}
use Rattle.pb_scenario.proofs.plays.play_instant.Goals as goal

pub returns-in_err-play_steps : goal.returns-in_err-play_steps
returns-in_err-play_steps g c =
    let walk = c.args.walk.now in
    let old = g.S.Stage.view c.args.stage.now in
    let fault = c.in_err-play_steps.field-0.0 in
    in-err _ _ c.from_residual.result fault c.from_residual.ensures.0 c.from_residual.ensures.1
    (ends-early walk old fault
    (stops-as c.moment_of-now.result walk.clock old.world (said_by BeforeTurns (steps_of c.today.result.now)) ((plan_in walk).early walk.clock) fault c.moment_of-now.ensures c.today.ensures.early c.in_err-play_steps.ensures))

pub play_turns-requires-clause-taps : goal.play_turns-requires-clause-taps
play_turns-requires-clause-taps g c =
    let old = g.S.Stage.view c.args.stage.now in
    let a = g.S.Stage.view c.play_steps.new.stage in
    count-all c.moment_of-now.result (said_by BeforeTurns (steps_of c.today.result.now)) old.world a.world c.in_ok-play_steps.ensures.world ∙ c.requires.taps

pub play_turns-requires-clause-ready : goal.play_turns-requires-clause-ready
play_turns-requires-clause-ready g c =
    ready-after c.moment_of-now.result (g.S.Stage.view c.args.stage.now) (g.S.Stage.view c.play_steps.new.stage) _ c.in_ok-play_steps.ensures c.requires.ready

pub returns-in_err-soonest : goal.returns-in_err-soonest
returns-in_err-soonest g c =
    let walk = c.args.walk.now in
    let m = c.moment_of-now.result in
    let at = c.moment_of-now.ensures in
    let old = g.S.Stage.view c.args.stage.now in
    let a = g.S.Stage.view c.play_steps.new.stage in
    let one : Happened walk.clock old ((plan_in walk).early walk.clock) a = happened-as m walk.clock old a _ _ at c.today.ensures.early c.in_ok-play_steps.ensures in
    let fault = c.in_err-soonest.field-0.0 in
    in-err _ _ c.from_residual-in_err-soonest.result fault c.from_residual-in_err-soonest.ensures.0 c.from_residual-in_err-soonest.ensures.1
    (ends-turns walk old a fault one (stops-at m walk.clock a.world (turns bus (plan_in walk) walk.clock a.world) fault at c.in_err-soonest.ensures.plays))

pub play_late-requires-clause-taps : goal.play_late-requires-clause-taps
play_late-requires-clause-taps g c =
    let walk = c.args.walk.now in
    let m = c.moment_of-now.result in
    let old = g.S.Stage.view c.args.stage.now in
    let a = g.S.Stage.view c.play_steps.new.stage in
    let b = g.S.Stage.view c.play_turns.new.stage in
    count-all m (turns bus (plan_in walk) walk.clock a.world) a.world b.world c.in_ok-soonest.ensures.plays.world
    ∙ count-all m (said_by BeforeTurns (steps_of c.today.result.now)) old.world a.world c.in_ok-play_steps.ensures.world ∙ c.requires.taps

pub play_late-requires-clause-ready : goal.play_late-requires-clause-ready
play_late-requires-clause-ready g c =
    let m = c.moment_of-now.result in
    let old = g.S.Stage.view c.args.stage.now in
    let a = g.S.Stage.view c.play_steps.new.stage in
    let b = g.S.Stage.view c.play_turns.new.stage in
    ready-after m a b _ c.in_ok-soonest.ensures.plays (ready-after m old a _ c.in_ok-play_steps.ensures c.requires.ready)

pub returns-in_err-turn : goal.returns-in_err-turn
returns-in_err-turn g c =
    let walk = c.args.walk.now in
    let m = c.moment_of-now.result in
    let at = c.moment_of-now.ensures in
    let old = g.S.Stage.view c.args.stage.now in
    let a = g.S.Stage.view c.play_steps.new.stage in
    let b = g.S.Stage.view c.play_turns.new.stage in
    let one : Happened walk.clock old ((plan_in walk).early walk.clock) a = happened-as m walk.clock old a _ _ at c.today.ensures.early c.in_ok-play_steps.ensures in
    let two : Happened walk.clock a (turns bus (plan_in walk) walk.clock a.world) b = happened-at m walk.clock a b _ at c.in_ok-soonest.ensures.plays in
    let fault = c.in_err-turn.field-0.0 in
    in-err _ _ c.from_residual-in_err-turn.result fault c.from_residual-in_err-turn.ensures.0 c.from_residual-in_err-turn.ensures.1
    (ends-late walk old a b fault one two (stops-at m walk.clock b.world ((plan_in walk).late walk.clock) fault at c.in_err-turn.ensures.plays))

pub returns-in_err-play_pass : goal.returns-in_err-play_pass
returns-in_err-play_pass g c =
    let walk = c.args.walk.now in
    let m = c.moment_of-now.result in
    let at = c.moment_of-now.ensures in
    let old = g.S.Stage.view c.args.stage.now in
    let a = g.S.Stage.view c.play_steps.new.stage in
    let b = g.S.Stage.view c.play_turns.new.stage in
    let after = g.S.Stage.view c.play_late.new.stage in
    let one : Happened walk.clock old ((plan_in walk).early walk.clock) a = happened-as m walk.clock old a _ _ at c.today.ensures.early c.in_ok-play_steps.ensures in
    let two : Happened walk.clock a (turns bus (plan_in walk) walk.clock a.world) b = happened-at m walk.clock a b _ at c.in_ok-soonest.ensures.plays in
    let three : Happened walk.clock b ((plan_in walk).late walk.clock) after = happened-at m walk.clock b after _ at c.in_ok-turn.ensures.plays in
    let p = plan_in walk in
    let t = c.next_by-next.result in
    let next_is : t ≡ next p walk.clock (dues after.world) (next_change after.world) =
    c.next_by-next.ensures.next
    ∙ ap (λ (o : Option ℕ). onward p walk.clock (earlier (p.later walk.clock) (earlier c.next_change.result o))) (c.in_ok-turn.ensures.first c.in_ok-soonest.ensures.first)
    ∙ ap (λ (o : Option ℕ). onward p walk.clock (earlier (p.later walk.clock) (earlier o (next_turn p walk.clock 0 (dues after.world))))) (c.next_change.ensures ∙ ap next_change c.bus.ensures.world) in
    let fault = c.in_err-play_pass.field-0.0 in
    in-err _ _ c.from_residual-in_err-play_pass.result fault c.from_residual-in_err-play_pass.ensures.0 c.from_residual-in_err-play_pass.ensures.1
    (ends-passing walk old a b after t fault one two three next_is
    (stops-as m walk.clock after.world (passes c.pass_to.result) (passing bus p walk.clock t) fault at c.pass_to.ensures c.in_err-play_pass.ensures))

pub returns : goal.returns
returns g c =
    let walk = c.args.walk.now in
    let m = c.moment_of-now.result in
    let at = c.moment_of-now.ensures in
    let old = g.S.Stage.view c.args.stage.now in
    let a = g.S.Stage.view c.play_steps.new.stage in
    let b = g.S.Stage.view c.play_turns.new.stage in
    let after = g.S.Stage.view c.play_late.new.stage in
    let d = g.S.Stage.view c.play_pass.new.stage in
    let one : Happened walk.clock old ((plan_in walk).early walk.clock) a = happened-as m walk.clock old a _ _ at c.today.ensures.early c.in_ok-play_steps.ensures in
    let two : Happened walk.clock a (turns bus (plan_in walk) walk.clock a.world) b = happened-at m walk.clock a b _ at c.in_ok-soonest.ensures.plays in
    let three : Happened walk.clock b ((plan_in walk).late walk.clock) after = happened-at m walk.clock b after _ at c.in_ok-turn.ensures.plays in
    let p = plan_in walk in
    let t = c.next_by-next.result in
    let next_is : t ≡ next p walk.clock (dues after.world) (next_change after.world) =
    c.next_by-next.ensures.next
    ∙ ap (λ (o : Option ℕ). onward p walk.clock (earlier (p.later walk.clock) (earlier c.next_change.result o))) (c.in_ok-turn.ensures.first c.in_ok-soonest.ensures.first)
    ∙ ap (λ (o : Option ℕ). onward p walk.clock (earlier (p.later walk.clock) (earlier o (next_turn p walk.clock 0 (dues after.world))))) (c.next_change.ensures ∙ ap next_change c.bus.ensures.world) in
    let four : Happened walk.clock after (passing bus p walk.clock t) d = happened-as m walk.clock after d _ _ at c.pass_to.ensures c.in_ok-play_pass.ensures in
    goes-on walk old a b after d t one two three next_is c.next_by-next.ensures.bounds four
