-- The bus has come by the events of the run, so its trace is the run's.
use Rattle.std.proofs.Common.{◌≡◌, ◌∙◌, List, Some, Ok, ap, sym, subst, map}
use Rattle.law_model.specs.Trace.{Entry}
use Rattle.law_model.specs.World.{trace_limit, new_world}
use Rattle.law_runs.specs.Judging.{StandsFrom}
use Rattle.law_runs.proofs.Ordered.{leads-in-order}
use Rattle.pb_taps.specs.Taps.{spec_of}
use Rattle.pb_world.specs.Buses.{world_of}
use Rattle.pb_scenario.proofs.RunEnds.{traced}
use Rattle.pb_scenario.proofs.traces.trace_of.Goals as goal

pub returns-clause-trace : goal.returns-clause-trace
returns-clause-trace c =
    let s = c.args.scenario.now.scenario in
    let start = world_of c.in-Ok.bus in
    let end = world_of c.play.new.stage.bus in
    let made : new_world s.params s.taps ≡ Ok start =
    subst (λ ts. new_world s.params ts ≡ Ok start) c.taps.ensures.specs (subst (λ p. new_world p (map spec_of c.taps.result.now) ≡ Ok start) c.params.ensures c.in-Ok.ensures.ok) in
    let (events, is, came) = c.in_ok-play.ensures.played in
    traced s start end events c.the_events_of_a_run_lead_to_its_end.ensures made is came.leads ∙ ap (λ (es : List Entry). Some (Ok es)) (sym c.into_entries.ensures)

pub returns-clause-order : goal.returns-clause-order
returns-clause-order c =
    let s = c.args.scenario.now.scenario in
    let start = world_of c.in-Ok.bus in
    let end = world_of c.play.new.stage.bus in
    let made : new_world s.params s.taps ≡ Ok start =
    subst (λ ts. new_world s.params ts ≡ Ok start) c.taps.ensures.specs (subst (λ p. new_world p (map spec_of c.taps.result.now) ≡ Ok start) c.params.ensures c.in-Ok.ensures.ok) in
    let (events, is, came) = c.in_ok-play.ensures.played in
    subst (StandsFrom 0) (sym c.into_entries.ensures) (leads-in-order s.params s.taps events start end (trace_limit, made) came.leads)
