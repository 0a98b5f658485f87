-- What is written where a fault ends a scenario's run.
use Rattle.std.proofs.Common.{◌≡◌, ◌≢◌, ℕ, List, Option, Some, None, Result, Ok, Err, ap, sym}
use Rattle.std.specs.Prelude.{IfSome}
use Rattle.law_model.specs.World as model
use Rattle.law_model.specs.World.{World, Event, new_world}
use Rattle.law_runs.specs.Scenarios.{RunFault, At, run_of, run_from, with_end, events_of}
use Rattle.pb_taps.specs.Faults.{RefusesNew, world_fault}
use Rattle.pb_taps.specs.declared.faults.NewFault as taps
use Rattle.pb_taps.specs.declared.faults.NewFault.TheVariants as new
use Rattle.pb_taps.specs.declared.faults.WorldFault.{WorldFault}
use Rattle.pb_taps.specs.declared.faults.WorldFault.TheVariants as fault
use Rattle.pb_scenario.specs.Faults.{EndsBy, model_fault}
use Rattle.pb_scenario.specs.Scenarios.{ScenarioView}
use Rattle.pb_scenario.specs.declared.faults.RunFault as code
use Rattle.pb_scenario.specs.declared.faults.RunFault.TheVariants as run
use Rattle.pb_texts.specs.Shown.{refusal}
use Rattle.pb_texts.specs.Faults.{IsTold, line_of_run, new_line, refused_line}
use Rattle.pb_export.specs.declared.options.Export.{Export}
use Rattle.pb_export.specs.Exports.{export_of_run, export_of_scenario}
use Rattle.pb_texts.proofs.Outcomes.{world_fault-of}

-- ---- the fault of a run

no_world : (x : Export) (s : ScenarioView) (r : Result World model.NewFault) (f : taps.NewFault) → RefusesNew r f → f ≢ new.NoMemory
    → export_of_run x s (with_end (λ (last : World × List Event). last.0.trace) (run_from s.scenario r)) ≡ refusal (new_line f)
no_world x s (Ok w) f refuses told = absurd (told refuses)
no_world x s (Err g) f refuses told = ap (λ (n : taps.NewFault). refusal (new_line n)) (sym refuses)

refused_in : (x : Export) (s : ScenarioView) (r : Option (Result (World × List Event) RunFault)) (clock : ℕ) (g : model.Fault)
    → with_end (λ (last : World × List Event). last.1) r ≡ Some (Err (At clock g))
    → export_of_run x s (with_end (λ (last : World × List Event). last.0.trace) r) ≡ refusal (refused_line (world_fault g) clock)
refused_in x s None clock g end = absurd cc
refused_in x s (Some (Ok last)) clock g end = absurd cc
refused_in x s (Some (Err fault)) clock g end =
    let same : fault ≡ At clock g = cc end in
    ap (λ (f : RunFault). export_of_run x s (Some (Err f))) same

refused_each : (x : Export) (s : ScenarioView) (clock : ℕ) (g : Option model.Fault)
    → IfSome g (λ g. events_of s.scenario ≡ Some (Err (At clock g)))
    → IfSome g (λ g. export_of_scenario x s ≡ refusal (refused_line (world_fault g) clock))
refused_each x s clock None end = end
refused_each x s clock (Some g) end = refused_in x s (run_of s.scenario) clock g end

pub export-refused : (x : Export) (s : ScenarioView) (f : code.RunFault) → EndsBy s.scenario f → IsTold f
    → export_of_scenario x s ≡ refusal (line_of_run f)
export-refused x s (run.New f) ends told = no_world x s (new_world s.scenario.params s.scenario.taps) f ends told
export-refused x s (run.At clock f) ends told =
    world_fault-of f (λ (n : WorldFault). export_of_scenario x s ≡ refusal (refused_line n clock)) (refused_each x s clock (model_fault f) ends) told
