-- The text of an audit, and of a scenario's audit.
use Rattle.std.specs.Prelude.{ℕ, List, [], ◌++◌, codes, decimal, Option, Some, None, Result, Ok, Err, is_some}
use Rattle.std.specs.Option.{option_map}
use Rattle.law_model.specs.World.{World, Event, NewFault, new_world}
use Rattle.law_runs.specs.Headline.{specs_of}
use Rattle.law_runs.specs.Legality.{first_illegal}
use Rattle.law_runs.specs.Premises.{Broken, first_broken}
use Rattle.law_runs.specs.Scenarios.{Scenario, RunFault, run_of}
use Rattle.pb_world.specs.Auditing.{broken_at}
use Rattle.pb_world.specs.declared.findings.Audit.{Audit}
use Rattle.pb_texts.specs.Shown.{Shown, refusal}
use Rattle.pb_texts.specs.Faults.{run_line}

abbrev pub premise_line : Option Broken → List ℕ
premise_line None = codes "premises kept\n"
premise_line (Some b) = codes "premise P" ++ decimal b.number ++ codes " broken at " ++ decimal b.clock ++ codes "\n"

-- the first illegal initiator record, by its index in the trace, from 0
abbrev pub legality_line : Option ℕ → List ℕ
legality_line None = codes "trace legal\n"
legality_line (Some place) = codes "record " ++ decimal place ++ codes " illegal\n"

abbrev pub audit_text : Option Broken → Option ℕ → List ℕ
audit_text premise illegal = premise_line premise ++ legality_line illegal

-- a broken premise is no refusal; an illegal trace is one
abbrev pub found : Option Broken → Option ℕ → Shown
found premise illegal = record { text = audit_text premise illegal; is_refused = is_some illegal }

abbrev pub broken_of : Audit → Option Broken
broken_of a = option_map broken_at a.premise

-- the first premise that events break, from a new world
abbrev pub broken_from : Result World NewFault → List Event → Option Broken
broken_from (Ok new) events = first_broken new events
broken_from (Err fault) events = None

abbrev pub illegal_in : World → Option ℕ
illegal_in w = first_illegal w.params (specs_of w) w.trace

-- the audit of a run: by its events from the new world, and by the trace of its last world; a run always has an outcome
-- (a law of runs)
abbrev pub audit_of_run : Result World NewFault → Option (Result (World × List Event) RunFault) → Shown
audit_of_run new None = refusal []
audit_of_run new (Some (Ok end)) = found (broken_from new end.1) (illegal_in end.0)
audit_of_run new (Some (Err fault)) = refusal (run_line fault)

abbrev pub audit_of_scenario : Scenario → Shown
audit_of_scenario s = audit_of_run (new_world s.params s.taps) (run_of s)
