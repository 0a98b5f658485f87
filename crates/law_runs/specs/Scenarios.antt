-- Scenarios: a bus, and what happens on it from outside. The run of a scenario on one thread.
use Rattle.std.specs.Prelude.{ℕ, ◌+◌, Bool, true, false, nat_le, ◌==◌, List, [], ◌∷◌, max, Option, Some, None, Result, Ok, Err, if◌then◌else◌}
use Rattle.std.specs.List.{filter_map}
use Rattle.pb_timers.specs.Timers.{Params}
use Rattle.law_turn.specs.Stations.{earlier}
use Rattle.law_model.specs.Trace.{Entry}
use Rattle.law_model.specs.Medium.{TapSpec}
use Rattle.law_model.specs.World.{World, Event, Unheard, Turn, Pass, Damage, Start, Stop, Queue, Noise, Fault, NewFault, new_world}
use Rattle.law_runs.specs.Runs.{Plan, after, run}
use Rattle.law_runs.specs.Bus.{bus}

-- what a step does: it triggers an event, or withholds a tap
pub data Deed : Type 0 where
  Happens : (event : Event) → Deed
  Withhold : (tap bits : ℕ) → Deed

-- a step of a scenario, at a moment
pub record Planned : Type 0 where
  pub at : ℕ
  pub deed : Deed

pub record Scenario : Type 0 where
  pub params : Params
  pub taps : List TapSpec
  pub steps : List Planned
  pub until : ℕ

-- ---- the plan

-- the loss of a telegram at a tap comes after the turns, because that telegram begins with one; all other events come
-- before them
abbrev pub is_late : Event → Bool
is_late (Turn tap) = false
is_late (Pass bits) = false
is_late (Damage tap speaker place) = false
is_late (Start tap) = false
is_late (Stop tap) = false
is_late (Queue tap request) = false
is_late (Noise bits) = false
is_late (Unheard tap speaker) = true

abbrev pub event_before : Deed → Option Event
event_before (Happens e) = if is_late e then None else Some e
event_before (Withhold tap bits) = None

abbrev pub event_after : Deed → Option Event
event_after (Happens e) = if is_late e then Some e else None
event_after (Withhold tap bits) = None

abbrev pub early_of : ℕ → Planned → Option Event
early_of now s = if s.at == now then event_before s.deed else None

abbrev pub late_of : ℕ → Planned → Option Event
late_of now s = if s.at == now then event_after s.deed else None

-- until when a step withholds a tap
abbrev pub deed_holds : ℕ → ℕ → Deed → ℕ
deed_holds tap at (Happens e) = 0
deed_holds tap at (Withhold of bits) = if of == tap then at + bits else 0

abbrev pub holds_until : ℕ → ℕ → Planned → ℕ
holds_until now tap s = if nat_le s.at now then deed_holds tap s.at s.deed else 0

-- until when the steps up to now withhold a tap: the latest end
abbrev pub held_until : List Planned → ℕ → ℕ → ℕ
held_until [] now tap = 0
held_until (s ∷ steps) now tap = max (holds_until now tap s) (held_until steps now tap)

-- the moment of the next step
abbrev pub next_step : List Planned → ℕ → Option ℕ
next_step [] now = None
next_step (s ∷ steps) now = earlier (after now (Some s.at)) (next_step steps now)

abbrev pub plan_of : List Planned → ℕ → Plan Event
plan_of steps until = record {
  early = λ now. filter_map (early_of now) steps;
  late = λ now. filter_map (late_of now) steps;
  held_until = held_until steps;
  later = next_step steps;
  until = until;
}

-- ---- the run on one thread

-- why a run ends early: there is no new world, or an event is refused at a moment
pub data RunFault : Type 0 where
  New : (fault : NewFault) → RunFault
  At : (moment : ℕ) (fault : Fault) → RunFault

abbrev pub outcome_of : Option (Result (World × List Event) (ℕ × Fault)) → Option (Result (World × List Event) RunFault)
outcome_of None = None
outcome_of (Some (Ok end)) = Some (Ok end)
outcome_of (Some (Err fault)) = Some (Err (At fault.0 fault.1))

abbrev pub run_from : Scenario → Result World NewFault → Option (Result (World × List Event) RunFault)
run_from s (Ok w) = outcome_of (run (s.until + 1) bus (plan_of s.steps s.until) 0 w)
run_from s (Err fault) = Some (Err (New fault))

-- The run of a scenario from its new world at 0: its last world and its events, or the fault that ends it. There are as
-- many allowed instants as moments, so this is never None (a law).
abbrev pub run_of : Scenario → Option (Result (World × List Event) RunFault)
run_of s = run_from s (new_world s.params s.taps)

abbrev pub with_end : {A : Type 0} → (World × List Event → A) → Option (Result (World × List Event) RunFault) → Option (Result A RunFault)
with_end f None = None
with_end f (Some (Ok end)) = Some (Ok (f end))
with_end f (Some (Err fault)) = Some (Err fault)

-- the trace of a scenario's run
abbrev pub trace_of : Scenario → Option (Result (List Entry) RunFault)
trace_of s = with_end (λ end. end.0.trace) (run_of s)

-- the events of a scenario's run
abbrev pub events_of : Scenario → Option (Result (List Event) RunFault)
events_of s = with_end (λ end. end.1) (run_of s)
