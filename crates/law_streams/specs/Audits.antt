-- The audit of a run within a number of entries, as far as it goes.
use Rattle.std.specs.Prelude.{ℕ, ◌+◌, List, [], Bool, false, Option, Some, None, Result, Ok, Err}
use Rattle.law_model.specs.World.{World, Event, Turn, Pass, Reply, Fault, NewFault, new_world_within}
use Rattle.law_model.specs.Step.{step}
use Rattle.law_runs.specs.Runs.{Machine, run}
use Rattle.law_runs.specs.Bus.{dues, next_change}
use Rattle.law_runs.specs.Headline.{specs_of}
use Rattle.law_runs.specs.Legality.{first_illegal}
use Rattle.law_runs.specs.Premises.{Broken, Course, followed, first_broken}
use Rattle.law_runs.specs.Scenarios.{Scenario, RunFault, New, At, plan_of, run_from, with_end}
use Rattle.law_streams.specs.Limits.{is_stopped_full}

-- ---- a bus that is watched, and says with which course of events it refuses one

abbrev pub watched_on : Course → Event → Result (World × Reply) Fault → Result (Course × Reply) (Course × Fault)
watched_on c e (Ok next) = Ok (followed c e (Ok next), next.1)
watched_on c e (Err fault) = Err (c, fault)

abbrev pub watched_bus : Machine Course Event Reply (Course × Fault)
watched_bus = record { step = λ c e. watched_on c e (step c.world e); turn = Turn; pass = Pass; due = λ c. dues c.world; change = λ c. next_change c.world }

-- before the first event
abbrev pub no_events : World → Course
no_events w = record { world = w; waited = []; broken = None }

-- ---- an audit

-- what is found up to the end of a run or up to the event that is refused, and the fault, if there is one
pub record Audited : Type 0 where
  pub premise : Option Broken
  pub illegal : Option ℕ
  pub fault : Option RunFault

abbrev pub illegal_in : World → Option ℕ
illegal_in w = first_illegal w.params (specs_of w) w.trace

abbrev pub audited_of : Option (Result (Course × List Event) (ℕ × (Course × Fault))) → Option Audited
audited_of None = None
audited_of (Some (Ok end)) = Some (record { premise = end.0.broken; illegal = illegal_in end.0.world; fault = None })
audited_of (Some (Err stop)) = Some (record { premise = stop.1.0.broken; illegal = illegal_in stop.1.0.world; fault = Some (At stop.0 stop.1.1) })

abbrev pub audited_from : Scenario → Result World NewFault → Option Audited
audited_from s (Ok w) = audited_of (run (s.until + 1) watched_bus (plan_of s.steps s.until) 0 (no_events w))
audited_from s (Err fault) = Some (record { premise = None; illegal = None; fault = Some (New fault) })

abbrev pub audited_within : ℕ → Scenario → Option Audited
audited_within limit s = audited_from s (new_world_within limit s.params s.taps)

abbrev pub audit_ends_full : Option Audited → Bool
audit_ends_full None = false
audit_ends_full (Some a) = is_stopped_full a.fault

-- ---- an audit and its run

-- what is found in a run that ends: the first premise that its events break, and the first illegal record of its trace
abbrev pub found_in : World → World × List Event → Option Broken × Option ℕ
found_in new end = (first_broken new end.1, illegal_in end.0)

abbrev pub findings_from : Scenario → Result World NewFault → Option (Result (Option Broken × Option ℕ) RunFault)
findings_from s (Ok w) = with_end (found_in w) (run_from s (Ok w))
findings_from s (Err fault) = Some (Err (New fault))

-- what a run has of an audit: all that is found, or the fault alone
abbrev pub ended : Option Broken × Option ℕ → Option RunFault → Result (Option Broken × Option ℕ) RunFault
ended found None = Ok found
ended found (Some fault) = Err fault

abbrev pub findings_of_audit : Option Audited → Option (Result (Option Broken × Option ℕ) RunFault)
findings_of_audit None = None
findings_of_audit (Some a) = Some (ended (a.premise, a.illegal) a.fault)
