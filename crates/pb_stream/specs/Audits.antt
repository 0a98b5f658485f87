-- The audit of a run as it happens: what is known between instants, and what an instant finds.
use Rattle.std.specs.Prelude.{◌≡◌, ℕ, ◌+◌, ◌<◌, ◌≤◌, List, length, Option, Some, None, IfSome}
use Rattle.std.specs.Option.{option_map}
use Rattle.pb_timers.specs.Timers.{Params}
use Rattle.law_model.specs.Medium.{TapSpec}
use Rattle.law_model.specs.Trace.{Entry}
use Rattle.law_runs.specs.Headline.{specs_of}
use Rattle.law_runs.specs.Judging.{IsOrdered, Stands}
use Rattle.law_runs.specs.Legality.{first_illegal}
use Rattle.law_runs.specs.Premises.{Broken, Course}
use Rattle.law_runs.specs.Watching.{StandsFor}
use Rattle.law_runs.specs.Runs.{run}
use Rattle.law_runs.specs.Scenarios.{RunFault, At}
use Rattle.law_streams.specs.Audits.{Audited, audited_of, watched_bus}
use Rattle.law_streams.specs.Judgement.{kept_of}
use Rattle.pb_scenario.specs.Faults.{model_fault}
use Rattle.pb_scenario.specs.Walks.{plan_in}
use Rattle.pb_world.specs.Auditing.{broken_at, IsLegalIfKept}
use Rattle.pb_world.specs.Judges.{HasHeard}
use Rattle.pb_world.specs.Premises.{watched_of}
use Rattle.pb_world.specs.Watched.{world_in, IsFollowed}
use Rattle.pb_world.specs.declared.findings.Audit.{Audit}
use Rattle.pb_world.specs.declared.judge.Judge.{Judge}
use Rattle.pb_world.specs.declared.watched.Watched.{Watched}
use Rattle.pb_stream.specs.Stages.{GoesFrom, watched_view}
use Rattle.pb_stream.specs.declared.audits.AuditStream.{AuditStream}
use Rattle.pb_stream.specs.declared.streams.Progress.{Progress}
use Rattle.pb_stream.specs.declared.streams.Progress.TheVariants.{Goes, Ended, Refused}

-- ---- what was found

abbrev pub premise_of : Audit → Option Broken
premise_of found = option_map broken_at found.premise

-- what was found is all that is found, with the fault that ends the run
abbrev pub found_with : Audit → Option RunFault → Audited
found_with found fault = record { premise = premise_of found; illegal = found.illegal; fault = fault }

-- what was found once is not found otherwise later; while no premise is broken, no record is illegal
pub record StaysFound (old new : Audit) : Type 0 where
  pub premise : (b : Broken) → premise_of old ≡ Some b → premise_of new ≡ Some b
  pub illegal : (place : ℕ) → old.illegal ≡ Some place → new.illegal ≡ Some place
  pub legal : IsLegalIfKept new

-- it is what a watch has found in the events of a course, and what a judge has in the entries that it has heard
pub record IsFoundBy (w : Watched) (judge : Judge) (found : Audit) : Type 0 where
  pub premise : (c : Course) → StandsFor (watched_of w.watch) c → premise_of found ≡ c.broken
  pub illegal : (p : Params) (specs : List TapSpec) (entries : List Entry) → HasHeard p specs entries judge → IsOrdered entries → found.illegal ≡ first_illegal p specs entries

-- ---- between instants

-- The events of a run so far have led to it, and with those to come this is found.
pub record IsAuditOf (whole : Option Audited) (s : AuditStream) : Type 0 where
  -- the entries that were let go
  pub gone : List Entry
  pub course : Course
  pub from : GoesFrom (watched_view s.watched) gone course
  pub followed : IsFollowed s.watched
  pub stands : Stands course.world
  pub heard : HasHeard course.world.params (specs_of course.world) gone s.judge
  pub premise : premise_of s.found ≡ course.broken
  pub illegal : s.found.illegal ≡ (kept_of course.world.params (specs_of course.world) gone).illegal
  pub in_time : s.walk.clock ≤ s.walk.until
  pub taps : length (world_in s.watched).taps ≡ s.walk.taps
  pub rest : whole ≡ audited_of (run (s.walk.until + 1) watched_bus (plan_in s.walk) s.walk.clock course)

abbrev pub IsAuditing : AuditStream → Type 0
IsAuditing s = (whole : Option Audited) × IsAuditOf whole s

-- ---- an instant

-- it goes on, later
pub record GoesOn (whole : Option Audited) (old new : AuditStream) : Type 0 where
  pub audit : IsAuditOf whole new
  pub until : new.walk.until ≡ old.walk.until
  pub later : old.walk.clock < new.walk.clock

-- it goes on; or what was found is what is found up to the end, or up to the event that is refused
abbrev pub Finds : Progress → Option Audited → AuditStream → AuditStream → Type 0
Finds Goes whole old new = GoesOn whole old new × StaysFound old.found new.found
Finds Ended whole old new = (whole ≡ Some (found_with new.found None)) × StaysFound old.found new.found
Finds (Refused clock fault) whole old new = IfSome (model_fault fault) (λ f. (whole ≡ Some (found_with new.found (Some (At clock f)))) × StaysFound old.found new.found)

-- of whatever run has led to it
abbrev pub FindsOf : Progress → AuditStream → AuditStream → Type 0
FindsOf progress old new = (whole : Option Audited) → IsAuditOf whole old → Finds progress whole old new
