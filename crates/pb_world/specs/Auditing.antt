-- What an audit finds.
use Rattle.std.specs.Prelude.{◌≡◌, ℕ, List, None, Ok}
use Rattle.std.specs.Option.{option_map}
use Rattle.pb_timers.specs.Timers.{Params}
use Rattle.law_model.specs.Medium.{TapSpec}
use Rattle.law_model.specs.World.{World, Event, new_world}
use Rattle.law_runs.specs.Headline.{specs_of}
use Rattle.law_runs.specs.Legality.{first_illegal}
use Rattle.law_runs.specs.Premises.{Broken, first_broken}
use Rattle.law_live.specs.Promises.{KeepsPromises}
use Rattle.pb_taps.specs.Faults.{RefusesNew}
use Rattle.law_model.specs.Step.{RunsTo}
use Rattle.pb_world.specs.Worlds.{StopsAt}
use Rattle.pb_world.specs.declared.findings.Audit.{Audit}
use Rattle.pb_world.specs.declared.findings.AuditFault.{AuditFault}
use Rattle.pb_world.specs.declared.findings.AuditFault.TheVariants as audit

-- a premise by its number, with the clock after the event that broke it
abbrev pub broken_at : ℕ × ℕ → Broken
broken_at b = record { number = b.0; clock = b.1 }

-- The events lead from the new world to one that keeps the promises; the premise is the first that they break, and the
-- record is the first illegal one of its trace.
abbrev pub Finds : Params → List TapSpec → List Event → Audit → Type 0
Finds p specs events found = (new w : World) × (new_world p specs ≡ Ok new) × RunsTo new events w
    × (option_map broken_at found.premise ≡ first_broken new events) × (found.illegal ≡ first_illegal w.params (specs_of w) w.trace) × KeepsPromises new events w

-- if no premise is broken, no telegram is illegal
abbrev pub IsLegalIfKept : Audit → Type 0
IsLegalIfKept found = found.premise ≡ None → found.illegal ≡ None

-- there is no new world, or it leads to one that refuses the event at an index
abbrev pub RefusesAudit : Params → List TapSpec → List Event → AuditFault → Type 0
RefusesAudit p specs events (audit.New fault) = RefusesNew (new_world p specs) fault
RefusesAudit p specs events (audit.At place fault) = (new next : World) × (new_world p specs ≡ Ok new) × StopsAt new events place fault next
