-- What the alarms of a listener mean for the run that it hears.
use Rattle.std.specs.Prelude.{◌≡◌, ℕ, List, [], None}
use Rattle.pb_timers.specs.Timers.{Params}
use Rattle.law_model.specs.Medium.{TapSpec}
use Rattle.law_model.specs.World.{World, Event}
use Rattle.law_runs.specs.Premises.{first_broken}
use Rattle.law_token.specs.Places.{LeavesTime}
use Rattle.law_token.specs.Promises.{HasRun}
use Rattle.pb_monitor.specs.declared.alarms.AlarmClass.TheVariants.{Legality}
use Rattle.pb_monitor.specs.declared.alarms.Classes.{Classes}
use Rattle.pb_monitor.specs.Captures.{Burst, All, Has}
use Rattle.pb_monitor.specs.Judge.{listening, alarms, class_of}
use Rattle.pb_monitor.specs.Promises.{IsNotOfLegality}
use Rattle.law_monitor.specs.Captures.{HearsSince}

-- bursts that a listener hears, since a moment, of a run on a bus whose parameters leave enough time
pub record IsHeard (p : Params) (specs : List TapSpec) (events : List Event) (new w : World) (since : ℕ) (bs : List Burst) : Type 0 where
  pub time : LeavesTime p
  pub run : HasRun p specs events new w
  pub hears : HearsSince p.ttd since w.trace bs

-- Of a run that keeps the premises no listener raises an alarm of legality, since any moment, with any damage at its own
-- tap, and for any slack.
abbrev pub RunsRaiseNoneOfLegality : Type 0
RunsRaiseNoneOfLegality = (p : Params) (specs : List TapSpec) (events : List Event) (new w : World) (slack : ℕ) (c : Classes) (since : ℕ) (bs : List Burst)
    → IsHeard p specs events new w since bs → first_broken new events ≡ None
    → All (λ x. IsNotOfLegality x.1) (alarms p slack c since (listening since) bs)

-- So if one is raised, the run has broken a premise.
abbrev pub AlarmsOfLegalityProveABrokenPremise : Type 0
AlarmsOfLegalityProveABrokenPremise = (p : Params) (specs : List TapSpec) (events : List Event) (new w : World) (slack : ℕ) (c : Classes) (since : ℕ) (bs : List Burst)
    → IsHeard p specs events new w since bs → Has (λ x. class_of x.1 ≡ Legality) (alarms p slack c since (listening since) bs)
    → first_broken new events ≡ None → ⊥

-- None of any class is raised either: neither after a loss, nor of timing.
abbrev pub RunsRaiseNone : Type 0
RunsRaiseNone = (p : Params) (specs : List TapSpec) (events : List Event) (new w : World) (slack : ℕ) (c : Classes) (since : ℕ) (bs : List Burst)
    → IsHeard p specs events new w since bs → first_broken new events ≡ None → alarms p slack c since (listening since) bs ≡ []
