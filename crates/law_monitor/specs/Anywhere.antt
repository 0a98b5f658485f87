-- A listener anywhere on the line: what a tap sends reaches it later by a delay of that tap's, at most the cable delay.
use Rattle.std.specs.Prelude.{◌≡◌, ℕ, ◌+◌, ◌≤◌, List, [], map, None}
use Rattle.pb_timers.specs.Timers.{Params}
use Rattle.pb_timers.specs.ParamRules.{IsValid}
use Rattle.law_model.specs.Trace.{Entry, Sent, Noise}
use Rattle.law_model.specs.Medium.{TapSpec}
use Rattle.law_model.specs.World.{World, Event}
use Rattle.law_runs.specs.Premises.{first_broken}
use Rattle.law_token.specs.Promises.{HasRun}
use Rattle.pb_monitor.specs.declared.alarms.Classes.{Classes}
use Rattle.pb_monitor.specs.Captures.{Burst}
use Rattle.pb_monitor.specs.Judge.{listening, alarms}
use Rattle.law_monitor.specs.Captures.{HearsSince}

-- an entry when it is at the listener: a telegram later by its speaker's delay, noise at once
abbrev pub as_heard : (delays : ℕ → ℕ) → Entry → Entry
as_heard delays (Noise span) = Noise span
as_heard delays (Sent r) = Sent (record r { begin = r.begin + delays r.tap; end = r.end + delays r.tap })

-- the bursts that it hears of a trace since a moment
abbrev pub HearsAnywhere : (delays : ℕ → ℕ) → ℕ → List Entry → List Burst → Type 0
HearsAnywhere delays since trace bs = HearsSince 0 since (map (as_heard delays) trace) bs

-- one that hears all telegrams the same delay later is such a listener
abbrev pub TheSameDelayIsOne : Type 0
TheSameDelayIsOne = (delay since : ℕ) (trace : List Entry) (bs : List Burst) → HearsSince delay since trace bs → HearsAnywhere (λ _. delay) since trace bs

-- bursts that such a listener hears of a run
pub record IsHeardAnywhere (p : Params) (specs : List TapSpec) (events : List Event) (new w : World) (delays : ℕ → ℕ) (since : ℕ) (bs : List Burst) : Type 0 where
  pub valid : IsValid p
  pub run : HasRun p specs events new w
  pub near : (tap : ℕ) → delays tap ≤ p.ttd
  pub hears : HearsAnywhere delays since w.trace bs

-- If the run keeps the premises, no alarm of any class is raised wherever the listener is on the line.
abbrev pub RunsRaiseNoneAnywhere : Type 0
RunsRaiseNoneAnywhere = (p : Params) (specs : List TapSpec) (events : List Event) (new w : World) (delays : ℕ → ℕ) (slack : ℕ) (c : Classes) (since : ℕ) (bs : List Burst)
    → IsHeardAnywhere p specs events new w delays since bs → first_broken new events ≡ None → alarms p slack c since (listening since) bs ≡ []

-- So an alarm of any class means that a premise was broken.
abbrev pub AlarmsProveABrokenPremise : Type 0
AlarmsProveABrokenPremise = (p : Params) (specs : List TapSpec) (events : List Event) (new w : World) (delays : ℕ → ℕ) (slack : ℕ) (c : Classes) (since : ℕ) (bs : List Burst)
    → IsHeardAnywhere p specs events new w delays since bs → (alarms p slack c since (listening since) bs ≡ [] → ⊥) → first_broken new events ≡ None → ⊥
