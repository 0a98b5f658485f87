-- What a judge is.
use Rattle.std.specs.Prelude.{◌≡◌, ℕ, List}
use Rattle.pb_timers.specs.Timers.{Params}
use Rattle.pb_monitor.specs.declared.alarms.Classes.{Classes}
use Rattle.pb_monitor.specs.declared.states.State.{State}
use Rattle.pb_monitor.specs.Captures.{Burst}
use Rattle.pb_monitor.specs.Judge.{listening, behind_all}

pub record Judging : Type 0 where
  pub params : Params
  pub slack : ℕ
  pub classes : Classes
  -- since when it listens
  pub since : ℕ
  pub state : State

-- it represents the bursts that it has heard
abbrev pub StandsFor : Judging → List Burst → Type 0
StandsFor j bs = j.state ≡ behind_all j.params j.slack (listening j.since) bs
