-- The laws of runs where the data with which taps reply change between the events. The premises are judged on the events
-- alone.
use Rattle.std.specs.Prelude.{◌≡◌, ℕ, ◌+◌, ◌≤◌, true, List, [], ◌∷◌, slice_get, Some, None, Result, Ok, Err}
use Rattle.pb_timers.specs.Timers.{Params}
use Rattle.pb_timers.specs.ParamRules.{IsValid}
use Rattle.law_model.specs.Medium.{TapSpec, Tap}
use Rattle.law_model.specs.World.{World, Fault}
use Rattle.law_model.specs.Step.{step, world_after}
use Rattle.law_runs.specs.Headline.{MayInitiate}
use Rattle.law_runs.specs.Legality.{address_at}
use Rattle.law_token.specs.Actions.{Action, Happens, Sets, AreActions, LeadsTo, HasActed, first_broken_by}
use Rattle.law_token.specs.Data.{set_data}
use Rattle.law_token.specs.Places.{LeavesTime}
use Rattle.pb_monitor.specs.declared.alarms.Classes.{Classes}
use Rattle.pb_monitor.specs.Captures.{Burst, All, AllClear}
use Rattle.pb_monitor.specs.Holders.{holder_of}
use Rattle.pb_monitor.specs.Judge.{listening, alarms}
use Rattle.pb_monitor.specs.Promises.{IsBySource}
use Rattle.law_monitor.specs.Anywhere.{HearsAnywhere}
use Rattle.law_monitor.specs.Captures.{HearsSince}
use Rattle.law_monitor.specs.Naming.{Allows, kept}
use Rattle.law_monitor.specs.Taps.{Tape, blank, taped, IsSensed, IsOfOthers}
use Rattle.law_monitor.specs.Timely.{AllTimely}

-- ---- telegrams

-- whatever the premises, each token and each request has its speaker's address as its source
abbrev pub TelegramsNameTheirSpeakersByActions : Type 0
TelegramsNameTheirSpeakersByActions = (p : Params) (specs : List TapSpec) (actions : List Action) (new w : World) → p.hsa ≤ 126
    → HasActed p specs actions new w → All (IsBySource specs) w.trace

-- if the events keep the premises, each initiator telegram comes in time
abbrev pub RunsAreTimelyByActions : Type 0
RunsAreTimelyByActions = (p : Params) (specs : List TapSpec) (actions : List Action) (new w : World) → LeavesTime p
    → HasActed p specs actions new w → first_broken_by new actions ≡ None → AllTimely p specs w.trace

-- ---- alarms

-- bursts that a listener hears, a cable delay after the telegrams
pub record IsHeardByActions (p : Params) (specs : List TapSpec) (actions : List Action) (new w : World) (since : ℕ) (bs : List Burst) : Type 0 where
  pub time : LeavesTime p
  pub acted : HasActed p specs actions new w
  pub hears : HearsSince p.ttd since w.trace bs

-- If the events keep the premises, no alarm of any class is raised.
abbrev pub RunsRaiseNoneByActions : Type 0
RunsRaiseNoneByActions = (p : Params) (specs : List TapSpec) (actions : List Action) (new w : World) (slack : ℕ) (c : Classes) (since : ℕ) (bs : List Burst)
    → IsHeardByActions p specs actions new w since bs → first_broken_by new actions ≡ None → alarms p slack c since (listening since) bs ≡ []

-- bursts that a listener hears anywhere on the line
pub record IsHeardAnywhereByActions (p : Params) (specs : List TapSpec) (actions : List Action) (new w : World) (delays : ℕ → ℕ) (since : ℕ) (bs : List Burst) : Type 0 where
  pub valid : IsValid p
  pub acted : HasActed p specs actions new w
  pub near : (tap : ℕ) → delays tap ≤ p.ttd
  pub hears : HearsAnywhere delays since w.trace bs

-- None is raised there either.
abbrev pub RunsRaiseNoneAnywhereByActions : Type 0
RunsRaiseNoneAnywhereByActions = (p : Params) (specs : List TapSpec) (actions : List Action) (new w : World) (delays : ℕ → ℕ) (slack : ℕ) (c : Classes) (since : ℕ) (bs : List Burst)
    → IsHeardAnywhereByActions p specs actions new w delays since bs → first_broken_by new actions ≡ None → alarms p slack c since (listening since) bs ≡ []

-- So an alarm of any class means that an event broke a premise.
abbrev pub AlarmsProveABrokenPremiseByActions : Type 0
AlarmsProveABrokenPremiseByActions = (p : Params) (specs : List TapSpec) (actions : List Action) (new w : World) (delays : ℕ → ℕ) (slack : ℕ) (c : Classes) (since : ℕ) (bs : List Burst)
    → IsHeardAnywhereByActions p specs actions new w delays since bs → (alarms p slack c since (listening since) bs ≡ [] → ⊥)
    → first_broken_by new actions ≡ None → ⊥

-- ---- names

-- A listener has heard bursts, a cable delay after the clock of a world: the last of them has ended, and nothing has begun
-- since. More actions may have led on from that world.
pub record HearsBetweenActions (p : Params) (specs : List TapSpec) (actions more : List Action) (new w later : World) (slack since : ℕ) (bs : List Burst) : Type 0 where
  pub time : LeavesTime p
  pub acted : HasActed p specs actions new w
  pub are : AreActions more
  pub goes_on : LeadsTo w more later
  pub hears : HearsSince p.ttd since later.trace bs
  pub over : (kept p slack since bs).quiet ≤ w.now + p.ttd
  pub nothing : AllClear p.ttd (kept p slack since bs).quiet (w.now + p.ttd + 1) later.trace

-- If the events up to that world have kept the premises, whichever tap may initiate in it is the one that is named, or
-- nobody is.
abbrev pub NamedOrNobodyByActions : Type 0
NamedOrNobodyByActions = (p : Params) (specs : List TapSpec) (actions more : List Action) (new w later : World) (slack since : ℕ) (bs : List Burst)
    → HearsBetweenActions p specs actions more new w later slack since bs → first_broken_by new actions ≡ None
    → (tap : ℕ) → MayInitiate w tap → Allows (holder_of p slack (kept p slack since bs) (w.now + p.ttd)) (address_at specs tap)

-- ---- taps

-- the world after an action, unchanged where it is refused
abbrev pub data_after : World → Result World Fault → World
data_after w (Err fault) = w
data_after w (Ok next) = next

abbrev pub world_then : World → Action → World
world_then w (Happens e) = world_after w (step w e)
world_then w (Sets tap unit) = data_after w (set_data w tap unit)

-- a tap notes what events tell it; a change of data tells it nothing
abbrev pub taped_by : (tap : ℕ) → World → Tape → Action → Tape
taped_by tap w tape (Happens e) = taped tap w tape e
taped_by tap w tape (Sets k unit) = tape

abbrev pub taped_all_by : (tap : ℕ) → World → Tape → List Action → Tape
taped_all_by tap w tape [] = tape
taped_all_by tap w tape (a ∷ more) = taped_all_by tap (world_then w a) (taped_by tap w tape a) more

-- the bursts that a tap has heard since its last start, along actions from a new world
abbrev pub bursts_heard_by : (tap : ℕ) → World → List Action → List Burst
bursts_heard_by tap new actions = (taped_all_by tap new blank actions).bursts

-- a running tap that has sent nothing since its last start, and has lost no telegram
pub record OnlyListensByActions (p : Params) (specs : List TapSpec) (actions : List Action) (new w : World) (tap : ℕ) (t : Tap) : Type 0 where
  pub highest : p.hsa ≤ 126
  pub acted : HasActed p specs actions new w
  pub here : slice_get w.taps tap ≡ Some t
  pub running : t.running ≡ true
  pub senses : All (IsSensed p.ttd tap t.since) w.trace

-- What it hears is what a listener hears of the trace since the tap's start, whatever the premises.
abbrev pub TapsCaptureByActions : Type 0
TapsCaptureByActions = (p : Params) (specs : List TapSpec) (actions : List Action) (new w : World) (tap : ℕ) (t : Tap)
    → OnlyListensByActions p specs actions new w tap t → HearsSince p.ttd t.since w.trace (bursts_heard_by tap new actions)

-- a running tap that has sent nothing since its last start, while the events keep the premises
pub record HearsActions (p : Params) (specs : List TapSpec) (actions : List Action) (new w : World) (tap : ℕ) (t : Tap) : Type 0 where
  pub time : LeavesTime p
  pub acted : HasActed p specs actions new w
  pub keeps : first_broken_by new actions ≡ None
  pub here : slice_get w.taps tap ≡ Some t
  pub running : t.running ≡ true
  pub others : All (IsOfOthers p.ttd tap t.since) w.trace

-- What it hears is what a listener hears of the trace, and raises no alarm of any class.
abbrev pub TapsRaiseNoneByActions : Type 0
TapsRaiseNoneByActions = (p : Params) (specs : List TapSpec) (actions : List Action) (new w : World) (tap : ℕ) (t : Tap) → HearsActions p specs actions new w tap t
    → HearsSince p.ttd t.since w.trace (bursts_heard_by tap new actions)
    × ((slack : ℕ) (c : Classes) → alarms p slack c t.since (listening t.since) (bursts_heard_by tap new actions) ≡ [])
