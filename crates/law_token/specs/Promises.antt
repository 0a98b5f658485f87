-- The token theorem and the silence bound for every cable delay, and as readers of a world need them.
use Rattle.std.specs.Prelude.{◌≡◌, ℕ, ◌+◌, ◌≤◌, ◌<◌, true, List, slice_get, Some, None}
use Rattle.pb_timers.specs.Timers.{Params, tto}
use Rattle.pb_timers.specs.ParamRules.{IsValid}
use Rattle.law_turn.specs.Phases.{may_initiate, is_offline}
use Rattle.law_model.specs.Medium.{TapSpec, Tap}
use Rattle.law_model.specs.World.{World, Event, IsNewWorld}
use Rattle.law_model.specs.Step.{RunsTo}
use Rattle.law_model.specs.Laws.{AllFit, AreEvents}
use Rattle.law_runs.specs.Activity.{is_silent}
use Rattle.law_runs.specs.Headline.{specs_of, HasAtMostOneHolder, NoneLosesOrComesLate}
use Rattle.law_runs.specs.Legality.{first_illegal}
use Rattle.law_runs.specs.Naming.{named}
use Rattle.law_runs.specs.Premises.{first_broken}
use Rattle.law_token.specs.Places.{LeavesTime}

-- ---- runs

-- some events have led from the new world of a bus with these taps to a world
pub record HasRun (p : Params) (specs : List TapSpec) (events : List Event) (new w : World) : Type 0 where
  pub fit : AllFit specs
  pub are : AreEvents events
  pub made : IsNewWorld p specs new
  pub runs : RunsTo new events w

-- ---- the token

-- the token theorem, for every cable delay that the parameters leave time for
abbrev pub TokenTheoremOfDelay : Type 0
TokenTheoremOfDelay = (p : Params) (specs : List TapSpec) (events : List Event) (new w : World) → LeavesTime p → HasRun p specs events new w
    → first_broken new events ≡ None → HasAtMostOneHolder w

-- the station at a tap may initiate, as a reader of the world sees it, whether the tap runs or not
abbrev pub StationMayInitiate : World → ℕ → Type 0
StationMayInitiate w tap = (t : Tap) × (slice_get w.taps tap ≡ Some t) × (may_initiate t.station.phase ≡ true)

-- at most one station may initiate, the trace names it, and each telegram that only a holder sends is legal after the
-- one before it
pub record HasOneToken (w : World) : Type 0 where
  pub at_most_one : (i j : ℕ) → StationMayInitiate w i → StationMayInitiate w j → i ≡ j
  pub is_named : (i : ℕ) → StationMayInitiate w i → named w.params (specs_of w) w.trace w.now ≡ Some i
  pub legal : first_illegal w.params (specs_of w) w.trace ≡ None

-- the token theorem as readers of a world need it
abbrev pub OneToken : Type 0
OneToken = (p : Params) (specs : List TapSpec) (events : List Event) (new w : World) → IsValid p → HasRun p specs events new w
    → first_broken new events ≡ None → HasOneToken w

-- ---- silence

-- a running master that is not offline, at an index
pub record IsMasterAt (w : World) (tap : ℕ) (t : Tap) : Type 0 where
  pub here : slice_get w.taps tap ≡ Some t
  pub running : t.running ≡ true
  pub master : t.spec.master ≡ true
  pub on : is_offline t.station.phase ≡ true → ⊥

-- The silence bound: if no telegram is lost at a tap and no turn is late, a stretch of silence, within the running time
-- of a master that is not offline, lasts at most for its time-out, the lag and the cable delay, with each telegram at
-- its speaker's moments.
abbrev pub SilenceAtSpeakers : Type 0
SilenceAtSpeakers = (p : Params) (specs : List TapSpec) (events : List Event) (new w : World) (tap m u : ℕ) (t : Tap) → LeavesTime p → HasRun p specs events new w
    → NoneLosesOrComesLate new events → IsMasterAt w tap t → t.since ≤ m → m < u → u ≤ w.now → is_silent 0 tap w.trace m u ≡ true
    → u ≤ m + (tto p t.spec.address + p.lag + p.ttd)

-- As the master itself hears it, it lasts at most for its time-out and the lag.
abbrev pub SilenceAtTap : Type 0
SilenceAtTap = (p : Params) (specs : List TapSpec) (events : List Event) (new w : World) (tap m u : ℕ) (t : Tap) → LeavesTime p → HasRun p specs events new w
    → NoneLosesOrComesLate new events → IsMasterAt w tap t → t.since ≤ m → m < u → u ≤ w.now → is_silent p.ttd tap w.trace m u ≡ true
    → u ≤ m + (tto p t.spec.address + p.lag)

-- the bound is reached: a run that keeps its premises, with a stretch of silence of a master of exactly this length
pub record IsReached (p : Params) (specs : List TapSpec) (events : List Event) (tap m u : ℕ) : Type 0 where
  pub new : World
  pub w : World
  pub t : Tap
  pub fits : LeavesTime p
  pub run : HasRun p specs events new w
  pub none : NoneLosesOrComesLate new events
  pub here : IsMasterAt w tap t
  pub since : t.since ≤ m
  pub within : u ≤ w.now
  pub silent : is_silent 0 tap w.trace m u ≡ true
  pub reached : u ≡ m + (tto p t.spec.address + p.lag + p.ttd)

-- No running master that is not offline has been in silence for longer than its bound: its time-out and the lag as it
-- hears the bus; the cable delay in addition with each telegram at its speaker's moments.
pub record LeavesNoneInSilence (w : World) : Type 0 where
  pub at_the_tap : (tap m u : ℕ) (t : Tap) → IsMasterAt w tap t → t.since ≤ m → m < u → u ≤ w.now → is_silent w.params.ttd tap w.trace m u ≡ true
      → u ≤ m + (tto w.params t.spec.address + w.params.lag)
  pub at_speakers : (tap m u : ℕ) (t : Tap) → IsMasterAt w tap t → t.since ≤ m → m < u → u ≤ w.now → is_silent 0 tap w.trace m u ≡ true
      → u ≤ m + (tto w.params t.spec.address + w.params.lag + w.params.ttd)

-- the silence bound as readers of a world need it
abbrev pub NoneInSilence : Type 0
NoneInSilence = (p : Params) (specs : List TapSpec) (events : List Event) (new w : World) → IsValid p → HasRun p specs events new w
    → NoneLosesOrComesLate new events → LeavesNoneInSilence w
