-- The token theorem: its statement about one world, and about all lists of events.
use Rattle.std.specs.Prelude.{◌≡◌, ℕ, ◌+◌, ◌≤◌, ◌<◌, Bool, true, ◌&&◌, List, [], ◌∷◌, map, slice_get, Some, None, Ok}
use Rattle.pb_timers.specs.Timers.{Params, tto}
use Rattle.pb_timers.specs.ParamRules.{IsValid}
use Rattle.law_turn.specs.Phases.{may_initiate, is_offline}
use Rattle.law_model.specs.Medium.{TapSpec, Tap}
use Rattle.law_model.specs.World.{World, Event, Reply, IsNewWorld}
use Rattle.law_model.specs.Step.{step, RunsTo}
use Rattle.law_model.specs.Laws.{AllFit, AreEvents}
use Rattle.law_runs.specs.Activity.{is_silent}
use Rattle.law_runs.specs.Legality.{first_illegal}
use Rattle.law_runs.specs.Naming.{named}
use Rattle.law_runs.specs.Premises.{first_broken, loses, comes_late}

-- the tap runs, in a phase in which a station may initiate
abbrev pub tap_may_initiate : Tap → Bool
tap_may_initiate t = t.running && may_initiate t.station.phase

-- the tap at an index may initiate
abbrev pub MayInitiate : World → ℕ → Type 0
MayInitiate w tap = (t : Tap) × (slice_get w.taps tap ≡ Some t) × (tap_may_initiate t ≡ true)

abbrev pub specs_of : World → List TapSpec
specs_of w = map (λ t. t.spec) w.taps

-- the statement of the theorem about one world
pub record HasAtMostOneHolder (w : World) : Type 0 where
  pub at_most_one : (i j : ℕ) → MayInitiate w i → MayInitiate w j → i ≡ j
  pub is_named : (i : ℕ) → MayInitiate w i → named w.params (specs_of w) w.trace w.now ≡ Some i
  pub legal : first_illegal w.params (specs_of w) w.trace ≡ None

-- The headline: for every list of events that keeps the premises, at every moment at most one station may initiate, the
-- trace alone names it, and each initiator telegram is legal after the one before it. Every moment is the end of a
-- list.
abbrev pub TokenTheorem : Type 0
TokenTheorem = (p : Params) (specs : List TapSpec) (events : List Event) (new w : World) → IsValid p → AllFit specs → AreEvents events
    → IsNewWorld p specs new → RunsTo new events w → first_broken new events ≡ None → HasAtMostOneHolder w

-- events of which none loses a telegram or lets a turn be late
abbrev pub NoneLosesOrComesLate : World → List Event → Type 0
NoneLosesOrComesLate w [] = Unit {0}
NoneLosesOrComesLate w (e ∷ es) = (loses e ≡ true → ⊥) × (comes_late w e ≡ true → ⊥) × ((next : World) (reply : Reply) → step w e ≡ Ok (next, reply) → NoneLosesOrComesLate next es)

-- The silence bound: a running master that is not offline is never without activity for longer than its time-out, the
-- lag and the cable delay, with each telegram at its speaker's moments.
abbrev pub SilenceBound : Type 0
SilenceBound = (p : Params) (specs : List TapSpec) (events : List Event) (new w : World) (i m : ℕ) (t : Tap) → IsValid p → AllFit specs → AreEvents events
    → IsNewWorld p specs new → RunsTo new events w → NoneLosesOrComesLate new events
    → slice_get w.taps i ≡ Some t → t.running ≡ true → t.spec.master ≡ true → (is_offline t.station.phase ≡ true → ⊥)
    → t.since ≤ m → m < w.now → is_silent 0 i w.trace m w.now ≡ true → w.now ≤ m + (tto p t.spec.address + p.lag + p.ttd)
