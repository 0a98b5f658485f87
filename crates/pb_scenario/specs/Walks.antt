-- A walk through a plan, and what is left of a list of steps at a moment.
use Rattle.std.specs.Prelude.{◌≡◌, ℕ, ◌+◌, ◌<◌, ◌≤◌, List, [], ◌∷◌, ◌++◌, length, max, nat_lt, slice_set, slice_index, Option, Some, None, if◌then◌else◌}
use Rattle.std.specs.List.{filter_map}
use Rattle.law_model.specs.World.{Event, Pass}
use Rattle.law_runs.specs.Runs.{Plan, places, wanted}
use Rattle.law_runs.specs.Scenarios.{Deed, Happens, Withhold, Planned, event_before, event_after, early_of, late_of, deed_holds, held_until, next_step, plan_of}

-- a walk through some steps up to an end, at a moment, over this many taps
pub record WalkView : Type 0 where
  pub steps : List Planned
  pub until : ℕ
  pub clock : ℕ
  pub taps : ℕ

-- ---- lists of steps

-- steps are in order of time, none before a moment
abbrev pub AreFrom : ℕ → List Planned → Type 0
AreFrom m [] = Unit {0}
AreFrom m (s ∷ steps) = (m ≤ s.at) × AreFrom s.at steps

-- steps are before a moment
abbrev pub AreBefore : ℕ → List Planned → Type 0
AreBefore m [] = Unit {0}
AreBefore m (s ∷ steps) = (s.at < m) × AreBefore m steps

-- the moment of the first of some steps
abbrev pub first_at : List Planned → Option ℕ
first_at [] = None
first_at (s ∷ steps) = Some s.at

-- ---- withholding

-- until when some steps withhold a tap
abbrev pub held_by : List Planned → ℕ → ℕ
held_by [] tap = 0
held_by (s ∷ steps) tap = max (deed_holds tap s.at s.deed) (held_by steps tap)

-- until when each tap is withheld, after one of them, if it exists, is withheld until a moment or longer
abbrev pub hold_tap : List ℕ → ℕ → ℕ → List ℕ
hold_tap held tap until = if nat_lt tap (length held) then slice_set held tap (max (slice_index held tap) until) else held

-- the same after a step and after some
abbrev pub hold_one : List ℕ → ℕ → Deed → List ℕ
hold_one held at (Happens e) = held
hold_one held at (Withhold tap bits) = hold_tap held tap (at + bits)

abbrev pub hold_all : List ℕ → List Planned → List ℕ
hold_all held [] = held
hold_all held (s ∷ steps) = hold_all (hold_one held s.at s.deed) steps

-- the events of some steps before the turns and after them
abbrev pub events_before : List Planned → List Event
events_before steps = filter_map (λ s. event_before s.deed) steps

abbrev pub events_after : List Planned → List Event
events_after steps = filter_map (λ s. event_after s.deed) steps

-- ---- what is left

-- What matters of some steps from a moment on: the later steps, and until when each tap is withheld by the earlier
-- ones.
pub record IsAhead (steps : List Planned) (from : ℕ) (later : List Planned) (held : List ℕ) : Type 0 where
  pub order : AreFrom from later
  pub early : (m : ℕ) → from ≤ m → filter_map (early_of m) steps ≡ filter_map (early_of m) later
  pub late : (m : ℕ) → from ≤ m → filter_map (late_of m) steps ≡ filter_map (late_of m) later
  pub next : (m : ℕ) → from ≤ m + 1 → next_step steps m ≡ next_step later m
  pub withheld : (m tap : ℕ) → from ≤ m + 1 → tap < length held → held_until steps m tap ≡ max (slice_index held tap) (held_until later m tap)

-- what matters of some steps at a moment: those of that moment, and what matters from then on
pub record IsLeft (steps : List Planned) (at : ℕ) (today rest : List Planned) (held : List ℕ) : Type 0 where
  pub early : filter_map (early_of at) steps ≡ events_before today
  pub late : filter_map (late_of at) steps ≡ events_after today
  pub ahead : IsAhead steps (at + 1) rest held

-- steps are cut into those before a moment, those at the moment and the later ones; the first two withhold the taps
pub record Advances (later : List Planned) (at : ℕ) (today rest : List Planned) (held next : List ℕ) : Type 0 where
  pub past : List Planned
  pub cut : later ≡ past ++ (today ++ rest)
  pub before : AreBefore at past
  pub from : AreFrom at today
  pub now : AreBefore (at + 1) today
  pub after : AreFrom (at + 1) rest
  pub noted : next ≡ hold_all (hold_all held past) today

-- ---- a walk

abbrev pub new_walk : List Planned → ℕ → ℕ → WalkView
new_walk steps taps until = record { steps = steps; until = until; clock = 0; taps = taps }

-- the plan through which a walk goes
abbrev pub plan_in : WalkView → Plan Event
plan_in w = plan_of w.steps w.until

-- the taps that take their turns at the moment of a walk
abbrev pub turns_in : WalkView → List (Option ℕ) → List ℕ
turns_in w dues = places 0 (wanted (plan_in w) w.clock 0 dues)

-- this much time passes, or none
abbrev pub passes : Option ℕ → List Event
passes None = []
passes (Some bits) = Pass bits ∷ []
