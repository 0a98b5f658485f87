-- Steps that repeat, and all that they do.
use Rattle.std.specs.Prelude.{ℕ, zero, suc, ◌+◌, ◌-◌, ◌/◌, ◌≤◌, ◌<◌, ◌^◌, List, [], ◌∷◌, ◌++◌, slice_get, Option, Some, None, unwrap_or, IfSome}
use Rattle.std.specs.List.{All}
use Rattle.law_runs.specs.Scenarios as runs
use Rattle.law_runs.specs.Scenarios.{Deed, Planned}
use Rattle.pb_scenario.specs.declared.repeats.Repeat.{Repeat}
use Rattle.pb_scenario.specs.Scenarios.{ScenarioView}

-- so many happenings of a deed: one at a moment, and each later one this much after the one before
abbrev pub series : (at every times : ℕ) → Deed → List Planned
series at every zero deed = []
series at every (suc n) deed = record { at = at; deed = deed } ∷ series (at + every) every n deed

-- how often a step happens that is first at a moment: as often as it says, or to the end
abbrev pub times : (until at : ℕ) → Repeat → ℕ
times until at r = unwrap_or r.count ((until - at) / r.every + 1)

-- all happenings of a step
abbrev pub all_of : (until : ℕ) → Planned → Option Repeat → List Planned
all_of until s None = s ∷ []
all_of until s (Some r) = series s.at r.every (times until s.at r) s.deed

-- how the step with an index repeats, if it does
abbrev pub repeat_in : Option (Option Repeat) → Option Repeat
repeat_in None = None
repeat_in (Some repeat) = repeat

-- all happenings of some steps up to a moment, in the order of the steps; the first of the steps has an index
abbrev pub happenings_from : (until : ℕ) → List (Option Repeat) → ℕ → List Planned → List Planned
happenings_from until repeats place [] = []
happenings_from until repeats place (s ∷ steps) = all_of until s (repeat_in (slice_get repeats place)) ++ happenings_from until repeats (place + 1) steps

abbrev pub happenings : (until : ℕ) → List (Option Repeat) → List Planned → List Planned
happenings until repeats steps = happenings_from until repeats 0 steps

-- a step repeats after some time
abbrev pub IsSteady : Option Repeat → Type 0
IsSteady repeat = IfSome repeat (λ r. (1 ≤ r.every) × (r.every < 2 ^ 63))

abbrev pub AreSteady : List (Option Repeat) → Type 0
AreSteady repeats = All IsSteady repeats

-- ---- a scenario whose steps may repeat

pub record StreamView : Type 0 where
  -- its bus, and each step where it happens first
  pub once : ScenarioView
  -- how each step repeats, if it does; one that is missing happens once
  pub repeats : List (Option Repeat)
  pub until : ℕ

-- the last moment until which time may pass
abbrev pub stream_until : ℕ
stream_until = 1000000000000

-- the scenario up to a moment in which each happening is a step
abbrev pub unrolled : (until : ℕ) → StreamView → runs.Scenario
unrolled until s = record s.once.scenario { steps = happenings until s.repeats s.once.scenario.steps; until = until }

-- a scenario in which no step repeats
abbrev pub unrepeated : ScenarioView → StreamView
unrepeated s = record { once = s; repeats = []; until = s.scenario.until }
