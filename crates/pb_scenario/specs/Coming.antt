-- When taps may take a turn next, by until when each is withheld.
use Rattle.std.specs.Prelude.{ℕ, ◌+◌, ◌-◌, Bool, false, nat_lt, nat_le, slice_index, ◌&&◌, List, [], ◌∷◌, Option, Some, None, if◌then◌else◌}
use Rattle.law_turn.specs.Stations.{earlier}
use Rattle.law_runs.specs.Runs.{after}
use Rattle.law_runs.specs.Scenarios.{Planned}
use Rattle.pb_scenario.specs.Walks.{first_at}

-- how much time passes to a moment, if that is later than now
abbrev pub time_to : ℕ → ℕ → Option ℕ
time_to now at = if nat_lt now at then Some (at - now) else None

-- whether a tap takes its turn, given until when it is withheld
abbrev pub wants_in : ℕ → ℕ → Option ℕ → Bool
wants_in until now None = false
wants_in until now (Some due) = nat_le due now && nat_le until now

-- when such a tap may take a turn next
abbrev pub comes_in : ℕ → ℕ → Option ℕ → Option ℕ
comes_in now until due = if nat_lt now until then Some until else after now due

-- the first of some taps is at an index
abbrev pub next_turn_in : List ℕ → ℕ → ℕ → List (Option ℕ) → Option ℕ
next_turn_in held now tap [] = None
next_turn_in held now tap (due ∷ dues) = earlier (comes_in now (slice_index held tap) due) (next_turn_in held now (tap + 1) dues)

-- the earliest of the next step, if there is one, the next change and the next turn
abbrev pub first_of : List Planned → Option ℕ → Option ℕ → Option ℕ
first_of later change turn = earlier (first_at later) (earlier change turn)

-- a moment, if it is after now and not past the end
abbrev pub onward_to : ℕ → ℕ → Option ℕ → Option ℕ
onward_to until now None = None
onward_to until now (Some m) = if nat_lt now m && nat_le m until then Some m else None
