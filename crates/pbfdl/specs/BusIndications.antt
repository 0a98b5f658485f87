-- What C is told of the requests that stations of a bus execute.
use Rattle.std.specs.Prelude.{◌≡◌, ℕ, List, length, slice_get, Option, Some, None, Result, MatchResult}
use Rattle.pb_station.specs.Indications.{IndicationFields}
use Rattle.pb_taps.specs.declared.faults.WorldFault.{WorldFault}
use Rattle.pb_world.specs.Driven.{Forgets, KeepsFrom, RefusesToKeep, StaysBut}
use Rattle.pb_world.specs.declared.driven.Driven.{Driven}
use Rattle.pbfdl.specs.BusCodes.{result_code}
use Rattle.pbfdl.specs.Indications.{TellsAt}
use Rattle.pbfdl.specs.declared.indications.FdlIndication.{FdlIndication}

-- from now on they are kept; or the code is that of a fault, and what was kept stays
abbrev pub KeepsAt : Driven → (tap room code : ℕ) → Option Driven → Type 0
KeepsAt b tap room code new = (next : Driven) × (new ≡ Some next) × (next.judge ≡ b.judge) × StaysBut b.watched next.watched
    × (answer : Result (Unit {0}) WorldFault) × (code ≡ result_code answer)
    × MatchResult answer (λ _. KeepsFrom b.watched tap room next.watched) (RefusesToKeep b.watched tap next.watched)

-- the code, and how many are kept, if they are asked for
abbrev pub CountsKept : (code count : ℕ) → Option (List IndicationFields) → Type 0
CountsKept code count None = code ≡ 69
CountsKept code count (Some requests) = (code ≡ 0) × (count ≡ length requests)

-- and one of them
abbrev pub TellsKept : ℕ → FdlIndication → Option (List IndicationFields) → ℕ → Type 0
TellsKept code told None index = code ≡ 69
TellsKept code told (Some requests) index = TellsAt code told (slice_get requests index)

-- what is kept of a tap is forgotten
abbrev pub ForgetsAt : Driven → ℕ → Option Driven → Type 0
ForgetsAt b tap new = (next : Driven) × (new ≡ Some next) × (next.judge ≡ b.judge) × StaysBut b.watched next.watched × Forgets b.watched tap next.watched
