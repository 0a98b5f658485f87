-- What C is told of the last request that had an outcome.
use Rattle.std.specs.Prelude.{◌≡◌, ℕ, List, [], take, Option, Some, None}
use Rattle.pb_cycles.specs.declared.outcomes.Outcome.{Outcome}
use Rattle.pb_cycles.specs.declared.outcomes.Outcome.TheVariants.{Acked, Data, NoResource, NoAnswer}
use Rattle.pbfdl.specs.declared.readings.FdlOutcome.{FdlOutcome}

-- what kind of outcome there was
abbrev pub kind_of : Outcome → ℕ
kind_of Acked = 1
kind_of (Data unit) = 2
kind_of NoResource = 3
kind_of NoAnswer = 4

-- the data that came back
abbrev pub data_of : Outcome → List ℕ
data_of Acked = []
data_of (Data unit) = unit.items
data_of NoResource = []
data_of NoAnswer = []

abbrev pub Tells : FdlOutcome → Option (ℕ × Outcome) → Type 0
Tells o None = o.kind ≡ 0
Tells o (Some came) = (o.kind ≡ kind_of came.1) × (o.station ≡ came.0) × (take o.count o.data ≡ data_of came.1)
