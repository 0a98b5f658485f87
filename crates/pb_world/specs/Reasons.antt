-- Why a premise broke.
use Rattle.std.specs.Prelude.{ℕ}
use Rattle.pb_world.specs.declared.causes.Cause.{Cause}
use Rattle.pb_world.specs.declared.causes.Cause.TheVariants.{OwnAddresses, NothingLost, TurnsInTime, OneWaits}

-- the number of the premise
abbrev pub number_of_cause : Cause → ℕ
number_of_cause (OwnAddresses tap other) = 1
number_of_cause (NothingLost tap speaker) = 2
number_of_cause (TurnsInTime tap due) = 3
number_of_cause (OneWaits tap other moment) = 4
