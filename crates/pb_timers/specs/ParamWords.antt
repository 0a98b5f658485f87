-- The numbers of the parameters' faults.
use Rattle.std.specs.Prelude.{ℕ}
use Rattle.pb_timers.specs.declared.params.ParamFault.{ParamFault}
use Rattle.pb_timers.specs.declared.params.ParamFault.TheVariants.{Slot, IdleShort, IdleOrder, ReplyShort, Rotation, GapFactor, Highest, Retries, TakeLate, ReplyLate}

-- the position of a fault in the order in which faults are tested
abbrev pub number_of : ParamFault → ℕ
number_of Slot = 1
number_of IdleShort = 2
number_of IdleOrder = 3
number_of ReplyShort = 4
number_of Rotation = 5
number_of GapFactor = 6
number_of Highest = 7
number_of Retries = 8
number_of TakeLate = 9
number_of ReplyLate = 10
