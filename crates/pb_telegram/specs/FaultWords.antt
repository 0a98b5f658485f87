-- The numbers and names of the faults.
use Rattle.std.specs.Prelude.{ℕ, List, codes}
use Rattle.pb_telegram.specs.declared.faults.TelegramFault.{TelegramFault}
use Rattle.pb_telegram.specs.declared.faults.TelegramFault.TheVariants.{Empty, Faulty, BadStart, Truncated, BadLength, LengthsDiffer, BadSecondStart, BadAddress, BadFc, BadFcs, BadEnd, Trailing}

-- the position of a fault in the order in which faults are tested
abbrev pub number_of : TelegramFault → ℕ
number_of Empty = 1
number_of (Faulty place) = 2
number_of BadStart = 3
number_of Truncated = 4
number_of BadLength = 5
number_of LengthsDiffer = 6
number_of BadSecondStart = 7
number_of BadAddress = 8
number_of BadFc = 9
number_of BadFcs = 10
number_of BadEnd = 11
number_of Trailing = 12

abbrev pub name_of : TelegramFault → List ℕ
name_of Empty = codes "Empty"
name_of (Faulty place) = codes "Faulty"
name_of BadStart = codes "BadStart"
name_of Truncated = codes "Truncated"
name_of BadLength = codes "BadLength"
name_of LengthsDiffer = codes "LengthsDiffer"
name_of BadSecondStart = codes "BadSecondStart"
name_of BadAddress = codes "BadAddress"
name_of BadFc = codes "BadFc"
name_of BadFcs = codes "BadFcs"
name_of BadEnd = codes "BadEnd"
name_of Trailing = codes "Trailing"
