-- The station type in a reply, and the frame count bits of a request.
use Rattle.std.specs.Prelude.{ℕ, Option, Some, None}
use Rattle.pb_telegram.specs.declared.control.StationType.{StationType}
use Rattle.pb_telegram.specs.declared.control.StationType.TheVariants.{Passive, NotReady, Ready, InRing}
use Rattle.pb_telegram.specs.declared.control.FrameCount.{FrameCount}
use Rattle.pb_telegram.specs.declared.control.FrameCount.TheVariants.{First, Clear, Set}

-- the two bits of a station type, as a number
abbrev pub type_bits : StationType → ℕ
type_bits Passive = 0
type_bits NotReady = 1
type_bits Ready = 2
type_bits InRing = 3

-- bits 5 and 4 of a request: the frame count bit FCB, and FCV, whether it is valid
abbrev pub count_bits : FrameCount → ℕ
count_bits First = 0x20
count_bits Clear = 0x10
count_bits Set = 0x30

-- the same, with none for a service without them
abbrev pub bits_of_count : Option FrameCount → ℕ
bits_of_count (Some count) = count_bits count
bits_of_count None = 0

-- the frame count bits after that request
abbrev pub count_after : FrameCount → FrameCount
count_after First = Clear
count_after Clear = Set
count_after Set = Clear
