-- The next frame count bits for each station, as the bits of two numbers.
use Rattle.std.specs.Prelude.{ℕ, Bool, ◌==◌, if◌then◌else◌, List, map}
use Rattle.std.specs.Int.{bit_at}
use Rattle.std.specs.List.{range_with_len}
use Rattle.pb_telegram.specs.declared.control.FrameCount.{FrameCount}
use Rattle.pb_telegram.specs.declared.control.FrameCount.TheVariants.{First, Clear, Set}

-- by whether the frame count bit is valid, and whether it is 1
abbrev pub count_of : Bool → Bool → FrameCount
count_of counting set = if counting then (if set then Set else Clear) else First

-- the next frame count bits for an address
abbrev pub count_in : ℕ → ℕ → ℕ → FrameCount
count_in counting set address = count_of (bit_at counting address == 1) (bit_at set address == 1)

-- the next frame count bits for each address
unfoldable pub counts_in : ℕ → ℕ → List FrameCount
counts_in counting set = map (count_in counting set) (range_with_len 0 127)
