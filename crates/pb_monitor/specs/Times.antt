-- When a packet of a file was on the bus, and how long characters take.
use Rattle.std.specs.Prelude.{ℕ, ◌+◌, ◌-◌, ◌*◌, ◌/◌, ◌^◌, Bool, if◌then◌else◌, min}

-- how many bit times so many parts of a second are: the nearest number
abbrev pub nearest_bits : (ticks per_second baud : ℕ) → ℕ
nearest_bits ticks per_second baud = (ticks * baud + per_second / 2) / per_second

-- how many parts of a second the timestamps of a pcap file count
abbrev pub parts_of_second : (is_nano : Bool) → ℕ
parts_of_second is_nano = if is_nano then 1000000000 else 1000000

-- how long so many characters take, 11 bit times each, up to the greatest number of 64 bits
abbrev pub bits_of_characters : (count : ℕ) → ℕ
bits_of_characters count = min (11 * count) (2 ^ 64 - 1)
