-- What a line of a capture says.
use Rattle.std.specs.Prelude.{◌≡◌, ℕ, ◌^◌, ◌≤◌, ◌<◌, Bool, true, false, List, length, Option, SomeIff}
use Rattle.std.specs.Str.Parse.{AllDigits, digits_value}
use Rattle.pb_monitor.specs.declared.buffers.LineBuffer.{LineBuffer}
use Rattle.pb_monitor.specs.declared.lines.Characters.{Characters}
use Rattle.pb_monitor.specs.declared.lines.Characters.TheVariants.{Octets, Fed}
use Rattle.pb_monitor.specs.declared.lines.Told.{Told}
use Rattle.pb_monitor.specs.declared.lines.Told.TheVariants.{Nothing, Gap, Refused, Burst}

-- a field is a moment: decimal digits alone, of a number that has 64 bits
abbrev pub IsMoment : Option ℕ → (field : List ℕ) → Type 0
IsMoment moment field = SomeIff moment (AllDigits 10 field × (digits_value 10 field < 2 ^ 64)) (digits_value 10 field)

-- there is room for the octets
abbrev pub IsInRoom : Characters → Type 0
IsInRoom (Octets count) = count ≤ 255
IsInRoom Fed = Unit {0}

-- of a burst that is to be heard
abbrev pub IsTold : Told → Type 0
IsTold (Burst when characters) = IsInRoom characters
IsTold Nothing = Unit {0}
IsTold Gap = Unit {0}
IsTold Refused = Unit {0}

-- what is kept of the front of a line that comes in pieces: the front, or that it is too long
abbrev pub IsFrontBy : (too_long : Bool) → (kept front : List ℕ) → Type 0
IsFrontBy true kept front = 4096 < length front
IsFrontBy false kept front = kept ≡ front

abbrev pub IsFront : LineBuffer → (front : List ℕ) → Type 0
IsFront buffer front = IsFrontBy buffer.is_too_long buffer.front.items front
