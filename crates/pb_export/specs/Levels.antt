-- The levels of lines: the bits of a character, least bit first, and what they make of the bus.
use Rattle.std.specs.Prelude.{ℕ, ◌-◌, ◌/◌, ◌%◌, ◌^◌, Bool, true, false, ◌==◌, ◌&&◌, nat_le, nat_lt, if◌then◌else◌, List, [], ◌∷◌, length, slice_index, codes, count_ones}
use Rattle.law_model.specs.Trace.{Record, Entry, Sent, Noise, entry_begin, entry_end}
use Rattle.pb_export.specs.declared.options.Window.{Window}
use Rattle.pb_export.specs.declared.levels.Level.{Level}
use Rattle.pb_export.specs.declared.levels.Level.TheVariants.{Low, High, Unknown}
use Rattle.pb_export.specs.Windows.{is_shown}

abbrev pub digit : Level → List ℕ
digit Low = codes "0"
digit High = codes "1"
digit Unknown = codes "x"

abbrev pub level_of : Bool → Level
level_of true = High
level_of false = Low

-- an entry is shown and on the bus at a moment
abbrev pub is_on : Window → Entry → ℕ → Bool
is_on w e t = is_shown w e && nat_le (entry_begin e) t && nat_lt t (entry_end e)

-- a character's bits: a start bit, the octet's with the least first, an even parity bit, and a stop bit
abbrev pub bit_of : (octet bit : ℕ) → Bool
bit_of octet bit =
    if bit == 0 then false
    else if nat_le bit 8 then octet / 2 ^ (bit - 1) % 2 == 1
    else if bit == 9 then count_ones octet % 2 == 1
    else true

-- the line of a telegram at a moment, in the character that it is in
abbrev pub level_at : Record → ℕ → Level
level_at r t =
    if nat_lt ((t - r.begin) / 11) (length r.octets) then level_of (bit_of (slice_index r.octets ((t - r.begin) / 11)) ((t - r.begin) % 11))
    else High

-- just before a moment: idle before the begin
abbrev pub level_before : Record → ℕ → Level
level_before r t = if nat_le t r.begin then High else level_at r (t - 1)

-- a wire that two drive: noise if either is, else low if either is
abbrev pub wired : Level → Level → Level
wired Unknown other = Unknown
wired Low Unknown = Unknown
wired Low Low = Low
wired Low High = Low
wired High other = other

-- the bus after one more entry that is on it
abbrev pub joined : Level → Entry → ℕ → Level
joined bus (Noise span) t = Unknown
joined bus (Sent r) t = wired bus (level_at r t)

-- the same, if it is
abbrev pub bus_with : Window → Level → Entry → ℕ → Level
bus_with w bus e t = if is_on w e t then joined bus e t else bus

-- the bus at a moment: idle, but for what is on it
abbrev pub bus_from : Window → Level → List Entry → ℕ → Level
bus_from w bus [] t = bus
bus_from w bus (e ∷ es) t = bus_from w (bus_with w bus e t) es t

abbrev pub bus_at : Window → List Entry → ℕ → Level
bus_at w es t = bus_from w High es t
