-- Why characters spell no telegram: each fault with the test of its condition on the whole input, in order.
use Rattle.std.specs.Prelude.{ℕ, ◌+◌, ◌-◌, ◌%◌, Bool, true, false, ◌==◌, nat_lt, nat_le, not, ◌||◌, ◌&&◌, if◌then◌else◌, List, [], ◌∷◌, length, map, slice_index, slice_range, Option, is_some, unwrap_or}
use Rattle.std.specs.List.{position_from}
use Rattle.pb_faults.specs.FirstFault.{first_fault}
use Rattle.pb_telegram.specs.Grammar.{sd1, sd2, sd3, sd4, sc, ed, fcs_of}
use Rattle.pb_telegram.specs.declared.chars.RxChar.{RxChar}
use Rattle.pb_telegram.specs.declared.chars.RxChar.TheVariants.{Good, Bad}
use Rattle.pb_telegram.specs.declared.faults.TelegramFault.{TelegramFault}
use Rattle.pb_telegram.specs.declared.faults.TelegramFault.TheVariants.{Empty, Faulty, BadStart, Truncated, BadLength, LengthsDiffer, BadSecondStart, BadAddress, BadFc, BadFcs, BadEnd, Trailing}

abbrev pub is_bad : RxChar → Bool
is_bad (Good octet) = false
is_bad Bad = true

-- the index of the first damaged character
abbrev pub place_of_bad : List RxChar → Option ℕ
place_of_bad chars = position_from is_bad 0 chars

-- the octet of a character; octets are tested only if no character is damaged
abbrev pub octet_of : RxChar → ℕ
octet_of (Good octet) = octet
octet_of Bad = 0

abbrev pub octets : List RxChar → List ℕ
octets chars = map octet_of chars

-- the first octet decides the form of the telegram
abbrev pub is_short : List ℕ → Bool
is_short xs = slice_index xs 0 == sd1

abbrev pub is_var : List ℕ → Bool
is_var xs = slice_index xs 0 == sd2

abbrev pub is_fixed : List ℕ → Bool
is_fixed xs = slice_index xs 0 == sd3

abbrev pub is_token : List ℕ → Bool
is_token xs = slice_index xs 0 == sd4

abbrev pub is_ack : List ℕ → Bool
is_ack xs = slice_index xs 0 == sc

-- the length octet is the number of octets of two addresses, the control octet and a unit of 1 to 246 octets
abbrev pub has_length : List ℕ → Bool
has_length xs = nat_le 4 (slice_index xs 1) && nat_le (slice_index xs 1) 249

-- how many octets a telegram needs that begins with these
abbrev pub need : List ℕ → ℕ
need xs =
    if is_short xs then 6
    else if is_var xs then (if nat_le 4 (length xs) && has_length xs then slice_index xs 1 + 6 else 4)
    else if is_fixed xs then 14
    else if is_token xs then 3
    else 1

-- these forms have a control octet and a check octet
abbrev pub has_control : List ℕ → Bool
has_control xs = is_short xs || is_var xs || is_fixed xs

-- the index of the destination address; the source address, the control octet and the unit follow it
abbrev pub da_place : List ℕ → ℕ
da_place xs = if is_var xs then 4 else 1

-- the index of the check octet; the end delimiter follows it
abbrev pub fcs_place : List ℕ → ℕ
fcs_place xs = need xs - 2

abbrev pub unit_of : List ℕ → List ℕ
unit_of xs = if is_short xs then [] else slice_range xs (da_place xs + 3) (fcs_place xs)

abbrev pub has_bad_start : List ℕ → Bool
has_bad_start xs = not (is_short xs || is_var xs || is_fixed xs || is_token xs || is_ack xs)

abbrev pub has_bad_length : List ℕ → Bool
has_bad_length xs = is_var xs && not (has_length xs)

abbrev pub has_two_lengths : List ℕ → Bool
has_two_lengths xs = is_var xs && not (slice_index xs 2 == slice_index xs 1)

abbrev pub has_bad_second_start : List ℕ → Bool
has_bad_second_start xs = is_var xs && not (slice_index xs 3 == sd2)

-- a token has an address that is no station's, or a telegram of another form has such a source address
abbrev pub has_bad_address : List ℕ → Bool
has_bad_address xs = (is_token xs && (nat_lt 126 (slice_index xs 1) || nat_lt 126 (slice_index xs 2)))
    || (has_control xs && slice_index xs (da_place xs + 1) % 128 == 127)

abbrev pub has_bad_fc : List ℕ → Bool
has_bad_fc xs = has_control xs && nat_le 128 (slice_index xs (da_place xs + 2))

abbrev pub has_bad_fcs : List ℕ → Bool
has_bad_fcs xs = has_control xs && not (slice_index xs (fcs_place xs)
    == fcs_of (slice_index xs (da_place xs)) (slice_index xs (da_place xs + 1)) (slice_index xs (da_place xs + 2)) (unit_of xs))

abbrev pub has_bad_end : List ℕ → Bool
has_bad_end xs = has_control xs && not (slice_index xs (fcs_place xs + 1) == ed)

-- the faults of octets, of which there is at least one
abbrev pub octet_faults : List ℕ → List (Bool × TelegramFault)
octet_faults xs =
    (has_bad_start xs, BadStart)
    ∷ (nat_lt (length xs) (need xs), Truncated)
    ∷ (has_bad_length xs, BadLength)
    ∷ (has_two_lengths xs, LengthsDiffer)
    ∷ (has_bad_second_start xs, BadSecondStart)
    ∷ (has_bad_address xs, BadAddress)
    ∷ (has_bad_fc xs, BadFc)
    ∷ (has_bad_fcs xs, BadFcs)
    ∷ (has_bad_end xs, BadEnd)
    ∷ (nat_lt (need xs) (length xs), Trailing)
    ∷ []

-- the faults of octets from an index on: the check octet and the end delimiter must be the last ones
abbrev pub end_faults : List ℕ → ℕ → ℕ → List (Bool × TelegramFault)
end_faults xs place check =
    (not (slice_index xs place == check), BadFcs)
    ∷ (not (slice_index xs (place + 1) == ed), BadEnd)
    ∷ (nat_lt (place + 2) (length xs), Trailing)
    ∷ []

-- the faults of characters, in their order
abbrev pub faults : List RxChar → List (Bool × TelegramFault)
faults chars =
    (length chars == 0, Empty)
    ∷ (is_some (place_of_bad chars), Faulty (unwrap_or (place_of_bad chars) 0))
    ∷ octet_faults (octets chars)

-- the first fault that applies
abbrev pub fault_of : List RxChar → Option TelegramFault
fault_of chars = first_fault (faults chars)
