-- The characters of a line of hex.
use Rattle.std.specs.Prelude.{◌≡◌, ℕ, ◌+◌, ◌*◌, ◌==◌, ◌&&◌, ◌||◌, Bool, not, if◌then◌else◌, List, [], ◌∷◌, filter, Option, Some, None}
use Rattle.std.specs.Option.{option_map}
use Rattle.hex.specs.Hex.{hex_digit_value}
use Rattle.pb_telegram.specs.declared.chars.RxChar.{RxChar}
use Rattle.pb_telegram.specs.declared.chars.RxChar.TheVariants.{Good, Bad}

-- a space (32) or a tab (9)
abbrev pub is_blank : ℕ → Bool
is_blank byte = byte == 32 || byte == 9

-- the octet of two hex digits
abbrev pub octet_of_digits : Option ℕ → Option ℕ → Option ℕ
octet_of_digits (Some high) (Some low) = Some (high * 16 + low)
octet_of_digits (Some high) None = None
octet_of_digits None low = None

-- two hex digits are an undamaged character, two hyphens (45) a damaged one
abbrev pub character_of : ℕ → ℕ → Option RxChar
character_of first second =
    if first == 45 && second == 45 then Some Bad else option_map Good (octet_of_digits (hex_digit_value first) (hex_digit_value second))

-- a character before others
abbrev pub before : Option RxChar → Option (List RxChar) → Option (List RxChar)
before (Some char) (Some chars) = Some (char ∷ chars)
before (Some char) None = None
before None chars = None

-- the characters of pairs of bytes
abbrev pub characters_of_pairs : List ℕ → Option (List RxChar)
characters_of_pairs [] = Some []
characters_of_pairs (only ∷ []) = None
characters_of_pairs (first ∷ second ∷ rest) = before (character_of first second) (characters_of_pairs rest)

-- the characters of a line without its blanks; none if it is not hex
abbrev pub characters_of : List ℕ → Option (List RxChar)
characters_of line = characters_of_pairs (filter (λ byte. not (is_blank byte)) line)

-- the bytes of a line without its blanks
abbrev pub digits_of : List ℕ → List ℕ
digits_of line = filter (λ byte. not (is_blank byte)) line

-- the next byte that is no blank, by the rest of the line before and after it; none if only blanks are left
abbrev pub IsNextDigit : Option ℕ → List ℕ → List ℕ → Type 0
IsNextDigit (Some byte) before behind = digits_of before ≡ byte ∷ digits_of behind
IsNextDigit None before behind = digits_of before ≡ []
