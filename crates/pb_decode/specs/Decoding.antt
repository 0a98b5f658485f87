-- What is written for lines of hex.
use Rattle.std.specs.Prelude.{ℕ, Bool, true, if◌then◌else◌, List, ◌++◌, map, slice_index, codes, Option, Some, None, is_some}
use Rattle.std.specs.List.{flat_map, list_any}
use Rattle.bstr.specs.Text.{lines_of, without_terminator}
use Rattle.pb_telegram.specs.Faults.{octets, is_short, is_var, is_fixed, is_token, unit_of, fault_of}
use Rattle.pb_telegram.specs.declared.chars.RxChar.{RxChar}
use Rattle.pb_telegram.specs.declared.faults.TelegramFault.{TelegramFault}
use Rattle.pb_decode.specs.Characters.{characters_of}
use Rattle.pb_decode.specs.Texts.{short_text, var_text, fixed_text, token_text, fault_text}

-- the text of the telegram that octets spell; the first octet decides its form
abbrev pub spelled_text : List ℕ → List ℕ
spelled_text xs =
    if is_short xs then short_text (slice_index xs 1) (slice_index xs 2) (slice_index xs 3)
    else if is_var xs then var_text (slice_index xs 4) (slice_index xs 5) (slice_index xs 6) (unit_of xs)
    else if is_fixed xs then fixed_text (slice_index xs 1) (slice_index xs 2) (slice_index xs 3) (unit_of xs)
    else if is_token xs then token_text (slice_index xs 1) (slice_index xs 2)
    else codes "ack"

-- the text of the fault, or of the telegram if there is none
abbrev pub text_unless_fault : Option TelegramFault → List ℕ → List ℕ
text_unless_fault (Some fault) xs = fault_text fault
text_unless_fault None xs = spelled_text xs

-- the text of characters
abbrev pub answer_text : List RxChar → List ℕ
answer_text chars = text_unless_fault (fault_of chars) (octets chars)

-- the text of a line's characters, or the fault that it is not hex
abbrev pub hex_text : Option (List RxChar) → List ℕ
hex_text None = codes "fault 0 NotHex"
hex_text (Some chars) = answer_text chars

-- whether the text of a line's characters is a fault
abbrev pub is_refused : Option (List RxChar) → Bool
is_refused None = true
is_refused (Some chars) = is_some (fault_of chars)

-- the line of text for a line of hex
abbrev pub line_text : List ℕ → List ℕ
line_text line = hex_text (characters_of line) ++ codes "\n"

-- a line ends with a line feed, a carriage return and a line feed, or the input; none begins after the last line feed
abbrev pub input_lines : List ℕ → List (List ℕ)
input_lines input = map without_terminator (lines_of input)

-- what is written for an input
abbrev pub output_of : List ℕ → List ℕ
output_of input = flat_map line_text (input_lines input)

-- whether some line of the input is refused
abbrev pub refuses : List ℕ → Bool
refuses input = list_any (λ line. is_refused (characters_of line)) (input_lines input)
