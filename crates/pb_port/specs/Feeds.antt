-- What a feed makes of characters that a receiver takes off the line one by one: the beginnings and ends of bursts.
use Rattle.std.specs.Prelude.{ℕ, ◌+◌, Bool, true, false, not, ◌&&◌, ◌||◌, if◌then◌else◌, nat_lt, nat_le, List, [], ◌∷◌, ◌++◌, length, Option, Some, None, is_some}
use Rattle.pb_transitions.specs.Clocks.{last_turn}
use Rattle.pb_telegram.specs.Faults.{fault_of}
use Rattle.pb_telegram.specs.declared.chars.RxChar.{RxChar}
use Rattle.pb_port.specs.declared.feeds.FeedMark.{FeedMark}
use Rattle.pb_port.specs.declared.feeds.FeedMark.TheVariants.{Begin, End}
use Rattle.pb_port.specs.declared.feeds.FeedFault.{FeedFault}
use Rattle.pb_port.specs.declared.feeds.FeedFault.TheVariants.{TooLate, Backwards, EndFirst, NoStart}

pub record FeedView : Type 0 where
  pub late : Bool  -- whether the station hears everything a character later than it is on the line
  pub active : Bool  -- whether a burst has begun, and its end isn't told
  pub last : ℕ  -- the end of the last character, or the start bit before the first one of a burst
  pub characters : List RxChar  -- those of the last burst

-- the characters of a telegram end 11 bit times apart; after another telegram a character ends 22 bit times later at least
abbrev pub character_bits : ℕ
character_bits = 11

-- as long after a character the line is idle
abbrev pub idle_bits : ℕ
idle_bits = 16

-- characters that spell a telegram
abbrev pub is_whole : List RxChar → Bool
is_whole characters = not (is_some (fault_of characters))

-- how much later the station hears than the line has it
abbrev pub hearing_delay : Bool → ℕ
hearing_delay late = if late then character_bits else 0

-- when the end of the open burst has to be told
abbrev pub end_due : FeedView → Option ℕ
end_due f =
    if f.active then Some (f.last + (if f.late && is_whole f.characters then character_bits else idle_bits))
    else None

-- ---- why something is refused: a moment past the last of a turn, or before an earlier one; the open burst has ended before it; no start bit was seen

abbrev pub is_over : FeedView → ℕ → Bool
is_over f at = f.active && nat_le (f.last + idle_bits) at

abbrev pub start_faults : FeedView → ℕ → List (Bool × FeedFault)
start_faults f at = (nat_lt last_turn at, TooLate) ∷ (nat_lt at f.last, Backwards) ∷ (is_over f at, EndFirst) ∷ []

abbrev pub character_faults : FeedView → ℕ → List (Bool × FeedFault)
character_faults f at =
    (nat_lt last_turn at, TooLate)
    ∷ (nat_lt at f.last, Backwards)
    ∷ (is_over f at, EndFirst)
    ∷ (not (f.late || f.active), NoStart)
    ∷ []

-- ---- a start bit: the first one of a burst, for a station that hears in time

abbrev pub ignores_start : FeedView → Bool
ignores_start f = f.late || f.active

abbrev pub after_start : FeedView → ℕ → FeedView
after_start f at = if ignores_start f then f else record f { active = true; last = at; characters = [] }

abbrev pub start_mark : FeedView → ℕ → Option FeedMark
start_mark f at = if ignores_start f then None else Some (Begin at)

-- ---- a character that has ended: no telegram has more than 255, so further ones are left out

abbrev pub with_character : List RxChar → RxChar → List RxChar
with_character characters c = if nat_lt (length characters) 255 then characters ++ c ∷ [] else characters

abbrev pub heard_with : FeedView → RxChar → List RxChar
heard_with f c = if f.active then with_character f.characters c else c ∷ []

-- a station that hears in time is told the end of a telegram with its last character
abbrev pub after_character : FeedView → ℕ → RxChar → FeedView
after_character f at c = record f { active = f.late || not (is_whole (heard_with f c)); last = at; characters = heard_with f c }

abbrev pub character_mark : FeedView → ℕ → RxChar → Option FeedMark
character_mark f at c =
    if f.late then (if f.active then None else Some (Begin at))
    else if is_whole (heard_with f c) then Some (End at)
    else None

-- ---- time has passed

abbrev pub ends_by : Option ℕ → ℕ → Bool
ends_by None now = false
ends_by (Some due) now = nat_le due now

abbrev pub after_tick : FeedView → ℕ → FeedView
after_tick f now = if ends_by (end_due f) now then record f { active = false } else f

abbrev pub tick_mark : FeedView → ℕ → Option FeedMark
tick_mark f now = if ends_by (end_due f) now then Some (End (f.last + hearing_delay f.late)) else None
