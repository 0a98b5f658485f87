-- How a stream of octets is cut into telegrams.
use Rattle.std.specs.Prelude.{◌≡◌, ℕ, ◌+◌, ◌==◌, Bool, false, nat_le, ◌&&◌, if◌then◌else◌, List, [], ◌∷◌, ◌++◌, length, Option, Some, None, Result, Ok, Err}
use Rattle.pb_telegram.specs.Grammar.{sd1, sd2, sd3, sd4, spelling}
use Rattle.pb_telegram.specs.declared.telegrams.Telegram.{Telegram}
use Rattle.pb_telegram.specs.declared.faults.TelegramFault.{TelegramFault}
use Rattle.pb_monitor.specs.declared.cutting.Cut.{Cut}
use Rattle.pb_monitor.specs.declared.cutting.Cut.TheVariants as cut

-- what comes first in a stream: a telegram, or an octet at which none begins
pub data Piece : Type 0 where
  Whole : (t : Telegram) → Piece
  Skipped : (octet : ℕ) → Piece

-- no telegram begins a stream that begins with these octets
abbrev pub NoneBegins : List ℕ → Type 0
NoneBegins octets = (t : Telegram) (rest more : List ℕ) → spelling t ++ rest ≡ octets ++ more → ⊥

-- a piece is cut off from the front of some octets
abbrev pub IsCutOff : Piece → (before behind : List ℕ) → Type 0
IsCutOff (Whole t) before behind = before ≡ spelling t ++ behind
IsCutOff (Skipped octet) before behind = (before ≡ octet ∷ behind) × NoneBegins before

-- the same, of a cut, with the telegram beside it if it is one
abbrev pub IsCutAs : Cut → Result Telegram TelegramFault → (before behind : List ℕ) → Type 0
IsCutAs cut.Whole (Ok t) before behind = IsCutOff (Whole t) before behind
IsCutAs cut.Whole (Err fault) before behind = ⊥
IsCutAs (cut.Skipped octet) r before behind = IsCutOff (Skipped octet) before behind

-- octets are those of the telegram that is cut off, if one is
abbrev pub IsSpelledBy : List ℕ → Cut → Result Telegram TelegramFault → Type 0
IsSpelledBy octets cut.Whole (Ok t) = octets ≡ spelling t
IsSpelledBy octets cut.Whole (Err fault) = ⊥
IsSpelledBy octets (cut.Skipped octet) r = Unit {0}

-- how many octets a telegram has, by its first octet, if its length is fixed; 1 if there is none
abbrev pub need_by : ℕ → ℕ
need_by first = if first == sd1 then 6 else if first == sd3 then 14 else if first == sd4 then 3 else 1

-- the same of a telegram with data of variable length, by its length octet
abbrev pub need_of_data : ℕ → ℕ
need_of_data count = if nat_le 4 count && nat_le count 249 then count + 6 else 1

abbrev pub needs_by : ℕ → List ℕ → Option ℕ
needs_by first [] = if first == sd2 then None else Some (need_by first)
needs_by first (count ∷ rest) = Some (if first == sd2 then need_of_data count else need_by first)

-- by the octets that have come, if they tell
abbrev pub needs : List ℕ → Option ℕ
needs [] = None
needs (first ∷ rest) = needs_by first rest

-- whether the octets that have come tell what comes first
abbrev pub has_all : Option ℕ → (count : ℕ) → Bool
has_all None count = false
has_all (Some need) count = nat_le need count

abbrev pub is_decided : List ℕ → Bool
is_decided octets = has_all (needs octets) (length octets)

-- ---- a whole stream

-- no telegram begins a stream
abbrev pub NoneAtFront : List ℕ → Type 0
NoneAtFront octets = (t : Telegram) (rest : List ℕ) → spelling t ++ rest ≡ octets → ⊥

-- a piece is the front of a stream, and what is behind it
abbrev pub IsFirst : Piece → (stream behind : List ℕ) → Type 0
IsFirst (Whole t) stream behind = stream ≡ spelling t ++ behind
IsFirst (Skipped octet) stream behind = (stream ≡ octet ∷ behind) × NoneAtFront stream

-- the pieces of a stream, each of them where the one before it ends: no telegram that begins there is passed over
abbrev pub AreCutOf : List Piece → List ℕ → Type 0
AreCutOf [] stream = stream ≡ []
AreCutOf (piece ∷ pieces) stream = (behind : List ℕ) × IsFirst piece stream behind × AreCutOf pieces behind

-- telegrams one behind the other
abbrev pub spellings : List Telegram → List ℕ
spellings [] = []
spellings (t ∷ ts) = spelling t ++ spellings ts

abbrev pub wholes : List Telegram → List Piece
wholes [] = []
wholes (t ∷ ts) = Whole t ∷ wholes ts

-- A stream has one cut, and telegrams one behind the other are cut into just these.
abbrev pub TelegramsAreCut : Type 0
TelegramsAreCut = (ts : List Telegram) (pieces : List Piece) → AreCutOf pieces (spellings ts) → pieces ≡ wholes ts
