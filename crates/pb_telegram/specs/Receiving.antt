-- What a receiver keeps of the characters that it was fed, and how one more changes it.
use Rattle.std.specs.Prelude.{◌≡◌, ℕ, ◌+◌, ◌-◌, ◌%◌, Bool, true, ◌==◌, nat_lt, nat_le, not, ◌||◌, ◌&&◌, if◌then◌else◌, List, [], ◌∷◌, ◌++◌, length, slice_index, slice_range, sum, Option, Some, None, Result, Ok, Err}
use Rattle.pb_faults.specs.FirstFault.{first_fault}
use Rattle.pb_telegram.specs.Grammar.{sd1, sd2, sd3, sd4, sc, ed}
use Rattle.pb_telegram.specs.Faults.{octets, place_of_bad}
use Rattle.pb_telegram.specs.declared.chars.RxChar.{RxChar}
use Rattle.pb_telegram.specs.declared.chars.RxChar.TheVariants.{Good, Bad}
use Rattle.pb_telegram.specs.declared.telegrams.Telegram.{Telegram}
use Rattle.pb_telegram.specs.declared.telegrams.Telegram.TheVariants.{Short, Var, Fixed8, Token, Ack}
use Rattle.pb_telegram.specs.declared.faults.TelegramFault.{TelegramFault}
use Rattle.pb_telegram.specs.declared.faults.TelegramFault.TheVariants.{BadStart, Truncated, BadLength, LengthsDiffer, BadSecondStart, BadAddress, BadFc, BadFcs, BadEnd, Trailing}

-- how many characters were fed, the index of the first damaged one, and the octets by their meaning, 0 for one that was
-- not fed yet; the sum is that of the octets from the destination address to the last of the unit, modulo 256
pub record Received : Type 0 where
  pub fed : ℕ
  pub bad : Option ℕ
  pub start : ℕ
  pub length_octet : ℕ
  pub again : ℕ
  pub second : ℕ
  pub da : ℕ
  pub sa : ℕ
  pub fc : ℕ
  pub unit : List ℕ
  pub sum_octet : ℕ
  pub check : ℕ
  pub last : ℕ

abbrev pub nothing_received : Received
nothing_received = record {
  fed = 0;
  bad = None;
  start = 0;
  length_octet = 0;
  again = 0;
  second = 0;
  da = 0;
  sa = 0;
  fc = 0;
  unit = [];
  sum_octet = 0;
  check = 0;
  last = 0;
}

-- the index of the destination address, by the start delimiter
abbrev pub da_from : ℕ → ℕ
da_from start = if start == sd2 then 4 else 1

abbrev pub is_length : ℕ → Bool
is_length n = nat_le 4 n && nat_le n 249

-- the index of the check octet, by the start delimiter and the length octet; an invalid length means no unit
abbrev pub check_at : ℕ → ℕ → ℕ
check_at start n = if start == sd2 then (if is_length n then n + 4 else 7) else if start == sd3 then 12 else 4

-- an octet of a telegram with data of variable length
abbrev pub var_octet : List ℕ → ℕ → ℕ
var_octet xs place = if slice_index xs 0 == sd2 then slice_index xs place else 0

-- what a receiver keeps of the octets that it was fed
pub record Keeps (r : Received) (xs : List ℕ) : Type 0 where
  pub fed : r.fed ≡ length xs
  pub start : r.start ≡ slice_index xs 0
  pub length_octet : r.length_octet ≡ var_octet xs 1
  pub again : r.again ≡ var_octet xs 2
  pub second : r.second ≡ var_octet xs 3
  pub da : r.da ≡ slice_index xs (da_from r.start)
  pub sa : r.sa ≡ slice_index xs (da_from r.start + 1)
  pub fc : r.fc ≡ slice_index xs (da_from r.start + 2)
  pub unit : r.unit ≡ slice_range xs (da_from r.start + 3) (check_at r.start r.length_octet)
  pub sum_octet : r.sum_octet ≡ sum (slice_range xs (da_from r.start) (check_at r.start r.length_octet)) % 256
  pub check : r.check ≡ slice_index xs (check_at r.start r.length_octet)
  pub last : r.last ≡ slice_index xs (check_at r.start r.length_octet + 1)

-- it represents the characters that were fed: it keeps what follows from them
pub record StandsFor (r : Received) (chars : List RxChar) : Type 0 where
  pub bad : r.bad ≡ place_of_bad chars
  pub octets : Keeps r (octets chars)

-- ---- one more

abbrev pub with_length : Received → ℕ → Received
with_length r octet =
    if r.fed == 1 then record r { fed = r.fed + 1; length_octet = octet }
    else if r.fed == 2 then record r { fed = r.fed + 1; again = octet }
    else record r { fed = r.fed + 1; second = octet }

-- the sum after one more octet
abbrev pub sum_with : Received → ℕ → ℕ
sum_with r octet = (r.sum_octet + octet) % 256

-- an address or the control octet, by its distance from the destination address
abbrev pub with_head : Received → ℕ → ℕ → Received
with_head r behind octet =
    if behind == 0 then record r { fed = r.fed + 1; sum_octet = sum_with r octet; da = octet }
    else if behind == 1 then record r { fed = r.fed + 1; sum_octet = sum_with r octet; sa = octet }
    else record r { fed = r.fed + 1; sum_octet = sum_with r octet; fc = octet }

abbrev pub with_unit : Received → ℕ → Received
with_unit r octet = record r { fed = r.fed + 1; sum_octet = sum_with r octet; unit = r.unit ++ octet ∷ [] }

abbrev pub with_end : Received → ℕ → ℕ → Received
with_end r place octet =
    if r.fed == place then record r { fed = r.fed + 1; check = octet }
    else if r.fed == place + 1 then record r { fed = r.fed + 1; last = octet }
    else record r { fed = r.fed + 1 }

abbrev pub taken : Received → ℕ → Received
taken r octet =
    if r.fed == 0 then record r { fed = 1; start = octet; length_octet = 0 }
    else if nat_lt r.fed (da_from r.start) then with_length r octet
    else if nat_lt r.fed (check_at r.start r.length_octet) then
    (if nat_lt r.fed (da_from r.start + 3) then with_head r (r.fed - da_from r.start) octet else with_unit r octet)
    else with_end r (check_at r.start r.length_octet) octet

abbrev pub bad_at : Option ℕ → ℕ → Option ℕ
bad_at None place = Some place
bad_at (Some first) place = Some first

abbrev pub received_more : Received → RxChar → Received
received_more r (Good octet) = taken r octet
received_more r Bad = taken (record r { bad = bad_at r.bad r.fed }) 0

-- ---- the result

-- the faults of a telegram with a check octet at an index, from its addresses on
abbrev pub framed_faults : (place fed sa fc check total last : ℕ) → List (Bool × TelegramFault)
framed_faults place fed sa fc check total last =
    (sa % 128 == 127, BadAddress)
    ∷ (nat_le 128 fc, BadFc)
    ∷ (not (check == total), BadFcs)
    ∷ (not (last == ed), BadEnd)
    ∷ (nat_lt (place + 2) fed, Trailing)
    ∷ []

abbrev pub faults_from_addresses : Received → List (Bool × TelegramFault)
faults_from_addresses r = framed_faults (check_at r.start r.length_octet) r.fed r.sa r.fc r.check r.sum_octet r.last

abbrev pub plain_faults : Received → ℕ → List (Bool × TelegramFault)
plain_faults r place = (nat_lt r.fed (place + 2), Truncated) ∷ framed_faults place r.fed r.sa r.fc r.check r.sum_octet r.last

abbrev pub var_faults : Received → List (Bool × TelegramFault)
var_faults r =
    (nat_lt r.fed 4, Truncated)
    ∷ (not (is_length r.length_octet), BadLength)
    ∷ (nat_lt r.fed (r.length_octet + 6), Truncated)
    ∷ (not (r.again == r.length_octet), LengthsDiffer)
    ∷ (not (r.second == sd2), BadSecondStart)
    ∷ framed_faults (r.length_octet + 4) r.fed r.sa r.fc r.check r.sum_octet r.last

abbrev pub token_faults : Received → List (Bool × TelegramFault)
token_faults r =
    (nat_lt r.fed 3, Truncated)
    ∷ (nat_lt 126 r.da || nat_lt 126 r.sa, BadAddress)
    ∷ (nat_lt 3 r.fed, Trailing)
    ∷ []

-- the faults of the octets that were fed, of which there is at least one
abbrev pub form_faults : Received → List (Bool × TelegramFault)
form_faults r =
    if r.start == sd1 then plain_faults r 4
    else if r.start == sd2 then var_faults r
    else if r.start == sd3 then plain_faults r 12
    else if r.start == sd4 then token_faults r
    else if r.start == sc then (nat_lt 1 r.fed, Trailing) ∷ []
    else (true, BadStart) ∷ []

-- the telegram is made of the octets that were fed
abbrev pub HasParts : Received → Telegram → Type 0
HasParts r (Short t) = (r.start ≡ sd1) × (t.da ≡ r.da) × (t.sa ≡ r.sa) × (t.fc ≡ r.fc)
HasParts r (Var t) = (r.start ≡ sd2) × (t.da ≡ r.da) × (t.sa ≡ r.sa) × (t.fc ≡ r.fc) × (t.unit.items ≡ r.unit)
HasParts r (Fixed8 t) = (r.start ≡ sd3) × (t.da ≡ r.da) × (t.sa ≡ r.sa) × (t.fc ≡ r.fc) × (t.unit ≡ r.unit)
HasParts r (Token t) = (r.start ≡ sd4) × (t.da ≡ r.da) × (t.sa ≡ r.sa)
HasParts r Ack = r.start ≡ sc

-- a telegram made of the octets that were fed, if there is none of these faults, else the first of them
abbrev pub Finds : {T : Type 0} → Received → List (Bool × TelegramFault) → (T → Telegram) → Result T TelegramFault → Type 0
Finds r faults telegram (Ok t) = (first_fault faults ≡ None) × HasParts r (telegram t)
Finds r faults telegram (Err fault) = first_fault faults ≡ Some fault
