-- Characters, their octets, and what they spell.
use Rattle.std.proofs.Common.{◌≡◌, ℕ, ◌+◌, ◌%◌, ◌<◌, ◌≤◌, List, [], ◌∷◌, ◌++◌, length, map, refl, ap, sym, ◌∙◌, arith, None}
use Rattle.std.specs.Prelude.{slice_index, slice_range, Option, Some, IfNone, Result, Ok, Err, IfOk, OnErr}
use Rattle.std.specs.List.{position_from}
use Rattle.std.proofs.lemmas.Bool.Decides.{nat_tests}
use Rattle.std.proofs.lemmas.Grind.{common_steps}
use Rattle.pb_faults.specs.FirstFault.{first_fault}
use Rattle.pb_telegram.specs.Grammar.{sd2, sd3, ed, fcs_of, length_of, spelling, Spells}
use Rattle.pb_telegram.specs.Faults.{octets, is_bad, place_of_bad, octet_faults, end_faults, fault_of}
use Rattle.pb_telegram.specs.declared.chars.RxChar.{RxChar}
use Rattle.pb_telegram.specs.declared.chars.RxChar.TheVariants.{Good, Bad}
use Rattle.pb_telegram.specs.declared.faults.TelegramFault.{TelegramFault}
use Rattle.pb_telegram.specs.declared.telegrams.Telegram.{Telegram}
use Rattle.pb_telegram.specs.declared.telegrams.Telegram.TheVariants.{Short, Var, Fixed8, Token, Ack}
use Rattle.pb_telegram.specs.declared.telegrams.TokenTelegram.{TokenTelegram}
use Rattle.pb_telegram.proofs.Frames.{frame_parts, four_first, seven_first, frame_length, frame_unit, frame_check, frame_last}

-- characters of which none is damaged are their octets, each good
pub good_octets : (chars : List RxChar) (start : ℕ) → position_from is_bad start chars ≡ None → chars ≡ map Good (octets chars)
good_octets [] start none = refl
good_octets (Good octet ∷ chars) start none = ap (λ (rest : List RxChar). Good octet ∷ rest) (good_octets chars (start + 1) none)
good_octets (Bad ∷ chars) start none = absurd cc

pub spells_from_octets : (chars : List RxChar) (xs : List ℕ) → place_of_bad chars ≡ None → octets chars ≡ xs → chars ≡ map Good xs
spells_from_octets chars xs none e = good_octets chars 0 none ∙ ap (map Good) e

-- octets with two equal lengths in the head, and as many as they say
pub spelled_with_length : (xs : List ℕ) (n start da sa fc : ℕ) (unit : List ℕ) (check last : ℕ) → 4 ≤ n → length xs ≡ n + 6
    → slice_index xs 0 ≡ start → slice_index xs 1 ≡ n → slice_index xs 2 ≡ n → slice_index xs 3 ≡ start
    → slice_index xs 4 ≡ da → slice_index xs 5 ≡ sa → slice_index xs 6 ≡ fc
    → slice_range xs 7 (n + 4) ≡ unit → slice_index xs (n + 4) ≡ check → slice_index xs (n + 4 + 1) ≡ last
    → xs ≡ start ∷ (length unit + 3) ∷ (length unit + 3) ∷ start ∷ da ∷ sa ∷ fc ∷ (unit ++ check ∷ last ∷ [])
spelled_with_length xs n start da sa fc unit check last some whole a b c d e f g u k l =
    let front = seven_first xs (omega arith) in
    let back = frame_parts 7 (n + 4) xs (omega arith) (omega arith) in
    let size : length (slice_range xs 7 (n + 4)) + 3 ≡ n = grind (arith, common_steps) in
    let counted : length unit + 3 ≡ n = sym (ap (λ (ys : List ℕ). length ys + 3) u) ∙ size in
    front ∙ (rw (a, b, c, d, e, f, g, back, u, k, l, counted) refl)

-- octets with eight in the unit
pub spelled_with_eight : (xs : List ℕ) (start da sa fc : ℕ) (unit : List ℕ) (check last : ℕ) → length xs ≡ 14
    → slice_index xs 0 ≡ start → slice_index xs 1 ≡ da → slice_index xs 2 ≡ sa → slice_index xs 3 ≡ fc
    → slice_range xs 4 12 ≡ unit → slice_index xs 12 ≡ check → slice_index xs 13 ≡ last
    → xs ≡ start ∷ da ∷ sa ∷ fc ∷ (unit ++ check ∷ last ∷ [])
spelled_with_eight xs start da sa fc unit check last whole a b c d u k l =
    let front = four_first xs (omega arith) in
    let back = frame_parts 4 12 xs (omega arith) (omega arith) in
    front ∙ (rw (a, b, c, d, back, u, k, l) refl)

-- good characters spell what their octets are
none_is_bad : (xs : List ℕ) (start : ℕ) → position_from is_bad start (map Good xs) ≡ None
none_is_bad [] start = refl
none_is_bad (x ∷ xs) start = none_is_bad xs (start + 1)

pub octets-map : (xs : List ℕ) → octets (map Good xs) ≡ xs
octets-map [] = refl
octets-map (x ∷ xs) = ap (λ (rest : List ℕ). x ∷ rest) (octets-map xs)

chars_fault_free : (chars : List RxChar) → 0 < length chars → place_of_bad chars ≡ None → first_fault (octet_faults (octets chars)) ≡ None
    → fault_of chars ≡ None
chars_fault_free chars some none free = grind (arith, nat_tests)

good_fault_free : (xs : List ℕ) → 0 < length xs → first_fault (octet_faults xs) ≡ None → fault_of (map Good xs) ≡ None
good_fault_free xs some free =
    chars_fault_free (map Good xs) (grind (arith, common_steps)) (none_is_bad xs 0)
    (ap (λ (ys : List ℕ). first_fault (octet_faults ys)) (octets-map xs) ∙ free)

-- where all is well before the check octet, the faults are those from there on
pub var_end : (xs : List ℕ) (n sa fc sum : ℕ) → slice_index xs 0 ≡ sd2 → slice_index xs 1 ≡ n → 4 ≤ n → n ≤ 249 → n + 6 ≤ length xs
    → slice_index xs 2 ≡ n → slice_index xs 3 ≡ sd2 → slice_index xs 5 ≡ sa → slice_index xs 6 ≡ fc → sa % 128 < 127 → fc < 128
    → sum ≡ fcs_of (slice_index xs 4) sa fc (slice_range xs 7 (n + 4))
    → first_fault (octet_faults xs) ≡ first_fault (end_faults xs (n + 4) sum)
var_end xs n sa fc sum start count low high whole again second sa_read fc_read station control check =
    rw start (grind (arith, nat_tests))

pub fixed_end : (xs : List ℕ) (sa fc sum : ℕ) → slice_index xs 0 ≡ sd3 → 14 ≤ length xs
    → slice_index xs 2 ≡ sa → slice_index xs 3 ≡ fc → sa % 128 < 127 → fc < 128
    → sum ≡ fcs_of (slice_index xs 1) sa fc (slice_range xs 4 12)
    → first_fault (octet_faults xs) ≡ first_fault (end_faults xs 12 sum)
fixed_end xs sa fc sum start whole sa_read fc_read station control check = rw start (grind (arith, nat_tests))

no_end_fault : (xs : List ℕ) (place check : ℕ) → slice_index xs place ≡ check → slice_index xs (place + 1) ≡ ed → length xs ≡ place + 2
    → first_fault (end_faults xs place check) ≡ None
no_end_fault xs place check read last whole = grind (arith, nat_tests)

octets_fault_free : (t : Telegram) → first_fault (octet_faults (spelling t)) ≡ None
octets_fault_free (Short t) = grind (arith, nat_tests, t.sa_station, t.fc_bit_7_clear)
octets_fault_free (Var t) =
    let unit = t.unit.items in
    let sum = fcs_of t.da t.sa t.fc unit in
    let n = length_of unit in
    let head = sd2 ∷ n ∷ n ∷ sd2 ∷ t.da ∷ t.sa ∷ t.fc ∷ [] in
    let xs = spelling (Var t) in
    let place : 7 + length unit ≡ n + 4 = omega arith in
    let read : slice_range xs 7 (n + 4) ≡ unit = sym (ap (slice_range xs 7) place) ∙ frame_unit head unit sum ed in
    let check : slice_index xs (n + 4) ≡ sum = sym (ap (slice_index xs) place) ∙ frame_check head unit sum ed in
    let last : slice_index xs (n + 4 + 1) ≡ ed = sym (ap (λ (i : ℕ). slice_index xs (i + 1)) place) ∙ frame_last head unit sum ed in
    let whole : length xs ≡ n + 4 + 2 = frame_length head unit sum ed ∙ ap (λ (i : ℕ). i + 2) place in
    var_end xs n t.sa t.fc sum refl refl (omega (arith, t.some_unit)) (omega (arith, t.unit_fits)) (omega (arith, whole))
    refl refl refl refl t.sa_station t.fc_bit_7_clear (ap (fcs_of t.da t.sa t.fc) (sym read))
    ∙ no_end_fault xs (n + 4) sum check last whole
octets_fault_free (Fixed8 t) =
    let sum = fcs_of t.da t.sa t.fc t.unit in
    let head = sd3 ∷ t.da ∷ t.sa ∷ t.fc ∷ [] in
    let xs = spelling (Fixed8 t) in
    let place : 4 + length t.unit ≡ 12 = omega (arith, t.eight_octets) in
    let read : slice_range xs 4 12 ≡ t.unit = sym (ap (slice_range xs 4) place) ∙ frame_unit head t.unit sum ed in
    let check : slice_index xs 12 ≡ sum = sym (ap (slice_index xs) place) ∙ frame_check head t.unit sum ed in
    let last : slice_index xs 13 ≡ ed = sym (ap (λ (i : ℕ). slice_index xs (i + 1)) place) ∙ frame_last head t.unit sum ed in
    let whole : length xs ≡ 14 = frame_length head t.unit sum ed ∙ ap (λ (i : ℕ). i + 2) place in
    fixed_end xs t.sa t.fc sum refl (omega (arith, whole)) refl refl t.sa_station t.fc_bit_7_clear (ap (fcs_of t.da t.sa t.fc) (sym read))
    ∙ no_end_fault xs 12 sum check last whole
octets_fault_free (Token t) = grind (arith, nat_tests, t.da_station, t.sa_station)
octets_fault_free Ack = refl

some_octet : (t : Telegram) → 0 < length (spelling t)
some_octet (Short t) = omega arith
some_octet (Var t) = omega arith
some_octet (Fixed8 t) = omega arith
some_octet (Token t) = omega arith
some_octet Ack = omega arith

pub one_fault_free : (t : Telegram) → fault_of (map Good (spelling t)) ≡ None
one_fault_free t = good_fault_free (spelling t) (some_octet t) (octets_fault_free t)

-- the same octets, as good characters
pub same_octets : (xs ys : List ℕ) → map Good xs ≡ map Good ys → xs ≡ ys
same_octets xs ys e = sym (octets-map xs) ∙ ap octets e ∙ octets-map ys

-- an answer, for octets
pub spelled_ok : (xs : List ℕ) (r : Result Telegram TelegramFault) → IfOk r (Spells (map Good xs)) → IfOk r (λ t. xs ≡ spelling t)
spelled_ok xs (Ok t) s = same_octets xs (spelling t) s
spelled_ok xs (Err fault) s = tt

pub none_spelled : (xs : List ℕ) (r : Result Telegram TelegramFault) → ((t : Telegram) → Spells (map Good xs) t → r ≡ Ok t)
    → OnErr r ((t : Telegram) → xs ≡ spelling t → ⊥)
none_spelled xs (Ok t) h = tt
none_spelled xs (Err fault) h = λ t same. let e : Err fault ≡ Ok t = h t (ap (map Good) same) in cc

-- two addresses of which no token is made: octets with these spell none
pub no_token : (xs : List ℕ) (da sa : ℕ) (r : Option TokenTelegram) → da ≡ slice_index xs 1 → sa ≡ slice_index xs 2
    → IfNone r ((t : TokenTelegram) → t.da ≡ da → t.sa ≡ sa → ⊥) → IfNone r ((t : TokenTelegram) → xs ≡ spelling (Token t) → ⊥)
no_token xs da sa (Some t) first second none = tt
no_token xs da sa None first second none =
    λ t e. none t (sym (ap (λ (l : List ℕ). slice_index l 1) e) ∙ sym first) (sym (ap (λ (l : List ℕ). slice_index l 2) e) ∙ sym second)

pub no_token_in : (chars : List RxChar) (da sa : ℕ) (r : Option TokenTelegram) → da ≡ slice_index (octets chars) 1 → sa ≡ slice_index (octets chars) 2
    → IfNone r ((t : TokenTelegram) → t.da ≡ da → t.sa ≡ sa → ⊥) → IfNone r ((t : TokenTelegram) → Spells chars (Token t) → ⊥)
no_token_in chars da sa (Some t) first second none = tt
no_token_in chars da sa None first second none =
    λ t e. no_token (octets chars) da sa None first second none t (ap octets e ∙ octets-map (spelling (Token t)))
