-- What stations say spells telegrams.
use Rattle.std.proofs.Common.{◌≡◌, ℕ, ◌+◌, ◌%◌, ◌<◌, ◌≤◌, false, if◌then◌else◌, ◌==◌, List, [], ◌∷◌, ◌++◌, length, map, refl, sym, ap, ◌∙◌, arith, None}
use Rattle.std.specs.Prelude.{slice_index, slice_range}
use Rattle.std.specs.List.{position_from}
use Rattle.std.proofs.lemmas.Bool.{eqb-true, eqb-false}
use Rattle.std.proofs.lemmas.Bool.Decides.{nat_tests}
use Rattle.std.proofs.lemmas.Grind.{common_steps}
use Rattle.pb_faults.specs.FirstFault.{first_fault}
use Rattle.pb_telegram.specs.Grammar.{sd1, sd2, sd3, ed, fcs_of, length_of}
use Rattle.pb_telegram.specs.Faults.{octets, is_bad, place_of_bad, octet_faults, end_faults, fault_of}
use Rattle.pb_telegram.specs.declared.chars.RxChar.{RxChar}
use Rattle.pb_telegram.specs.declared.chars.RxChar.TheVariants.{Good}
use Rattle.pb_telegram.proofs.Frames.{frame_length, frame_unit, frame_check, frame_last}
use Rattle.pb_telegram.proofs.Spelled.{octets-map, var_end, fixed_end}
use Rattle.pb_cycles.specs.Fields.{Fields}
use Rattle.pb_cycles.specs.Messages.{frame_octets}
use Rattle.law_turn.specs.Turns.{token_octets}
use Rattle.law_model.proofs.Cases.{by_test}

none_is_bad : (xs : List ℕ) (start : ℕ) → position_from is_bad start (map Good xs) ≡ None
none_is_bad [] start = refl
none_is_bad (x ∷ xs) start = none_is_bad xs (start + 1)

chars_fault_free : (chars : List RxChar) → 0 < length chars → place_of_bad chars ≡ None → first_fault (octet_faults (octets chars)) ≡ None → fault_of chars ≡ None
chars_fault_free chars some none free = grind (arith, nat_tests)

pub good_fault_free : (xs : List ℕ) → 0 < length xs → first_fault (octet_faults xs) ≡ None → fault_of (map Good xs) ≡ None
good_fault_free xs some free =
    chars_fault_free (map Good xs) (grind (arith, common_steps)) (none_is_bad xs 0)
    (ap (λ (ys : List ℕ). first_fault (octet_faults ys)) (octets-map xs) ∙ free)

no_end_fault : (xs : List ℕ) (place check : ℕ) → slice_index xs place ≡ check → slice_index xs (place + 1) ≡ ed → length xs ≡ place + 2 → first_fault (end_faults xs place check) ≡ None
no_end_fault xs place check read last whole = grind (arith, nat_tests)

token_faults : (da sa : ℕ) → da < 127 → sa < 127 → first_fault (octet_faults (token_octets da sa)) ≡ None
token_faults da sa d s = grind (arith, nat_tests, d, s)

pub token_spelled : (da sa : ℕ) → da < 127 → sa < 127 → fault_of (map Good (token_octets da sa)) ≡ None
token_spelled da sa d s = good_fault_free (token_octets da sa) (omega arith) (token_faults da sa d s)

short_faults : (da sa fc : ℕ) → sa % 128 < 127 → fc < 128 → first_fault (octet_faults (sd1 ∷ da ∷ sa ∷ fc ∷ fcs_of da sa fc [] ∷ ed ∷ [])) ≡ None
short_faults da sa fc s f = grind (arith, nat_tests, s, f)

var_faults : (da sa fc : ℕ) (unit : List ℕ) → sa % 128 < 127 → fc < 128 → 0 < length unit → length unit ≤ 246
    → first_fault (octet_faults (sd2 ∷ length_of unit ∷ length_of unit ∷ sd2 ∷ da ∷ sa ∷ fc ∷ (unit ++ fcs_of da sa fc unit ∷ ed ∷ []))) ≡ None
var_faults da sa fc unit s f some fits =
    let sum = fcs_of da sa fc unit in
    let n = length_of unit in
    let head = sd2 ∷ n ∷ n ∷ sd2 ∷ da ∷ sa ∷ fc ∷ [] in
    let xs = sd2 ∷ n ∷ n ∷ sd2 ∷ da ∷ sa ∷ fc ∷ (unit ++ sum ∷ ed ∷ []) in
    let place : 7 + length unit ≡ n + 4 = omega arith in
    let read : slice_range xs 7 (n + 4) ≡ unit = sym (ap (slice_range xs 7) place) ∙ frame_unit head unit sum ed in
    let check : slice_index xs (n + 4) ≡ sum = sym (ap (slice_index xs) place) ∙ frame_check head unit sum ed in
    let last : slice_index xs (n + 4 + 1) ≡ ed = sym (ap (λ (i : ℕ). slice_index xs (i + 1)) place) ∙ frame_last head unit sum ed in
    let whole : length xs ≡ n + 4 + 2 = frame_length head unit sum ed ∙ ap (λ (i : ℕ). i + 2) place in
    var_end xs n sa fc sum refl refl (omega (arith, some)) (omega (arith, fits)) (omega (arith, whole)) refl refl refl refl s f (ap (fcs_of da sa fc) (sym read))
    ∙ no_end_fault xs (n + 4) sum check last whole

fixed_faults : (da sa fc : ℕ) (unit : List ℕ) → sa % 128 < 127 → fc < 128 → length unit ≡ 8 → first_fault (octet_faults (sd3 ∷ da ∷ sa ∷ fc ∷ (unit ++ fcs_of da sa fc unit ∷ ed ∷ []))) ≡ None
fixed_faults da sa fc unit s f eight =
    let sum = fcs_of da sa fc unit in
    let head = sd3 ∷ da ∷ sa ∷ fc ∷ [] in
    let xs = sd3 ∷ da ∷ sa ∷ fc ∷ (unit ++ sum ∷ ed ∷ []) in
    let place : 4 + length unit ≡ 12 = omega (arith, eight) in
    let read : slice_range xs 4 12 ≡ unit = sym (ap (slice_range xs 4) place) ∙ frame_unit head unit sum ed in
    let check : slice_index xs 12 ≡ sum = sym (ap (slice_index xs) place) ∙ frame_check head unit sum ed in
    let last : slice_index xs 13 ≡ ed = sym (ap (λ (i : ℕ). slice_index xs (i + 1)) place) ∙ frame_last head unit sum ed in
    let whole : length xs ≡ 14 = frame_length head unit sum ed ∙ ap (λ (i : ℕ). i + 2) place in
    fixed_end xs sa fc sum refl (omega (arith, whole)) refl refl s f (ap (fcs_of da sa fc) (sym read)) ∙ no_end_fault xs 12 sum check last whole

some_unit : (n : ℕ) → (n == 0) ≡ false → 0 < n
some_unit n e = let h = eqb-false n 0 e in by n h
  where
    by : (n : ℕ) → (n ≡ 0 → ⊥) → 0 < n
    by n h = omega arith

pub frame_spelled : (f : Fields) → f.sa % 128 < 127 → f.fc < 128 → length f.unit ≤ 246 → fault_of (map Good (frame_octets f)) ≡ None
frame_spelled f s c fits =
    let da = f.da in
    let unit = f.unit in
    let short = sd1 ∷ f.da ∷ f.sa ∷ f.fc ∷ fcs_of f.da f.sa f.fc [] ∷ ed ∷ [] in
    let fixed = sd3 ∷ f.da ∷ f.sa ∷ f.fc ∷ (f.unit ++ fcs_of f.da f.sa f.fc f.unit ∷ ed ∷ []) in
    let var = sd2 ∷ length_of f.unit ∷ length_of f.unit ∷ sd2 ∷ f.da ∷ f.sa ∷ f.fc ∷ (f.unit ++ fcs_of f.da f.sa f.fc f.unit ∷ ed ∷ []) in
    by_test (λ (xs : List ℕ). fault_of (map Good xs) ≡ None) (length f.unit == 0) short (if length f.unit == 8 then fixed else var)
    (λ _. good_fault_free short (omega arith) (short_faults f.da f.sa f.fc s c))
    (λ none. by_test (λ (xs : List ℕ). fault_of (map Good xs) ≡ None) (length f.unit == 8) fixed var
    (λ eight. good_fault_free fixed (omega arith) (fixed_faults f.da f.sa f.fc f.unit s c (eqb-true (length f.unit) 8 eight)))
    (λ _. good_fault_free var (omega arith) (var_faults f.da f.sa f.fc f.unit s c (some_unit (length f.unit) none) fits)))
