-- What the first octets of a stream say of the telegram that begins it.
use Rattle.std.proofs.Common.{◌≡◌, ℕ, ◌+◌, ◌<◌, ◌≤◌, false, if◌then◌else◌, ◌==◌, ◌&&◌, List, [], ◌∷◌, ◌++◌, length, take, drop, refl, sym, ap, ◌∙◌, subst, arith, Option, Some, None}
use Rattle.std.specs.Prelude.{nat_le, slice_index, slice_index_or}
use Rattle.std.proofs.lemmas.Bool.{le-leb}
use Rattle.std.proofs.lemmas.List.{length-append, take-append-le, take-append-drop}
use Rattle.std.proofs.Math.Seq.{take-append_seam}
use Rattle.pb_telegram.specs.Grammar.{sd1, sd2, sd3, sd4, sc, ed, fcs_of, spelling}
use Rattle.pb_telegram.specs.Faults.{octets}
use Rattle.pb_telegram.specs.declared.telegrams.Telegram.{Telegram}
use Rattle.pb_telegram.specs.declared.telegrams.Telegram.TheVariants.{Short, Var, Fixed8, Token, Ack}
use Rattle.pb_monitor.specs.Cutting.{NoneBegins, need_by, need_of_data, needs}

abbrev value : Option ℕ → ℕ
value None = 0
value (Some n) = n

framed_length : (unit : List ℕ) (check : ℕ) → length (unit ++ check ∷ ed ∷ []) ≡ length unit + 2
framed_length unit check = length-append unit (check ∷ ed ∷ [])

-- a telegram of fixed length, by its first octet
plain : (first : ℕ) (t rest xs more : List ℕ) (n m : ℕ) → needs xs ≡ Some n → first ∷ t ≡ xs ++ more → (first == sd2) ≡ false → need_by first ≡ m → n ≡ m
plain first t rest [] more n m h e other is = absurd cc
plain first t rest (x ∷ []) more n m h e other is =
    let same : x ≡ first = sym (ap (λ (l : List ℕ). slice_index l 0) e) in
    let told : (if first == sd2 then None else Some (need_by first)) ≡ Some n = subst (λ z. (if z == sd2 then None else Some (need_by z)) ≡ Some n) same h in
    sym (ap value (sym (ap (λ b. if b then None else Some (need_by first)) other) ∙ told)) ∙ is
plain first t rest (x ∷ y ∷ xs) more n m h e other is =
    let same : x ≡ first = sym (ap (λ (l : List ℕ). slice_index l 0) e) in
    let told : Some (if first == sd2 then need_of_data y else need_by first) ≡ Some n = subst (λ z. Some (if z == sd2 then need_of_data y else need_by z) ≡ Some n) same h in
    sym (ap value told) ∙ ap (λ b. if b then need_of_data y else need_by first) other ∙ is

-- a telegram with data of variable length, by its length octet
data_need : (count : ℕ) → 4 ≤ count → count ≤ 249 → need_of_data count ≡ count + 6
data_need count least most = ap (λ b. if b && nat_le count 249 then count + 6 else 1) (le-leb 4 count least) ∙ ap (λ b. if b then count + 6 else 1) (le-leb count 249 most)

with_data : (count : ℕ) (t xs more : List ℕ) (n : ℕ) → 4 ≤ count → count ≤ 249 → needs xs ≡ Some n → sd2 ∷ count ∷ t ≡ xs ++ more → n ≡ count + 6
with_data count t [] more n least most h e = absurd cc
with_data count t (x ∷ []) more n least most h e =
    let same : x ≡ sd2 = sym (ap (λ (l : List ℕ). slice_index l 0) e) in
    let told : None ≡ Some n = subst (λ z. (if z == sd2 then None else Some (need_by z)) ≡ Some n) same h in absurd cc
with_data count t (x ∷ y ∷ xs) more n least most h e =
    let same : x ≡ sd2 = sym (ap (λ (l : List ℕ). slice_index l 0) e) in
    let length_octet : y ≡ count = sym (ap (λ (l : List ℕ). slice_index l 1) e) in
    let told : Some (need_of_data y) ≡ Some n = subst (λ z. Some (if z == sd2 then need_of_data y else need_by z) ≡ Some n) same h in
    sym (ap value told) ∙ ap need_of_data length_octet ∙ data_need count least most

pub needs_right : (t : Telegram) (rest xs more : List ℕ) (n : ℕ) → needs xs ≡ Some n → spelling t ++ rest ≡ xs ++ more → length (spelling t) ≡ n
needs_right (Short t) rest xs more n h e = sym (plain sd1 _ rest xs more n 6 h e refl refl)
needs_right (Var t) rest xs more n h e =
    let is : n ≡ length t.unit.items + 3 + 6 = with_data (length t.unit.items + 3) _ xs more n (let s = t.some_unit in omega (arith, s)) (let f = t.unit_fits in omega (arith, f)) h e in
    let framed = framed_length t.unit.items (fcs_of t.da t.sa t.fc t.unit.items) in omega (arith, is, framed)
needs_right (Fixed8 t) rest xs more n h e =
    let is : n ≡ 14 = plain sd3 _ rest xs more n 14 h e refl refl in
    let framed = framed_length t.unit (fcs_of t.da t.sa t.fc t.unit) in let eight = t.eight_octets in omega (arith, is, framed, eight)
needs_right (Token t) rest xs more n h e = sym (plain sd4 _ rest xs more n 3 h e refl refl)
needs_right Ack rest xs more n h e = sym (plain sc _ rest xs more n 1 h e refl refl)

-- Where so many octets as a telegram needs that begins with these spell none, none begins.
pub none_begins : (window : List ℕ) (need : ℕ) → needs window ≡ Some need → need ≤ length window → ((t : Telegram) → take need window ≡ spelling t → ⊥) → NoneBegins window
none_begins window need h room none t rest more e =
    let long : length (spelling t) ≡ need = needs_right t rest window more need h e in
    none t (sym (take-append-le need window more room) ∙ ap (take need) (sym e)
    ∙ ap (λ n. take n (spelling t ++ rest)) (sym long) ∙ take-append_seam (spelling t) rest)

-- Where they spell one, that telegram begins.
pub whole_front : (window : List ℕ) (need : ℕ) (t : Telegram) → take need window ≡ spelling t → window ≡ spelling t ++ drop need window
whole_front window need t e = sym (take-append-drop need window) ∙ ap (λ (l : List ℕ). l ++ drop need window) e

-- A telegram has at most 255 octets.
pub spelling_fits : (t : Telegram) → length (spelling t) ≤ 255
spelling_fits (Short t) = omega arith
spelling_fits (Var t) = let f = t.unit_fits in let framed = framed_length t.unit.items (fcs_of t.da t.sa t.fc t.unit.items) in omega (arith, f, framed)
spelling_fits (Fixed8 t) = let e = t.eight_octets in let framed = framed_length t.unit (fcs_of t.da t.sa t.fc t.unit) in omega (arith, e, framed)
spelling_fits (Token t) = omega arith
spelling_fits Ack = omega arith

-- octets, if there are any, are the first and the others
pub first_and_others : (xs : List ℕ) → 0 < length xs → xs ≡ slice_index_or xs 0 0 ∷ drop 1 xs
first_and_others [] some = absurd (omega (arith, some))
first_and_others (x ∷ xs) some = refl
