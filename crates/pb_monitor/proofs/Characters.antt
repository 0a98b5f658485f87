-- Undamaged characters of a line's hex, pair by pair.
use Rattle.std.proofs.Common.{◌≡◌, ℕ, ◌+◌, ◌*◌, ◌<◌, ◌≤◌, Bool, true, false, not, cond, ◌&&◌, ◌||◌, ◌==◌, if◌then◌else◌, List, [], ◌∷◌, ◌++◌, length, map, take, set, get_or, Option, Some, None, refl, sym, ap, ◌∙◌, append_assoc, arith}
use Rattle.std.specs.Option.{option_map}
use Rattle.std.proofs.lemmas.Bool.{eqb-true}
use Rattle.std.proofs.lemmas.List.{append-nil, map-append, take_all, take_more, take_more_set}
use Rattle.hex.specs.Hex.{hex_digit_value}
use Rattle.pb_telegram.specs.declared.chars.RxChar.{RxChar}
use Rattle.pb_telegram.specs.declared.chars.RxChar.TheVariants.{Good, Bad}
use Rattle.pb_decode.specs.Characters.{before, character_of, characters_of, characters_of_pairs, digits_of, is_blank, octet_of_digits}

-- ---- no blank is a digit

blank_cases : (a : ℕ) (C : Type 0) → (z w : Bool) → (a == 32) ≡ z → (a == 9) ≡ w → (z || w) ≡ true → (a ≡ 32 → C) → (a ≡ 9 → C) → C
blank_cases a C true w space tab some at_space at_tab = at_space (eqb-true a 32 space)
blank_cases a C false true space tab some at_space at_tab = at_tab (eqb-true a 9 tab)
blank_cases a C false false space tab some at_space at_tab = absurd cc

no_octet : (z : Bool) (high : Option ℕ) (char : RxChar) → (if z && false then Some Bad else option_map Good (octet_of_digits high None)) ≡ Some char → ⊥
no_octet true (Some high) char e = cc
no_octet true None char e = cc
no_octet false (Some high) char e = cc
no_octet false None char e = cc

no_first : (a b : ℕ) (char : RxChar) → character_of a b ≡ Some char → is_blank a ≡ true → ⊥
no_first a b char found blank = blank_cases a ⊥ (a == 32) (a == 9) refl refl blank
    (λ (at : a ≡ 32). let e : None ≡ Some char = sym (ap (λ (x : ℕ). character_of x b) at) ∙ found in cc)
    (λ (at : a ≡ 9). let e : None ≡ Some char = sym (ap (λ (x : ℕ). character_of x b) at) ∙ found in cc)

no_second : (a b : ℕ) (char : RxChar) → character_of a b ≡ Some char → is_blank b ≡ true → ⊥
no_second a b char found blank = blank_cases b ⊥ (b == 32) (b == 9) refl refl blank
    (λ (at : b ≡ 32). no_octet (a == 45) (hex_digit_value a) char (sym (ap (λ (x : ℕ). character_of a x) at) ∙ found))
    (λ (at : b ≡ 9). no_octet (a == 45) (hex_digit_value a) char (sym (ap (λ (x : ℕ). character_of a x) at) ∙ found))

not_true : (z : Bool) → (z ≡ true → ⊥) → z ≡ false
not_true true never = absurd (never refl)
not_true false never = refl

digits_of-digit : (byte : ℕ) (rest : List ℕ) → is_blank byte ≡ false → digits_of (byte ∷ rest) ≡ byte ∷ digits_of rest
digits_of-digit byte rest digit = ap (λ (b : Bool). cond (not b) (byte ∷ digits_of rest) (digits_of rest)) digit

-- ---- one more pair

-- the characters so far, and those of the digits behind them
abbrev pub with_rest : List RxChar → List ℕ → Option (List RxChar)
with_rest chars digits = option_map (λ more. chars ++ more) (characters_of_pairs digits)

option_map-nil : (found : Option (List RxChar)) → option_map (λ (more : List RxChar). [] ++ more) found ≡ found
option_map-nil None = refl
option_map-nil (Some chars) = refl

option_map-before : (chars : List RxChar) (char : RxChar) (found : Option (List RxChar))
    → option_map (λ (more : List RxChar). chars ++ more) (before (Some char) found) ≡ option_map (λ (more : List RxChar). (chars ++ char ∷ []) ++ more) found
option_map-before chars char None = refl
option_map-before chars char (Some more) = ap Some (sym (append_assoc chars (char ∷ []) more))

-- the first octets of a room are the first characters of hex, whatever is behind them
pub record AreFirst (hex room : List ℕ) (count : ℕ) : Type 0 where
  pub whole : (rest : List ℕ) → characters_of (take (2 * count) hex ++ rest) ≡ with_rest (map Good (take count room)) (digits_of rest)

pub none_yet : (hex room : List ℕ) → AreFirst hex room 0
none_yet hex room = record { whole = λ rest. sym (option_map-nil (characters_of rest)) }

pub one_more : (hex room : List ℕ) (i octet : ℕ) → 2 * i + 1 < length hex → i < length room
    → character_of (get_or hex (2 * i) 0) (get_or hex (2 * i + 1) 0) ≡ Some (Good octet) → AreFirst hex room i → AreFirst hex (set room i octet) (i + 1)
one_more hex room i octet within room_for found so_far = record {
  whole = λ rest.
      let a = get_or hex (2 * i) 0 in
      let b = get_or hex (2 * i + 1) 0 in
      let chars = map Good (take i room) in
      let place : 2 * (i + 1) ≡ 2 * i + 1 + 1 = omega arith in
      let two : take (2 * (i + 1)) hex ++ rest ≡ take (2 * i) hex ++ (a ∷ b ∷ rest) =
      ap (λ (n : ℕ). take n hex ++ rest) place
      ∙ ap (λ (xs : List ℕ). xs ++ rest) (take_more hex (2 * i + 1) 0 within)
      ∙ append_assoc (take (2 * i + 1) hex) (b ∷ []) rest
      ∙ ap (λ (xs : List ℕ). xs ++ (b ∷ rest)) (take_more hex (2 * i) 0 (omega arith))
      ∙ append_assoc (take (2 * i) hex) (a ∷ []) (b ∷ rest) in
      let first = digits_of-digit a (b ∷ rest) (not_true (is_blank a) (no_first a b (Good octet) found)) in
      let second = digits_of-digit b rest (not_true (is_blank b) (no_second a b (Good octet) found)) in
      let pair : digits_of (a ∷ b ∷ rest) ≡ a ∷ b ∷ digits_of rest = first ∙ ap (λ (ds : List ℕ). a ∷ ds) second in
      let more : map Good (take (i + 1) (set room i octet)) ≡ chars ++ Good octet ∷ [] =
      ap (map Good) (take_more_set room i octet room_for) ∙ map-append Good (take i room) (octet ∷ []) in
      ap characters_of two ∙ so_far.whole (a ∷ b ∷ rest) ∙ ap (with_rest chars) pair
      ∙ ap (λ (c : Option RxChar). option_map (λ (others : List RxChar). chars ++ others) (before c (characters_of_pairs (digits_of rest)))) found
      ∙ option_map-before chars (Good octet) (characters_of_pairs (digits_of rest))
      ∙ ap (λ (cs : List RxChar). with_rest cs (digits_of rest)) (sym more);
}

-- the front of hex
pub front_is : (hex room : List ℕ) (count : ℕ) → AreFirst hex room count → characters_of (take (2 * count) hex) ≡ Some (map Good (take count room))
front_is hex room count so_far =
    ap characters_of (sym (append-nil (take (2 * count) hex))) ∙ so_far.whole [] ∙ ap Some (append-nil (map Good (take count room)))

-- all of it
pub all_is : (hex room : List ℕ) (count : ℕ) → length hex ≤ 2 * count → AreFirst hex room count → characters_of hex ≡ Some (map Good (take count room))
all_is hex room count over so_far = ap characters_of (sym (take_all (2 * count) hex over)) ∙ front_is hex room count so_far
