-- Characters of a telegram that spell a telegram are all its octets, none of them damaged.
use Rattle.std.proofs.Common.{◌≡◌, ℕ, zero, suc, ◌+◌, ◌-◌, ◌/◌, ◌<◌, ◌≤◌, Bool, true, false, if◌then◌else◌, ◌==◌, ◌&&◌, List, [], ◌∷◌, length, map, refl, sym, ap, ◌∙◌, subst, arith, Option, Some, None}
use Rattle.std.specs.Prelude.{slice_index, nat_le, take}
use Rattle.std.specs.List.{list_any, position_from}
use Rattle.std.proofs.lemmas.Bool.{ltb-false, le-leb}
use Rattle.std.proofs.lemmas.List.{length-take, take_all}
use Rattle.pb_faults.specs.FirstFault.{NoneHolds}
use Rattle.pb_faults.proofs.FirstFaults.{none_holds}
use Rattle.pb_telegram.specs.Grammar.{sd1, sd2, sd3, sd4}
use Rattle.pb_telegram.specs.Faults.{octets, is_bad, place_of_bad, octet_faults, faults, fault_of, is_short, is_var, is_fixed, is_token, has_length, need}
use Rattle.pb_telegram.specs.declared.chars.RxChar.{RxChar}
use Rattle.pb_telegram.specs.declared.chars.RxChar.TheVariants.{Good, Bad}
use Rattle.pb_telegram.specs.declared.faults.TelegramFault.{TelegramFault}
use Rattle.pb_telegram.proofs.Spelled.{good_octets}
use Rattle.pb_timers.specs.Timers.{bits}
use Rattle.law_turn.specs.Arrivals.{NoTelegram, arrival_of, arrival_unless}
use Rattle.law_model.specs.Trace.{Hit, Record, characters_from, characters_at, hits_place}
use Rattle.law_model.proofs.Cases.{by_test}
use Rattle.law_runs.specs.Initiators.{telegram_of}
use Rattle.law_token.proofs.pass.Spelled.{is_none_of, faultless}

-- ---- how many octets are needed, by the first one

abbrev Needs : (short var fixed token : Bool) → ℕ → ℕ
Needs short var fixed token n = if short then 6 else if var then n else if fixed then 14 else if token then 3 else 1

abbrev inner : List ℕ → ℕ
inner xs = if nat_le 4 (length xs) && has_length xs then slice_index xs 1 + 6 else 4

four : (xs : List ℕ) → 4 ≤ inner xs
four xs = by_test (λ n. 4 ≤ n) (nat_le 4 (length xs) && has_length xs) (slice_index xs 1 + 6) 4 (λ _. omega arith) (λ _. omega arith)

some_needed : (short var fixed token : Bool) (n : ℕ) → 4 ≤ n → 1 ≤ Needs short var fixed token n
some_needed true var fixed token n h = omega arith
some_needed false true fixed token n h = omega (arith, h)
some_needed false false true token n h = omega arith
some_needed false false false true n h = omega arith
some_needed false false false false n h = omega arith

four_needed : (short fixed token : Bool) (n : ℕ) → 4 ≤ n → 4 ≤ Needs short true fixed token n
four_needed true fixed token n h = omega arith
four_needed false fixed token n h = h

-- the same first octet, and in the form with a length the same length, need the same
needs_same : (xs ys : List ℕ) → slice_index xs 0 ≡ slice_index ys 0 → (is_var ys ≡ true → inner xs ≡ inner ys) → need xs ≡ need ys
needs_same xs ys first f = ap (λ z. Needs (z == sd1) (z == sd2) (z == sd3) (z == sd4) (inner xs)) first ∙ by (is_short ys) (is_var ys) (is_fixed ys) (is_token ys) refl
  where
    by : (short var fixed token : Bool) → is_var ys ≡ var → Needs short var fixed token (inner xs) ≡ Needs short var fixed token (inner ys)
    by true var fixed token is = refl
    by false true fixed token is = f is
    by false false true token is = refl
    by false false false true is = refl
    by false false false false is = refl

-- ---- the first octets of some

same_at : (i n : ℕ) (xs : List ℕ) → i < length (take n xs) → slice_index (take n xs) i ≡ slice_index xs i
same_at i zero xs h = absurd (omega (arith, h))
same_at i (suc n) [] h = absurd (omega (arith, h))
same_at zero (suc n) (x ∷ xs) h = refl
same_at (suc i) (suc n) (x ∷ xs) h = same_at i n xs (omega (arith, h))

-- as many as are needed by them are needed by all
need_first : (n : ℕ) (xs : List ℕ) → length (take n xs) ≡ need (take n xs) → need (take n xs) ≡ need xs
need_first n xs enough =
    let ys = take n xs in
    let some : 1 ≤ need ys = some_needed (is_short ys) (is_var ys) (is_fixed ys) (is_token ys) (inner ys) (four ys) in
    let first = same_at 0 n xs (omega (arith, enough, some)) in
    needs_same ys xs first (λ var. lengths first var)
  where
    lengths : slice_index (take n xs) 0 ≡ slice_index xs 0 → is_var xs ≡ true → inner (take n xs) ≡ inner xs
    lengths first var =
        let ys = take n xs in
        let is : is_var ys ≡ true = ap (λ z. z == sd2) first ∙ var in
        let most : 4 ≤ need ys = subst (λ v. 4 ≤ Needs (is_short ys) v (is_fixed ys) (is_token ys) (inner ys)) (sym is) (four_needed (is_short ys) (is_fixed ys) (is_token ys) (inner ys) (four ys)) in
        let second = same_at 1 n xs (omega (arith, enough, most)) in
        let less : length ys ≤ length xs = (let l = length-take n xs in omega (arith, l)) in
        ap (λ b. if b && has_length ys then slice_index ys 1 + 6 else 4) (le-leb 4 (length ys) (omega (arith, enough, most)))
        ∙ ap (λ z. if nat_le 4 z && nat_le z 249 then z + 6 else 4) second
        ∙ sym (ap (λ b. if b && has_length xs then slice_index xs 1 + 6 else 4) (le-leb 4 (length xs) (omega (arith, enough, most, less))))

-- octets without a fault are as many as they need
fitting : (xs : List ℕ) → NoneHolds (octet_faults xs) → length xs ≡ need xs
fitting xs none = let short = ltb-false (length xs) (need xs) none.1.0 in let long = ltb-false (need xs) (length xs) none.1.1.1.1.1.1.1.1.1.0 in omega (arith, short, long)

-- so the first octets of a telegram are none, where some are left
only_all : (n : ℕ) (xs : List ℕ) → NoneHolds (octet_faults (take n xs)) → NoneHolds (octet_faults xs) → take n xs ≡ xs
only_all n xs part all =
    let a = fitting (take n xs) part in
    let b = need_first n xs a in
    let c = fitting xs all in
    let l = length-take n xs in
    take_all n xs (omega (arith, a, b, c, l))

-- ---- characters

-- if none is damaged, they are the octets that were sent
undamaged : (tap : ℕ) (hits : List Hit) (place start : ℕ) (os : List ℕ) → position_from is_bad start (characters_from tap hits place os) ≡ None → octets (characters_from tap hits place os) ≡ os
undamaged tap hits place start [] e = refl
undamaged tap hits place start (o ∷ os) e =
    by_test (λ (c : RxChar). position_from is_bad start (c ∷ characters_from tap hits (place + 1) os) ≡ None → octets (c ∷ characters_from tap hits (place + 1) os) ≡ o ∷ os) (list_any (hits_place tap place) hits) Bad (Good o)
    (λ _ f. absurd cc) (λ _ f. ap (λ (l : List ℕ). o ∷ l) (undamaged tap hits (place + 1) (start + 1) os f)) e

pub whole_at : (tap : ℕ) (r : Record) → fault_of (map Good r.octets) ≡ None → (arrival_of (characters_at tap r) ≡ NoTelegram → ⊥) → arrival_of (characters_at tap r) ≡ telegram_of r
whole_at tap r sound spells = by (fault_of chars) refl
  where
    n : ℕ
    n = (r.end - r.begin) / bits 1

    chars : List RxChar
    chars = characters_at tap r

    by : (o : Option TelegramFault) → fault_of chars ≡ o → arrival_of chars ≡ telegram_of r
    by (Some fault) e = absurd (spells (ap (λ o. arrival_unless o (octets chars)) e))
    by None e =
        let none = none_holds (faults chars) e in
        let clear : place_of_bad chars ≡ None = is_none_of (place_of_bad chars) none.1.0 in
        let sent : octets chars ≡ take n r.octets = undamaged tap r.hits 0 0 (take n r.octets) clear in
        let all : take n r.octets ≡ r.octets = only_all n r.octets (subst (λ xs. NoneHolds (octet_faults xs)) sent none.1.1) (faultless r.octets sound) in
        ap arrival_of (good_octets chars 0 clear ∙ ap (map Good) (sent ∙ all))
