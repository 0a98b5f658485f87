-- Characters of a telegram that bring a token are all its octets, none of them damaged.
use Rattle.std.proofs.Common.{◌≡◌, ℕ, zero, suc, ◌+◌, ◌≤◌, Bool, true, false, if◌then◌else◌, not, ◌==◌, ◌&&◌, ◌||◌, List, [], ◌∷◌, length, map, refl, sym, ap, ◌∙◌, subst, arith, Option, Some, None}
use Rattle.std.specs.Prelude.{slice_index, nat_lt, is_some, take, ◌-◌, ◌/◌, ◌%◌}
use Rattle.std.specs.List.{list_any, list_all, position_from}
use Rattle.std.proofs.lemmas.Bool.{ltb-false, eqb-true, eq-eqb, or_parts}
use Rattle.pb_faults.specs.FirstFault.{NoneHolds}
use Rattle.pb_faults.proofs.FirstFaults.{none_holds}
use Rattle.pb_telegram.specs.Faults.{octets, is_bad, place_of_bad, octet_faults, faults, fault_of, is_token, has_control, has_bad_address, need, da_place}
use Rattle.pb_telegram.specs.declared.chars.RxChar.{RxChar}
use Rattle.pb_telegram.specs.declared.chars.RxChar.TheVariants.{Good, Bad}
use Rattle.pb_telegram.specs.declared.faults.TelegramFault.{TelegramFault}
use Rattle.pb_telegram.proofs.Spelled.{octets-map}
use Rattle.pb_cycles.specs.Fields.{Fields}
use Rattle.pb_timers.specs.Timers.{bits}
use Rattle.law_turn.specs.Arrivals.{Token, Framed, Acknowledgement, arrival_of, arrival_unless, telegram_arrival, fields_of}
use Rattle.law_model.specs.Trace.{Hit, Record, Entry, characters_from, characters_at, hits_place}
use Rattle.law_model.specs.Medium.{Tap, fills_burst}
use Rattle.law_model.proofs.Cases.{by_test}
use Rattle.law_runs.specs.Initiators.{telegram_of}
use Rattle.law_token.proofs.pass.Brings.{IsSpelled}

-- characters of which none is damaged
plain : (tap : ℕ) (hits : List Hit) (place start : ℕ) (os : List ℕ) → position_from is_bad start (characters_from tap hits place os) ≡ None → characters_from tap hits place os ≡ map Good os
plain tap hits place start [] e = refl
plain tap hits place start (o ∷ os) e =
    by_test (λ (c : RxChar). position_from is_bad start (c ∷ characters_from tap hits (place + 1) os) ≡ None → c ∷ characters_from tap hits (place + 1) os ≡ map Good (o ∷ os)) (list_any (hits_place tap place) hits) Bad (Good o)
    (λ _ f. absurd cc) (λ _ f. ap (λ (cs : List RxChar). Good o ∷ cs) (plain tap hits (place + 1) (start + 1) os f)) e

arrived : (o : Option TelegramFault) (xs : List ℕ) (da sa : ℕ) → arrival_unless o xs ≡ Token da sa → (o ≡ None) × (telegram_arrival xs ≡ Token da sa)
arrived (Some f) xs da sa e = absurd cc
arrived None xs da sa e = (refl, e)

tokened : (b c : Bool) (x y : ℕ) (f : Fields) (da sa : ℕ) → (if b then Token x y else if c then Framed f else Acknowledgement) ≡ Token da sa → (b ≡ true) × (x ≡ da) × (y ≡ sa)
tokened true c x y f da sa e = (refl, cc, cc)
tokened false true x y f da sa e = absurd cc
tokened false false x y f da sa e = absurd cc

pub is_none_of : {X : Type 0} (o : Option X) → is_some o ≡ false → o ≡ None
is_none_of {X} None e = refl
is_none_of {X} (Some x) e = absurd cc

token_need : (xs : List ℕ) → is_token xs ≡ true → need xs ≡ 3
token_need xs e = rw (eqb-true (slice_index xs 0) 220 e) refl

token_length : (xs : List ℕ) → NoneHolds (octet_faults xs) → is_token xs ≡ true → length xs ≡ 3
token_length xs none e =
    let n = token_need xs e in
    let short = ltb-false (length xs) (need xs) none.1.0 in
    let long = ltb-false (need xs) (length xs) none.1.1.1.1.1.1.1.1.1.0 in
    omega (arith, n, short, long)

same_head : (n : ℕ) (os : List ℕ) → length (take n os) ≡ 3 → slice_index (take n os) 0 ≡ slice_index os 0
same_head zero os e = absurd (let w : 0 ≡ 3 = e in cc)
same_head (suc n) [] e = refl
same_head (suc n) (o ∷ os) e = refl

take_whole : (n : ℕ) (os : List ℕ) → length (take n os) ≡ length os → take n os ≡ os
take_whole zero [] e = refl
take_whole zero (o ∷ os) e = absurd (omega (arith, e))
take_whole (suc n) [] e = refl
take_whole (suc n) (o ∷ os) e = ap (λ (l : List ℕ). o ∷ l) (take_whole n os (omega (arith, e)))

-- octets without a fault
pub faultless : (os : List ℕ) → fault_of (map Good os) ≡ None → NoneHolds (octet_faults os)
faultless os e = subst (λ xs. NoneHolds (octet_faults xs)) (octets-map os) (none_holds (faults (map Good os)) e).1.1

-- characters that bring a token are all the octets that were meant
pub spelled_at : (tap : ℕ) (r : Record) (da sa : ℕ) → fault_of (map Good r.octets) ≡ None → arrival_of (characters_at tap r) ≡ Token da sa → characters_at tap r ≡ map Good r.octets
spelled_at tap r da sa sound e =
    let n = (r.end - r.begin) / bits 1 in
    let os = r.octets in
    let chars = characters_at tap r in
    let a = arrived (fault_of chars) (octets chars) da sa e in
    let none = none_holds (faults chars) a.0 in
    let good : chars ≡ map Good (take n os) = plain tap r.hits 0 0 (take n os) (is_none_of (place_of_bad chars) none.1.0) in
    let read : octets chars ≡ take n os = ap octets good ∙ octets-map (take n os) in
    let is = tokened (is_token (octets chars)) (has_control (octets chars)) (slice_index (octets chars) 1) (slice_index (octets chars) 2) (fields_of (octets chars)) da sa a.1 in
    let three : length (take n os) ≡ 3 = token_length (take n os) (subst (λ xs. NoneHolds (octet_faults xs)) read none.1.1) (subst (λ xs. is_token xs ≡ true) read is.0) in
    let token : is_token os ≡ true = ap (λ (m : ℕ). m == 220) (sym (same_head n os three)) ∙ subst (λ xs. is_token xs ≡ true) read is.0 in
    good ∙ ap (map Good) (take_whole n os (three ∙ sym (token_length os (faultless os sound) token)))

all_good : (os : List ℕ) → list_all (λ (char : RxChar). not (is_bad char)) (map Good os) ≡ true
all_good [] = refl
all_good (o ∷ os) = all_good os

as_many : (os : List ℕ) → length (map Good os) ≡ length os
as_many [] = refl
as_many (o ∷ os) = ap suc (as_many os)

pub is_spelled : (delay tap : ℕ) (t : Tap) (trace : List Entry) (r : Record) → t.running ≡ true → fault_of (map Good r.octets) ≡ None → IsSpelled delay tap t trace r
is_spelled delay tap t trace r running sound = record {
  same = λ da sa e. sym (ap arrival_of (spelled_at tap r da sa sound e)) ∙ e;
  whole = λ da sa e fills.
      let s = spelled_at tap r da sa sound e in
      ap (λ b. ((b && fills_burst delay tap t trace r) && length (characters_at tap r) == length r.octets) && list_all (λ (char : RxChar). not (is_bad char)) (characters_at tap r)) running
      ∙ ap (λ b. (b && length (characters_at tap r) == length r.octets) && list_all (λ (char : RxChar). not (is_bad char)) (characters_at tap r)) fills
      ∙ ap (λ b. b && list_all (λ (char : RxChar). not (is_bad char)) (characters_at tap r)) (eq-eqb (length (characters_at tap r)) (length r.octets) (ap length s ∙ as_many r.octets))
      ∙ ap (list_all (λ (char : RxChar). not (is_bad char))) s ∙ all_good r.octets;
}

-- the addresses of a token are those of stations
pub token_addresses : (r : Record) (da sa : ℕ) → fault_of (map Good r.octets) ≡ None → telegram_of r ≡ Token da sa → (da ≤ 126) × (sa ≤ 126)
token_addresses r da sa sound e =
    let os = r.octets in
    let a = arrived (fault_of (map Good os)) (octets (map Good os)) da sa e in
    let b : telegram_arrival os ≡ Token da sa = ap telegram_arrival (sym (octets-map os)) ∙ a.1 in
    let is = tokened (is_token os) (has_control os) (slice_index os 1) (slice_index os 2) (fields_of os) da sa b in
    let none = faultless os sound in
    let bad : has_bad_address os ≡ false = none.1.1.1.1.1.0 in
    let tok : (is_token os && (nat_lt 126 (slice_index os 1) || nat_lt 126 (slice_index os 2))) ≡ false =
    (or_parts (is_token os && (nat_lt 126 (slice_index os 1) || nat_lt 126 (slice_index os 2))) (has_control os && (slice_index os (da_place os + 1) % 128 == 127)) bad).0 in
    let two = or_parts (nat_lt 126 (slice_index os 1)) (nat_lt 126 (slice_index os 2)) (sym (ap (λ b. b && (nat_lt 126 (slice_index os 1) || nat_lt 126 (slice_index os 2))) is.0) ∙ tok) in
    (omega (arith, is.1, ltb-false 126 (slice_index os 1) two.0), omega (arith, is.2, ltb-false 126 (slice_index os 2) two.1))
