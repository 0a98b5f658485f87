-- Where a token, and a request, that ends at a tap come from.
use Rattle.std.proofs.Common.{◌≡◌, ℕ, zero, suc, ◌+◌, ◌<◌, ◌≤◌, Bool, true, false, if◌then◌else◌, not, ◌==◌, ◌&&◌, ◌||◌, List, [], ◌∷◌, length, map, refl, sym, ap, ◌∙◌, subst, arith, Option, Some, None}
use Rattle.std.specs.Prelude.{slice_index, nat_le, take, find, ◌-◌, ◌/◌}
use Rattle.std.specs.List.{list_any, position_from}
use Rattle.std.proofs.lemmas.Bool.{ltb-false, eqb-true, leb-true, leb-false, and_parts}
use Rattle.pb_faults.specs.FirstFault.{NoneHolds}
use Rattle.pb_faults.proofs.FirstFaults.{none_holds}
use Rattle.pb_telegram.specs.Faults.{octets, is_bad, place_of_bad, octet_faults, faults, fault_of, is_token, has_control, is_var, is_short, is_fixed, need, da_place, has_length}
use Rattle.pb_telegram.specs.declared.chars.RxChar.{RxChar}
use Rattle.pb_telegram.specs.declared.chars.RxChar.TheVariants.{Good, Bad}
use Rattle.pb_telegram.specs.declared.faults.TelegramFault.{TelegramFault}
use Rattle.pb_telegram.proofs.Spelled.{octets-map}
use Rattle.pb_timers.specs.Timers.{Params, bits}
use Rattle.pb_cycles.specs.Fields.{Fields}
use Rattle.pb_cycles.specs.Messages.{has_bit}
use Rattle.law_turn.specs.Arrivals.{Arrival, Token, Framed, Acknowledgement, NoTelegram, arrival_of, arrival_unless, telegram_arrival, fields_of}
use Rattle.law_model.specs.Trace.{Hit, Record, Entry, Sent, Noise, characters_from, characters_at, hits_place}
use Rattle.law_model.specs.Medium.{Tap, fills_burst_to, entry_characters, burst_characters}
use Rattle.law_model.proofs.Cases.{by_test}
use Rattle.law_runs.specs.Initiators.{telegram_of, initiates, is_initiator}
use Rattle.law_runs.specs.Premises.{Waited}
use Rattle.law_token.specs.Lists.{Each}
use Rattle.law_token.specs.Entries.{EntryHolds}
use Rattle.law_token.proofs.bus.Lists.{each_in}
use Rattle.law_token.proofs.pass.Brings.{Filling, filling}
use Rattle.law_token.proofs.pass.Spelled.{spelled_at, is_none_of}
use Rattle.law_live.specs.NeverDead.{is_token_telegram}
use Rattle.law_live.specs.Flow.{IsCalmBy, EndsBy}
use Rattle.law_live.proofs.DueReplies.{IfRequest}
use Rattle.law_live.specs.Holding.{IfToken}

-- ---- characters of which none is damaged

-- characters of which none is bad are the octets as they were sent
plain : (tap : ℕ) (hits : List Hit) (place start : ℕ) (os : List ℕ) → position_from is_bad start (characters_from tap hits place os) ≡ None → characters_from tap hits place os ≡ map Good os
plain tap hits place start [] e = refl
plain tap hits place start (o ∷ os) e =
    by_test (λ (c : RxChar). position_from is_bad start (c ∷ characters_from tap hits (place + 1) os) ≡ None → c ∷ characters_from tap hits (place + 1) os ≡ map Good (o ∷ os)) (list_any (hits_place tap place) hits) Bad (Good o)
    (λ _ f. absurd cc) (λ _ f. ap (λ (cs : List RxChar). Good o ∷ cs) (plain tap hits (place + 1) (start + 1) os f)) e

-- characters that bring a framed telegram have no fault, and their octets bring it
framed : (o : Option TelegramFault) (xs : List ℕ) (f : Fields) → arrival_unless o xs ≡ Framed f → (o ≡ None) × (telegram_arrival xs ≡ Framed f)
framed (Some fault) xs f e = absurd cc
framed None xs f e = (refl, e)

-- a framed telegram has a control octet, and is no token
controlled : (b c : Bool) (x y : ℕ) (g f : Fields) → (if b then Token x y else if c then Framed g else Acknowledgement) ≡ Framed f → (b ≡ false) × (c ≡ true) × (g ≡ f)
controlled true c x y g f e = absurd cc
controlled false true x y g f e = (refl, refl, cc)
controlled false false x y g f e = absurd cc

-- the first octets are those of the whole
index_take : (n i : ℕ) (os : List ℕ) → i < length (take n os) → slice_index (take n os) i ≡ slice_index os i
index_take zero i os lt = absurd (omega (arith, lt))
index_take (suc n) i [] lt = refl
index_take (suc n) zero (o ∷ os) lt = refl
index_take (suc n) (suc i) (o ∷ os) lt = index_take n i os (omega (arith, lt))

-- octets with a control octet have it
long_by : (n place : ℕ) (short var fixed token some : Bool) (len : ℕ) → short || var || fixed ≡ true → (var && not some) ≡ false
    → (if short then 6 else if var then (if some then len + 6 else 4) else if fixed then 14 else if token then 3 else 1) ≤ n → place ≡ (if var then 4 else 1) → (some ≡ true → 4 ≤ len) → (short ≡ true → var ≡ false) → place + 2 < n
long_by n place true true fixed token some len c b need at l e = absurd (let w = e refl in cc)
long_by n place true false fixed token some len c b need at l e = omega (arith, need, at)
long_by n place false true fixed token true len c b need at l e = let h = l refl in omega (arith, need, at, h)
long_by n place false true fixed token false len c b need at l e = absurd cc
long_by n place false false true token some len c b need at l e = omega (arith, need, at)
long_by n place false false false token some len c b need at l e = absurd cc

-- a telegram of fixed length has not the first octet of one of variable length
one_form : (x : ℕ) → (x == 16) ≡ true → (x == 104) ≡ false
one_form x e = ap (λ n. n == 104) (eqb-true x 16 e)

-- a telegram with a control octet needs four octets to tell its length
four_by : (short var fixed token some : Bool) (len : ℕ) → short || var || fixed ≡ true
    → 4 ≤ (if short then 6 else if var then (if false && some then len + 6 else 4) else if fixed then 14 else if token then 3 else 1)
four_by true var fixed token some len c = omega arith
four_by false true fixed token some len c = omega arith
four_by false false true token some len c = omega arith
four_by false false false token some len c = absurd cc

-- the control octet of a telegram without faults lies within it
long : (xs : List ℕ) → NoneHolds (octet_faults xs) → has_control xs ≡ true → da_place xs + 2 < length xs
long xs none control = by (nat_le 4 (length xs)) refl
  where
    short : need xs ≤ length xs
    short = ltb-false (length xs) (need xs) none.1.0

    by : (b : Bool) → nat_le 4 (length xs) ≡ b → da_place xs + 2 < length xs
    by true e =
        long_by (length xs) (da_place xs) (is_short xs) (is_var xs) (is_fixed xs) (is_token xs) (has_length xs) (slice_index xs 1) control none.1.1.0
        (subst (λ c. (if is_short xs then 6 else if is_var xs then (if c && has_length xs then slice_index xs 1 + 6 else 4) else if is_fixed xs then 14 else if is_token xs then 3 else 1) ≤ length xs) e short)
        refl (λ h. leb-true 4 (slice_index xs 1) (and_parts (nat_le 4 (slice_index xs 1)) (nat_le (slice_index xs 1) 249) h).0) (λ h. one_form (slice_index xs 0) h)
    by false e =
        absurd
        (let four = four_by (is_short xs) (is_var xs) (is_fixed xs) (is_token xs) (has_length xs) (slice_index xs 1) control in
        let short' = subst (λ c. (if is_short xs then 6 else if is_var xs then (if c && has_length xs then slice_index xs 1 + 6 else 4) else if is_fixed xs then 14 else if is_token xs then 3 else 1) ≤ length xs) e short in
        let few = leb-false 4 (length xs) e in omega (arith, four, short', few))

-- ---- the request

-- characters that bring a request are those of an initiator telegram
pub requested : (tap : ℕ) (r : Record) (f : Fields) → fault_of (map Good r.octets) ≡ None → arrival_of (characters_at tap r) ≡ Framed f → has_bit f.fc 6 ≡ true → is_initiator r ≡ true
requested tap r f sound e bit =
    let n = (r.end - r.begin) / bits 1 in
    let os = r.octets in
    let ts = take n os in
    let chars = characters_at tap r in
    let a = framed (fault_of chars) (octets chars) f e in
    let none = none_holds (faults chars) a.0 in
    let good : chars ≡ map Good ts = plain tap r.hits 0 0 ts (is_none_of (place_of_bad chars) none.1.0) in
    let read : octets chars ≡ ts = ap octets good ∙ octets-map ts in
    let free : NoneHolds (octet_faults ts) = subst (λ xs. NoneHolds (octet_faults xs)) read none.1.1 in
    let is = controlled (is_token ts) (has_control ts) (slice_index ts 1) (slice_index ts 2) (fields_of ts) f (subst (λ xs. telegram_arrival xs ≡ Framed f) read a.1) in
    let more = long ts free is.1 in
    let head : slice_index ts 0 ≡ slice_index os 0 = index_take n 0 os (omega (arith, more)) in
    let place : da_place ts ≡ da_place os = ap (λ x. if x == 104 then 4 else 1) head in
    let token : is_token os ≡ false = ap (λ x. x == 220) (sym head) ∙ is.0 in
    let control : has_control os ≡ true = ap (λ x. x == 16 || x == 104 || x == 162) (sym head) ∙ is.1 in
    let fc : (fields_of ts).fc ≡ (fields_of os).fc = index_take n (da_place ts + 2) os more ∙ ap (λ p. slice_index os (p + 2)) place in
    let bit' : has_bit (fields_of os).fc 6 ≡ true = subst (λ x. has_bit x 6 ≡ true) (sym (ap (λ (g : Fields). g.fc) is.2) ∙ fc) bit in
    ap (λ o. initiates (arrival_unless o (octets (map Good os)))) sound ∙ ap (λ xs. initiates (telegram_arrival xs)) (octets-map os)
    ∙ ap (λ b. initiates (if b then Token (slice_index os 1) (slice_index os 2) else if has_control os then Framed (fields_of os) else Acknowledgement)) token
    ∙ ap (λ b. initiates (if b then Framed (fields_of os) else Acknowledgement)) control ∙ bit'

-- ---- what ends at a tap

-- entries whose telegrams have no fault
abbrev pub IsSound : Entry → Type 0
IsSound (Noise span) = Unit {0}
IsSound (Sent r) = fault_of (map Good r.octets) ≡ None

-- a token that ends at a tap was over at its speaker by the moment by which all tokens are
pub token_by : (delay k : ℕ) (t : Tap) (trace : List Entry) (to q : ℕ) → Each IsSound trace → Each (IsCalmBy q) trace → IfToken (arrival_of (burst_characters delay k t trace to)) (to ≤ q + delay)
token_by delay k t trace to q sound calm = by (find (fills_burst_to delay k t trace to) trace) refl
  where
    sent : (r : Record) → Filling delay k t trace to r → (a : Arrival) → arrival_of (characters_at k r) ≡ a → IfToken a (to ≤ q + delay)
    sent r g (Token da sa) e =
        let s = each_in IsSound (Sent r) trace sound g.inside in
        let same : telegram_of r ≡ Token da sa = sym (ap arrival_of (spelled_at k r da sa s e)) ∙ e in
        let c = each_in (IsCalmBy q) (Sent r) trace calm g.inside (ap is_token_telegram same) in
        let at = g.ends in omega (arith, at, c)
    sent r g (Framed f) e = tt
    sent r g Acknowledgement e = tt
    sent r g NoTelegram e = tt

    by : (o : Option Entry) → find (fills_burst_to delay k t trace to) trace ≡ o → IfToken (arrival_of (entry_characters k o)) (to ≤ q + delay)
    by None e = tt
    by (Some (Noise span)) e = tt
    by (Some (Sent r)) e = sent r (filling delay k t trace to r e) (arrival_of (characters_at k r)) refl

-- and a request by the moment by which all initiator telegrams are
pub request_by : (delay k : ℕ) (t : Tap) (trace : List Entry) (to z : ℕ) → Each IsSound trace → Each (EndsBy z) trace → IfRequest (arrival_of (burst_characters delay k t trace to)) (to ≤ z + delay)
request_by delay k t trace to z sound ends = by (find (fills_burst_to delay k t trace to) trace) refl
  where
    sent : (r : Record) → Filling delay k t trace to r → (a : Arrival) → arrival_of (characters_at k r) ≡ a → IfRequest a (to ≤ z + delay)
    sent r g (Token da sa) e = tt
    sent r g (Framed f) e = λ bit.
        let s = each_in IsSound (Sent r) trace sound g.inside in
        let c = each_in (EndsBy z) (Sent r) trace ends g.inside (requested k r f s e bit) in
        let at = g.ends in omega (arith, at, c)
    sent r g Acknowledgement e = tt
    sent r g NoTelegram e = tt

    by : (o : Option Entry) → find (fills_burst_to delay k t trace to) trace ≡ o → IfRequest (arrival_of (entry_characters k o)) (to ≤ z + delay)
    by None e = tt
    by (Some (Noise span)) e = tt
    by (Some (Sent r)) e = sent r (filling delay k t trace to r e) (arrival_of (characters_at k r)) refl

-- every entry that is in order has a telegram without a fault
pub sound_of : (p : Params) (now : ℕ) (taps : List Tap) (trace : List Entry) (waited : List Waited) (last : Option Record) (es : List Entry) → Each (EntryHolds p now taps trace waited last) es → Each IsSound es
sound_of p now taps trace waited last [] all = tt
sound_of p now taps trace waited last (Noise span ∷ es) all = (tt, sound_of p now taps trace waited last es all.1)
sound_of p now taps trace waited last (Sent r ∷ es) all = (all.0.spelled, sound_of p now taps trace waited last es all.1)
