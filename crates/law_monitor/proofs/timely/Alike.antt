-- A trace that differs only in what comes after the clock is as timely.
use Rattle.std.proofs.Common.{◌≡◌, ℕ, ◌+◌, ◌-◌, ◌<◌, ◌≤◌, ◌⊎◌, inl, inr, ⊎_elim, Bool, true, false, if◌then◌else◌, not, ◌==◌, ◌&&◌, ◌||◌, List, [], ◌∷◌, map, refl, sym, ap, ◌∙◌, arith, Option, Some, None}
use Rattle.std.specs.Prelude.{nat_lt}
use Rattle.std.specs.List.{list_any}
use Rattle.std.proofs.lemmas.Bool.{lt-ltb, le-ltb, ltb-true}
use Rattle.pb_telegram.specs.declared.chars.RxChar.TheVariants.{Good}
use Rattle.pb_timers.specs.Timers.{Params, tto}
use Rattle.law_turn.specs.Arrivals.{arrival_of}
use Rattle.law_turn.specs.Spans.{Span}
use Rattle.law_model.specs.Trace.{Hit, Record, Entry, Sent, Noise, entry_begin, with_entry, cut_end, cut_at, is_noise_at, noisy_until, begins_from, unheard_at}
use Rattle.law_model.specs.Medium.{TapSpec, Tap, reaches, ends_between, heard_by, entry_at}
use Rattle.law_model.specs.Step.{with_hit, change_first}
use Rattle.law_model.proofs.Cases.{by_test}
use Rattle.law_runs.specs.Activity.{active_at, is_within, is_silent}
use Rattle.law_runs.specs.Initiators.{initiates, offered_by, claims_for}
use Rattle.law_runs.specs.Legality.{address_at, is_claim}
use Rattle.law_token.specs.Lists.{Each}
use Rattle.law_token.proofs.air.StoppedTap.{cut_bound}
use Rattle.law_token.proofs.bus.Legal.{SameSilence, same_silence, any_with, Begun}
use Rattle.law_monitor.specs.Timely.{EndsNoLoss, TakesInTime, IsTimely, Successive}
use Rattle.law_monitor.proofs.hearing.Ears.{Pairs, pairs_map, pairs_change}
use Rattle.law_monitor.proofs.timely.Folds.{Both, Likened, successive_pairs}

-- the same end, or both after the clock
abbrev pub EndsAlike : ℕ → ℕ → ℕ → Type 0
EndsAlike now m n = (n ≡ m) ⊎ ((now < m) × (now < n))

pub record AlikeRecord (now : ℕ) (r y : Record) : Type 0 where
  pub tap : y.tap ≡ r.tap
  pub octets : y.octets ≡ r.octets
  pub begin : y.begin ≡ r.begin
  pub end : EndsAlike now r.end y.end

abbrev pub Alike : ℕ → Entry → Entry → Type 0
Alike now (Noise a) (Noise b) = (b.begin ≡ a.begin) × EndsAlike now a.end b.end
Alike now (Noise a) (Sent y) = ⊥
Alike now (Sent r) (Noise b) = ⊥
Alike now (Sent r) (Sent y) = AlikeRecord now r y

-- ---- silences that are over

ends_within : (from to now b m n : ℕ) → from ≤ now → EndsAlike now m n → (nat_lt b to && nat_lt from m) ≡ (nat_lt b to && nat_lt from n)
ends_within from to now b m n le (inl same) = ap (λ z. nat_lt b to && nat_lt from z) (sym same)
ends_within from to now b m n le (inr later) = ap (λ z. nat_lt b to && z) (lt-ltb from m (omega (arith, later.0, le)) ∙ sym (lt-ltb from n (omega (arith, later.1, le))))

within_alike : (delay tap now from to : ℕ) (e y : Entry) → from ≤ now → Alike now e y → is_within from to (active_at delay tap e) ≡ is_within from to (active_at delay tap y)
within_alike delay tap now from to (Noise a) (Noise b) le h = ends_within from to now a.begin a.end b.end le h.1 ∙ ap (λ z. nat_lt z to && nat_lt from b.end) (sym h.0)
within_alike delay tap now from to (Noise a) (Sent y) le h = absurd h
within_alike delay tap now from to (Sent r) (Noise b) le h = absurd h
within_alike delay tap now from to (Sent r) (Sent y) le h =
    here (r.tap == tap) ∙ ap (λ n. is_within from to (if n == tap then record { begin = y.begin; end = y.end } else record { begin = y.begin + delay; end = y.end + delay })) (sym h.tap)
  where
    here : (b : Bool) → is_within from to (if b then record { begin = r.begin; end = r.end } else reaches delay r) ≡ is_within from to (if b then record { begin = y.begin; end = y.end } else record { begin = y.begin + delay; end = y.end + delay })
    here true = ends_within from to now r.begin r.end y.end le h.end ∙ ap (λ z. nat_lt z to && nat_lt from y.end) (sym h.begin)
    here false = ends_within from to now (r.begin + delay) (r.end + delay) (y.end + delay) le
        (⊎_elim (λ (a : y.end ≡ r.end). inl (ap (λ n. n + delay) a)) (λ (b : (now < r.end) × (now < y.end)). inr (omega (arith, b.0), omega (arith, b.1))) h.end)
        ∙ ap (λ z. nat_lt (z + delay) to && nat_lt from (y.end + delay)) (sym h.begin)

any_alike : (delay tap now from to : ℕ) (es ys : List Entry) → from ≤ now → Pairs (Alike now) es ys → list_any (λ e. is_within from to (active_at delay tap e)) es ≡ list_any (λ e. is_within from to (active_at delay tap e)) ys
any_alike delay tap now from to [] [] le a = refl
any_alike delay tap now from to [] (y ∷ ys) le a = absurd a
any_alike delay tap now from to (e ∷ es) [] le a = absurd a
any_alike delay tap now from to (e ∷ es) (y ∷ ys) le a =
    ap (λ b. b || list_any (λ e. is_within from to (active_at delay tap e)) es) (within_alike delay tap now from to e y le a.0)
    ∙ ap (λ b. is_within from to (active_at delay tap y) || b) (any_alike delay tap now from to es ys le a.1)

pub silent_alike : (delay tap now from to : ℕ) (es ys : List Entry) → from ≤ now → Pairs (Alike now) es ys → is_silent delay tap es from to ≡ is_silent delay tap ys from to
silent_alike delay tap now from to es ys le a = ap (λ b. not b) (any_alike delay tap now from to es ys le a)

-- ---- what is timely

abbrev claim_of : Params → List TapSpec → List Entry → ℕ → List ℕ → ℕ → Bool
claim_of p specs trace tap octets begin =
    claims_for (address_at specs tap) (arrival_of (map Good octets)) && is_silent p.ttd tap trace (begin - tto p (address_at specs tap)) begin

pub claim_alike : (p : Params) (specs : List TapSpec) (now : ℕ) (es ys : List Entry) (r y : Record) → r.begin ≤ now → Pairs (Alike now) es ys → AlikeRecord now r y → is_claim p specs es r ≡ is_claim p specs ys y
claim_alike p specs now es ys r y begun a h =
    ap (λ b. claims_for (address_at specs r.tap) (arrival_of (map Good r.octets)) && b) (silent_alike p.ttd r.tap now (r.begin - tto p (address_at specs r.tap)) r.begin es ys (omega (arith, begun)) a)
    ∙ ap (λ n. claim_of p specs ys n r.octets r.begin) (sym h.tap) ∙ ap (λ o. claim_of p specs ys y.tap o r.begin) (sym h.octets) ∙ ap (λ m. claim_of p specs ys y.tap y.octets m) (sym h.begin)

loss_alike : (p : Params) (now : ℕ) (es ys : List Entry) (r y : Record) → r.begin ≤ now → Pairs (Alike now) es ys → AlikeRecord now r y → EndsNoLoss p es r → EndsNoLoss p ys y
loss_alike p now es ys r y begun a h no_loss from late =
    let same = h.begin in
    ap (λ n. is_silent p.ttd n ys from y.begin) h.tap ∙ ap (λ m. is_silent p.ttd r.tap ys from m) same
    ∙ sym (silent_alike p.ttd r.tap now from r.begin es ys (omega (arith, late, same, begun)) a) ∙ no_loss from (omega (arith, late, same))

takes_alike : (p : Params) (now : ℕ) (l k : Option Record) (r y : Record) → r.begin ≤ now → Both (AlikeRecord now) l k → AlikeRecord now r y → TakesInTime p l r → TakesInTime p k y
takes_alike p now None None r y begun both h takes = tt
takes_alike p now None (Some b) r y begun both h takes = absurd both
takes_alike p now (Some a) None r y begun both h takes = absurd both
takes_alike p now (Some a) (Some b) r y begun both h takes = λ to offers another.
    let t = takes to (ap (λ o. offered_by (arrival_of (map Good o))) (sym both.octets) ∙ offers) (λ same. another (both.tap ∙ same ∙ sym h.tap)) in
    let same = h.begin in
    let low = t.0 in
    let high = t.1 in
    ⊎_elim (λ (e : b.end ≡ a.end). (omega (arith, low, e, same), omega (arith, high, e, same))) (λ (later : (now < a.end) × (now < b.end)). absurd (let z = later.0 in omega (arith, z, low, begun))) both.end

timely_alike : (p : Params) (specs : List TapSpec) (now : ℕ) (es ys : List Entry) → Pairs (Alike now) es ys → (l k : Option Record) (r y : Record) → r.begin ≤ now → Both (AlikeRecord now) l k → AlikeRecord now r y
    → IsTimely p specs es l r → IsTimely p specs ys k y
timely_alike p specs now es ys a l k r y begun both h timely =
    ⊎_elim (λ (c : is_claim p specs es r ≡ true). inl (sym (claim_alike p specs now es ys r y begun a h) ∙ c))
    (λ (t : EndsNoLoss p es r × TakesInTime p l r). inr (loss_alike p now es ys r y begun a h t.0, takes_alike p now l k r y begun both h t.1)) timely

likened : (now : ℕ) (es ys : List Entry) → Pairs (Alike now) es ys → Pairs (Likened (AlikeRecord now)) es ys
likened now [] [] a = tt
likened now [] (y ∷ ys) a = absurd a
likened now (e ∷ es) [] a = absurd a
likened now (e ∷ es) (y ∷ ys) a = (one e y a.0, likened now es ys a.1)
  where
    one : (e y : Entry) → Alike now e y → Likened (AlikeRecord now) e y
    one (Noise u) (Noise v) h = tt
    one (Noise u) (Sent y) h = absurd h
    one (Sent r) (Noise v) h = absurd h
    one (Sent r) (Sent y) h = h

-- A property of a telegram, after the one before it and in a trace, that stays whatever comes later: entries may change
-- after the clock, and one more may begin.
pub record Stable (P : List Entry → Option Record → Record → Type 0) : Type 0 where
  pub alike : (now : ℕ) (es ys : List Entry) → Pairs (Alike now) es ys → (l k : Option Record) (r y : Record) → r.begin ≤ now → Both (AlikeRecord now) l k → AlikeRecord now r y → P es l r → P ys k y
  pub inserted : (now : ℕ) (e : Entry) (es : List Entry) → now ≤ entry_begin e → (l : Option Record) (r : Record) → r.begin ≤ now → P es l r → P (with_entry e es) l r

-- so it holds of each initiator telegram of a trace like this one
pub all_alike : (P : List Entry → Option Record → Record → Type 0) → Stable P → (now : ℕ) (es ys : List Entry) → Each (Begun now) es → Pairs (Alike now) es ys → Successive (P es) None es → Successive (P ys) None ys
all_alike P stable now es ys begun a all =
    successive_pairs (P es) (P ys) (AlikeRecord now) now None None es ys (λ r y h. ap (λ o. initiates (arrival_of (map Good o))) h.octets) (stable.alike now es ys a) tt begun (likened now es ys a) all

-- ---- a trace with the same silences

pub noise_silence : (p : Params) (now : ℕ) (span : Span) (es : List Entry) → now ≤ span.begin → SameSilence p now (with_entry (Noise span) es) es
noise_silence p now span es new tap from to le =
    ap (λ b. not b) (any_with (λ e. is_within from to (active_at p.ttd tap e)) (Noise span) es (ap (λ b. b && nat_lt from span.end) (le-ltb span.begin to (omega (arith, le, new)))))

pub entry_silence : (p : Params) (now : ℕ) (e : Entry) (es : List Entry) → now ≤ entry_begin e → SameSilence p now (with_entry e es) es
entry_silence p now (Noise span) es new = noise_silence p now span es new
entry_silence p now (Sent x) es new = same_silence p now x es new

timely_same : (p : Params) (specs : List TapSpec) (now : ℕ) (es ys : List Entry) → SameSilence p now ys es → (l : Option Record) (r : Record) → r.begin ≤ now → IsTimely p specs es l r → IsTimely p specs ys l r
timely_same p specs now es ys same l r begun timely =
    ⊎_elim (λ (c : is_claim p specs es r ≡ true). inl (ap (λ b. claims_for (address_at specs r.tap) (arrival_of (map Good r.octets)) && b) (same r.tap (r.begin - tto p (address_at specs r.tap)) r.begin begun) ∙ c))
    (λ (t : EndsNoLoss p es r × TakesInTime p l r). inr (λ from late. same r.tap from r.begin begun ∙ t.0 from late, t.1)) timely

-- what is timely stays so
pub timely_stable : (p : Params) (specs : List TapSpec) → Stable (IsTimely p specs)
timely_stable p specs = record {
  alike = timely_alike p specs;
  inserted = λ now e es new. timely_same p specs now es (with_entry e es) (entry_silence p now e es new);
}

-- ---- what events do to entries

alike_self : (now : ℕ) (e : Entry) → Alike now e e
alike_self now (Noise span) = (refl, inl refl)
alike_self now (Sent r) = record { tap = refl; octets = refl; begin = refl; end = inl refl }

hit_one : (now : ℕ) (hit : Hit) (e : Entry) → Alike now e (with_hit hit e)
hit_one now hit (Noise span) = alike_self now (Noise span)
hit_one now hit (Sent r) = record { tap = refl; octets = refl; begin = refl; end = inl refl }

pub alike_hit : (now : ℕ) (test : Entry → Bool) (hit : Hit) (es : List Entry) → Pairs (Alike now) es (change_first test (with_hit hit) es)
alike_hit now test hit es = pairs_change (Alike now) test (with_hit hit) es (alike_self now) (λ e _. hit_one now hit e)

noisy_one : (now m : ℕ) (e : Entry) → is_noise_at now e ≡ true → Alike now e (noisy_until m e)
noisy_one now m (Sent r) h = alike_self now (Sent r)
noisy_one now m (Noise span) h = let there = ltb-true now span.end h in (refl, inr (there, omega (arith, there)))

pub alike_noisy : (now m : ℕ) (es : List Entry) → Pairs (Alike now) es (change_first (is_noise_at now) (noisy_until m) es)
alike_noisy now m es = pairs_change (Alike now) (is_noise_at now) (noisy_until m) es (alike_self now) (λ e h. noisy_one now m e h)

cut_record : (now : ℕ) (r : Record) → AlikeRecord now r (record r { end = cut_end now r })
cut_record now r = record {
  tap = refl;
  octets = refl;
  begin = refl;
  end = ⊎_elim (λ (a : cut_end now r ≡ r.end). inl a) (λ (b : now < cut_end now r). let most : cut_end now r ≤ r.end = omega arith in inr (omega (arith, b, most), b)) (cut_bound now r);
}

cut_one : (now tap : ℕ) (e : Entry) → Alike now e (cut_at now tap e)
cut_one now tap (Noise span) = alike_self now (Noise span)
cut_one now tap (Sent r) = by_test (λ (z : Record). AlikeRecord now r z) (r.tap == tap) (record r { end = cut_end now r }) r (λ _. cut_record now r) (λ _. alike_self now (Sent r))

pub alike_cut : (now tap : ℕ) (es : List Entry) → Pairs (Alike now) es (map (cut_at now tap) es)
alike_cut now tap es = pairs_map (Alike now) (cut_at now tap) es (cut_one now tap)

told_one : (now delay : ℕ) (taps : List Tap) (trace : List Entry) (from to : ℕ) (e : Entry) → Alike now e (entry_at delay taps trace from to e)
told_one now delay taps trace from to (Noise span) = alike_self now (Noise span)
told_one now delay taps trace from to (Sent r) =
    by_test (λ (z : Entry). Alike now (Sent r) z) (ends_between from to (reaches delay r)) (Sent (record r { heard = heard_by delay trace r 0 taps r.heard })) (Sent r)
    (λ _. record { tap = refl; octets = refl; begin = refl; end = inl refl }) (λ _. alike_self now (Sent r))

pub alike_told : (now delay : ℕ) (taps : List Tap) (trace : List Entry) (from to : ℕ) (es : List Entry) → Pairs (Alike now) es (map (entry_at delay taps trace from to) es)
alike_told now delay taps trace from to es = pairs_map (Alike now) (entry_at delay taps trace from to) es (told_one now delay taps trace from to)

lost_one : (now tap : ℕ) (e : Entry) → Alike now e (unheard_at tap e)
lost_one now tap (Noise span) = alike_self now (Noise span)
lost_one now tap (Sent r) = record { tap = refl; octets = refl; begin = refl; end = inl refl }

pub alike_lost : (now speaker tap : ℕ) (es : List Entry) → Pairs (Alike now) es (change_first (begins_from now speaker) (unheard_at tap) es)
alike_lost now speaker tap es = pairs_change (Alike now) (begins_from now speaker) (unheard_at tap) es (alike_self now) (λ e _. lost_one now tap e)
