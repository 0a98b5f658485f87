-- Initiator telegrams that are legal and in time in a trace are good for a listener anywhere.
use Rattle.std.proofs.Common.{◌≡◌, ℕ, ◌+◌, ◌-◌, ◌*◌, ◌<◌, ◌≤◌, ◌⊎◌, inl, inr, ⊎_elim, Bool, true, false, if◌then◌else◌, not, ◌==◌, ◌&&◌, ◌||◌, List, [], ◌∷◌, map, refl, sym, ap, ◌∙◌, subst, arith, Option, Some, None}
use Rattle.std.specs.Prelude.{slice_get, nat_lt, nat_le}
use Rattle.std.specs.List.{list_any}
use Rattle.std.proofs.lemmas.Bool.{eqb-true, eq-eqb, leb-true, ltb-true, lt-ltb, and_parts, or_parts}
use Rattle.pb_timers.specs.Timers.{Params, tto}
use Rattle.law_model.specs.Trace.{Record, Entry, Sent, Noise, entry_begin, entry_end}
use Rattle.law_model.specs.Medium.{TapSpec, reaches, reaches_taps}
use Rattle.law_runs.specs.Activity.{active_at, is_within, is_silent}
use Rattle.law_runs.specs.Initiators.{telegram_of, is_initiator, offered_to, claims_for}
use Rattle.law_runs.specs.Judging.{IsOrderedFrom}
use Rattle.law_runs.specs.Legality.{is_whole, address_at, is_claim, follows_by, is_legal_after}
use Rattle.law_token.specs.Lists.{Each}
use Rattle.pb_monitor.specs.Captures.{All, Has, BeginsAt, IsClear, AllClear}
use Rattle.pb_monitor.specs.Promises.{IsBySource}
use Rattle.pb_monitor.proofs.NoneRaised.{claim_for}
use Rattle.law_monitor.specs.Timely.{EndsNoLoss, TakesInTime, IsTimely, Successive}
use Rattle.law_monitor.specs.Anywhere.{as_heard}
use Rattle.law_monitor.proofs.anywhere.Here.{ClaimHere, NoLossHere, Untouched, PassedHere, TakenHere, FollowsHere, GoodHere, inits, later, later_last}
use Rattle.law_monitor.proofs.anywhere.Lone.{Far, ComesOne, Lone}
use Rattle.law_monitor.proofs.timely.Fillers.{not_within}
use Rattle.law_monitor.proofs.timely.Spoken.{outside}
use Rattle.law_model.proofs.Window.{not_false}
use Rattle.pb_monitor.proofs.Legal.{either}

-- ---- how telegrams reach a listener

abbrev pub ComesAfter : (ℕ → ℕ) → Option Record → Record → Type 0
ComesAfter delays None r = Unit {0}
ComesAfter delays (Some w) r = w.end + delays w.tap ≤ r.begin + delays r.tap

-- An entry has some length; a telegram of another that has not reached a speaker before one of its own reaches the listener no sooner than that was sent
abbrev pub NotSooner : ℕ → (ℕ → ℕ) → Record → Entry → Type 0
NotSooner delay delays r (Noise span) = span.begin < span.end
NotSooner delay delays r (Sent e) = (e.begin < e.end) × ((e.tap ≡ r.tap) ⊎ (r.begin ≤ e.begin + delay → r.begin ≤ e.begin + delays e.tap))

-- an initiator telegram reaches it after the one before; what is on its way to a claimer does not come before the claim
abbrev pub Arrives : Params → List TapSpec → (ℕ → ℕ) → List Entry → Option Record → Record → Type 0
Arrives p specs delays trace last r = ComesAfter delays last r × (is_claim p specs trace r ≡ true → Each (NotSooner p.ttd delays r) trace)

-- so it is wherever the listener is, if telegrams are over one by one and nothing is in the air before a claim
pub lone_arrives : (p : Params) (specs : List TapSpec) (delays : ℕ → ℕ) (trace : List Entry) → ((tap : ℕ) → delays tap ≤ p.ttd) → IsOrderedFrom 0 trace → (l : Option Record) (r : Record) → Lone p specs trace l r → Arrives p specs delays trace l r
lone_arrives p specs delays trace near order l r lone = (after l lone.0, λ c. not_sooner 0 trace order (lone.1 c))
  where
    after : (l : Option Record) → ComesOne p.ttd l r → ComesAfter delays l r
    after None c = tt
    after (Some w) c =
        let over = c.0 in
        ⊎_elim (λ (own : w.tap ≡ r.tap). let d : delays w.tap ≡ delays r.tap = ap delays own in omega (arith, d, over)) (λ (there : w.end + p.ttd ≤ r.begin). let d = near w.tap in omega (arith, d, there)) c.1

    one : (e : Entry) → entry_begin e < entry_end e → Far p.ttd r e → NotSooner p.ttd delays r e
    one (Noise span) some far = some
    one (Sent e) some far = (
      some,
      ⊎_elim (λ (own : e.tap ≡ r.tap). inl own)
          (λ (other : (e.end + p.ttd ≤ r.begin) ⊎ (r.begin ≤ e.begin)). inr (λ there. ⊎_elim (λ (t : e.end + p.ttd ≤ r.begin). absurd (omega (arith, t, there, some))) (λ (t : r.begin ≤ e.begin). omega (arith, t)) other)) far,
    )

    not_sooner : (m : ℕ) (es : List Entry) → IsOrderedFrom m es → Each (Far p.ttd r) es → Each (NotSooner p.ttd delays r) es
    not_sooner m [] order far = tt
    not_sooner m (e ∷ es) order far = (one e order.1 far.0, not_sooner (entry_begin e) es order.2 far.1)

-- and at a listener with the same delay from all, if they are over one by one
pub legal_arrives : (p : Params) (specs : List TapSpec) (trace : List Entry) → IsOrderedFrom 0 trace → (l : Option Record) (r : Record) → is_legal_after p specs trace l r ≡ true → Arrives p specs (λ _. p.ttd) trace l r
legal_arrives p specs trace order l r legal = (after l legal, λ c. all 0 trace order)
  where
    after : (l : Option Record) → is_legal_after p specs trace l r ≡ true → ComesAfter (λ _. p.ttd) l r
    after None h = tt
    after (Some w) h = let over = leb-true w.end r.begin (and_parts (nat_le w.end r.begin) (follows_by p specs trace w (offered_to w) r || is_claim p specs trace r) h).0 in omega (arith, over)

    one : (e : Entry) → entry_begin e < entry_end e → NotSooner p.ttd (λ _. p.ttd) r e
    one (Noise span) some = some
    one (Sent e) some = (some, inr (λ there. there))

    all : (m : ℕ) (es : List Entry) → IsOrderedFrom m es → Each (NotSooner p.ttd (λ _. p.ttd) r) es
    all m [] order = tt
    all m (e ∷ es) order = (one e order.1, all (entry_begin e) es order.2)

-- ---- in order

-- a moment is not after the last telegram's end at the listener
abbrev pub NotAfter : (ℕ → ℕ) → ℕ → Option Record → Type 0
NotAfter delays m None = m ≡ 0
NotAfter delays m (Some w) = m ≤ w.end + delays w.tap

-- initiator telegrams reach any listener in order
pub order_told : (delays : ℕ → ℕ) (n m : ℕ) (last : Option Record) (es : List Entry) → IsOrderedFrom n es → Successive (ComesAfter delays) last es → NotAfter delays m last → IsOrderedFrom m (inits delays es)
order_told delays n m last [] order comes before = tt
order_told delays n m last (Noise span ∷ es) order comes before = order_told delays span.begin m last es order.2 comes before
order_told delays n m last (Sent r ∷ es) order comes before = by (is_initiator r) refl (λ k l b c. order_told delays r.begin k l es order.2 c b) comes.0 comes.1
  where
    late : (l : Option Record) → ComesAfter delays l r → NotAfter delays m l → m ≤ r.begin + delays r.tap
    late None c b = omega (arith, b)
    late (Some w) c b = omega (arith, c, b)

    by : (z : Bool) → is_initiator r ≡ z → ((k : ℕ) (l : Option Record) → NotAfter delays k l → Successive (ComesAfter delays) l es → IsOrderedFrom k (inits delays es)) → (z ≡ true → ComesAfter delays last r) → Successive (ComesAfter delays) (if z then Some r else last) es
        → IsOrderedFrom m (if z then as_heard delays (Sent r) ∷ inits delays es else inits delays es)
    by true e rec here rest = (late last (here refl) before, let some = order.1 in omega (arith, some), rec (r.begin + delays r.tap) (Some r) (let some = order.1 in omega (arith, some)) rest)
    by false e rec here rest = rec m last before rest

pub sources_told : (specs : List TapSpec) (delays : ℕ → ℕ) (es : List Entry) → All (IsBySource specs) es → All (IsBySource specs) (map (as_heard delays) es)
sources_told specs delays [] all = tt
sources_told specs delays (Noise span ∷ es) all = (tt, sources_told specs delays es all.1)
sources_told specs delays (Sent r ∷ es) all = (all.0, sources_told specs delays es all.1)

-- ---- claims

-- an entry that is not in the speaker's silence before a claim is not in the listener's
clear_one : (delay : ℕ) (delays : ℕ → ℕ) (r : Record) (n : ℕ) (e : Entry) → ((tap : ℕ) → delays tap ≤ delay) → NotSooner delay delays r e → is_within (r.begin - n) r.begin (active_at delay r.tap e) ≡ false
    → IsClear (r.begin + delays r.tap - n) (r.begin + delays r.tap - delays r.tap) (reaches_taps 0 (as_heard delays e))
clear_one delay delays r n (Noise span) near far h =
    ⊎_elim (λ (a : r.begin ≤ span.begin). inr (omega (arith, a))) (λ (b : span.end ≤ r.begin - n). inl (omega (arith, b))) (outside (r.begin - n) r.begin span h)
clear_one delay delays r n (Sent e) near far h = by (e.tap == r.tap) refl h
  where
    some : e.begin < e.end
    some = far.0

    at : delays e.tap ≤ delay
    at = near e.tap

    by : (c : Bool) → (e.tap == r.tap) ≡ c → is_within (r.begin - n) r.begin (if c then record { begin = e.begin; end = e.end } else reaches delay e) ≡ false
        → (e.end + delays e.tap + 0 ≤ r.begin + delays r.tap - n) ⊎ (r.begin + delays r.tap - delays r.tap ≤ e.begin + delays e.tap + 0)
    by true own g =
        let d : delays e.tap ≡ delays r.tap = ap delays (eqb-true e.tap r.tap own) in
        ⊎_elim (λ (a : r.begin ≤ e.begin). inr (omega (arith, a))) (λ (b : e.end ≤ r.begin - n). inl (omega (arith, b, d, some))) (outside (r.begin - n) r.begin (record { begin = e.begin; end = e.end }) g)
    by false other g =
        ⊎_elim
        (λ (a : r.begin ≤ e.begin + delay). ⊎_elim (λ (own : e.tap ≡ r.tap). absurd (let w : true ≡ false = sym (eq-eqb e.tap r.tap own) ∙ other in cc))
        (λ (there : r.begin ≤ e.begin + delay → r.begin ≤ e.begin + delays e.tap). inr (let t = there a in omega (arith, t))) far.1)
        (λ (b : e.end + delay ≤ r.begin - n). inl (omega (arith, b, at))) (outside (r.begin - n) r.begin (reaches delay e) g)

clear_told : (delay : ℕ) (delays : ℕ → ℕ) (r : Record) (n : ℕ) (es : List Entry) → ((tap : ℕ) → delays tap ≤ delay) → Each (NotSooner delay delays r) es → list_any (λ e. is_within (r.begin - n) r.begin (active_at delay r.tap e)) es ≡ false
    → AllClear 0 (r.begin + delays r.tap - n) (r.begin + delays r.tap - delays r.tap) (map (as_heard delays) es)
clear_told delay delays r n [] near far h = tt
clear_told delay delays r n (e ∷ es) near far h =
    let b = or_parts (is_within (r.begin - n) r.begin (active_at delay r.tap e)) (list_any (λ e. is_within (r.begin - n) r.begin (active_at delay r.tap e)) es) h in
    (clear_one delay delays r n e near far.0 b.0, clear_told delay delays r n es near far.1 b.1)

claim_told : (p : Params) (specs : List TapSpec) (delays : ℕ → ℕ) (trace : List Entry) (l : Option Record) (r : Record) → ((tap : ℕ) → delays tap ≤ p.ttd) → Arrives p specs delays trace l r → is_claim p specs trace r ≡ true
    → ClaimHere p specs delays (map (as_heard delays) trace) (later delays r)
claim_told p specs delays trace l r near arrives c = record {
  claims = parts.0;
  near = near r.tap;
  silent = clear_told p.ttd delays r timeout trace near (arrives.1 c) (not_false (list_any (λ e. is_within (r.begin - timeout) r.begin (active_at p.ttd r.tap e)) trace) parts.1);
}
  where
    timeout : ℕ
    timeout = tto p (address_at specs r.tap)

    parts : (claims_for (address_at specs r.tap) (telegram_of r) ≡ true) × (is_silent p.ttd r.tap trace (r.begin - timeout) r.begin ≡ true)
    parts = claim_for (telegram_of r) (address_at specs r.tap) (is_silent p.ttd r.tap trace (r.begin - timeout) r.begin) c

-- ---- no loss

silent_one : (delay : ℕ) (delays : ℕ → ℕ) (r : Record) (q : ℕ) (e : Entry) → ((tap : ℕ) → delays tap ≤ delay) → IsClear q (r.begin + delays r.tap) (reaches_taps 0 (as_heard delays e)) → is_within (q + delay) r.begin (active_at delay r.tap e) ≡ false
silent_one delay delays r q (Noise span) near h =
    not_within (q + delay) r.begin span.begin span.end (⊎_elim (λ (a : span.end ≤ q). inl (omega (arith, a))) (λ (a : r.begin + delays r.tap ≤ span.begin). inr (omega (arith, a))) h)
silent_one delay delays r q (Sent e) near h = by (e.tap == r.tap) refl
  where
    at : delays e.tap ≤ delay
    at = near e.tap

    by : (c : Bool) → (e.tap == r.tap) ≡ c → is_within (q + delay) r.begin (if c then record { begin = e.begin; end = e.end } else reaches delay e) ≡ false
    by true own =
        let d : delays e.tap ≡ delays r.tap = ap delays (eqb-true e.tap r.tap own) in
        not_within (q + delay) r.begin e.begin e.end
        (⊎_elim (λ (a : e.end + delays e.tap + 0 ≤ q). inl (omega (arith, a))) (λ (a : r.begin + delays r.tap ≤ e.begin + delays e.tap + 0). inr (omega (arith, a, d))) h)
    by false other =
        not_within (q + delay) r.begin (e.begin + delay) (e.end + delay)
        (⊎_elim (λ (a : e.end + delays e.tap + 0 ≤ q). inl (omega (arith, a))) (λ (a : r.begin + delays r.tap ≤ e.begin + delays e.tap + 0). inr (omega (arith, a, at))) h)

silent_told : (delay : ℕ) (delays : ℕ → ℕ) (r : Record) (q : ℕ) (es : List Entry) → ((tap : ℕ) → delays tap ≤ delay) → AllClear 0 q (r.begin + delays r.tap) (map (as_heard delays) es) → list_any (λ e. is_within (q + delay) r.begin (active_at delay r.tap e)) es ≡ false
silent_told delay delays r q [] near all = refl
silent_told delay delays r q (e ∷ es) near all = ap (λ b. b || list_any (λ e. is_within (q + delay) r.begin (active_at delay r.tap e)) es) (silent_one delay delays r q e near all.0) ∙ silent_told delay delays r q es near all.1

no_loss_told : (p : Params) (delays : ℕ → ℕ) (trace : List Entry) (r : Record) → ((tap : ℕ) → delays tap ≤ p.ttd) → EndsNoLoss p trace r → NoLossHere p (map (as_heard delays) trace) (later delays r)
no_loss_told p delays trace r near no_loss q late clear =
    let d = near r.tap in
    let w : false ≡ true = sym (no_loss (q + p.ttd) (omega (arith, late, d))) ∙ ap not (silent_told p.ttd delays r q trace near clear) in cc

-- ---- a token in its slot

within : (from to b e : ℕ) → b < to → from < e → (nat_lt b to && nat_lt from e) ≡ true
within from to b e h i = ap (λ z. z && nat_lt from e) (lt-ltb b to h) ∙ lt-ltb from e i

touches_one : (delay tsl : ℕ) (delays : ℕ → ℕ) (w : Record) (m : ℕ) (e : Entry) → ((tap : ℕ) → delays tap ≤ delay) → w.end + delays w.tap ≤ m → m + 2 * delay < w.end + delays w.tap + tsl → BeginsAt 0 m (as_heard delays e)
    → is_within w.end (w.end + tsl) (active_at delay w.tap e) ≡ true
touches_one delay tsl delays w m (Noise span) near after soon h =
    let at = near w.tap in
    let is = h.0 in
    let some = h.1 in
    within w.end (w.end + tsl) span.begin span.end (omega (arith, is, soon, after, at)) (omega (arith, is, after, some))
touches_one delay tsl delays w m (Sent e) near after soon h = by (e.tap == w.tap) refl
  where
    by : (c : Bool) → (e.tap == w.tap) ≡ c → is_within w.end (w.end + tsl) (if c then record { begin = e.begin; end = e.end } else reaches delay e) ≡ true
    by true own =
        let d : delays e.tap ≡ delays w.tap = ap delays (eqb-true e.tap w.tap own) in
        let is = h.0 in
        let some = h.1 in
        within w.end (w.end + tsl) e.begin e.end (omega (arith, is, soon, after, d)) (omega (arith, is, after, some, d))
    by false other =
        let a = near e.tap in
        let b = near w.tap in
        let is = h.0 in
        let some = h.1 in
        within w.end (w.end + tsl) (e.begin + delay) (e.end + delay) (omega (arith, is, soon, after, a, b)) (omega (arith, is, after, some, a, b))

touches_told : (delay tsl : ℕ) (delays : ℕ → ℕ) (w : Record) (m : ℕ) (es : List Entry) → ((tap : ℕ) → delays tap ≤ delay) → w.end + delays w.tap ≤ m → m + 2 * delay < w.end + delays w.tap + tsl → Has (BeginsAt 0 m) (map (as_heard delays) es)
    → list_any (λ e. is_within w.end (w.end + tsl) (active_at delay w.tap e)) es ≡ true
touches_told delay tsl delays w m [] near after soon h = absurd h
touches_told delay tsl delays w m (e ∷ es) near after soon h =
    ⊎_elim (λ (x : BeginsAt 0 m (as_heard delays e)). ap (λ b. b || list_any (λ e. is_within w.end (w.end + tsl) (active_at delay w.tap e)) es) (touches_one delay tsl delays w m e near after soon x))
    (λ (t : Has (BeginsAt 0 m) (map (as_heard delays) es)). or_true (is_within w.end (w.end + tsl) (active_at delay w.tap e)) (list_any (λ e. is_within w.end (w.end + tsl) (active_at delay w.tap e)) es) (touches_told delay tsl delays w m es near after soon t)) h
  where
    or_true : (b c : Bool) → c ≡ true → (b || c) ≡ true
    or_true true c i = refl
    or_true false c i = i

untouched_told : (p : Params) (delays : ℕ → ℕ) (trace : List Entry) (w : Record) → ((tap : ℕ) → delays tap ≤ p.ttd) → is_silent p.ttd w.tap trace w.end (w.end + p.tsl) ≡ true → Untouched p (map (as_heard delays) trace) (later delays w)
untouched_told p delays trace w near silent m after soon begins = let z : true ≡ false = sym silent ∙ ap not (touches_told p.ttd p.tsl delays w m trace near after soon begins) in cc

follows_told : (p : Params) (specs : List TapSpec) (delays : ℕ → ℕ) (trace : List Entry) (w r : Record) (o : Option ℕ) → ((tap : ℕ) → delays tap ≤ p.ttd) → offered_to w ≡ o → TakesInTime p (Some w) r → follows_by p specs trace w o r ≡ true
    → FollowsHere p specs (map (as_heard delays) trace) (later delays w) o (later delays r)
follows_told p specs delays trace w r None near offers takes h = eqb-true w.tap r.tap h
follows_told p specs delays trace w r (Some to) near offers takes h = by (w.tap == r.tap) refl h
  where
    by : (b : Bool) → (w.tap == r.tap) ≡ b
        → (if b then nat_le (w.end + p.tsl) r.begin && is_silent p.ttd r.tap trace w.end (w.end + p.tsl) else (to == address_at specs r.tap && is_whole (slice_get w.heard r.tap) && nat_lt r.begin (w.end + p.tsl))) ≡ true
        → PassedHere p (map (as_heard delays) trace) (later delays w) (later delays r) ⊎ TakenHere p specs (later delays w) to (later delays r)
    by true same g =
        let tap : w.tap ≡ r.tap = eqb-true w.tap r.tap same in
        let d : delays w.tap ≡ delays r.tap = ap delays tap in
        let parts = and_parts (nat_le (w.end + p.tsl) r.begin) (is_silent p.ttd r.tap trace w.end (w.end + p.tsl)) g in
        let late = leb-true (w.end + p.tsl) r.begin parts.0 in
        inl (record {
          same = tap;
          late = omega (arith, d, late);
          untouched = untouched_told p delays trace w near (subst (λ n. is_silent p.ttd n trace w.end (w.end + p.tsl) ≡ true) (sym tap) parts.1);
        })
    by false other g =
        let t = takes to offers (λ own. let z : true ≡ false = sym (eq-eqb w.tap r.tap own) ∙ other in cc) in
        let u = and_parts (to == address_at specs r.tap && is_whole (slice_get w.heard r.tap)) (nat_lt r.begin (w.end + p.tsl)) g in
        let soon = ltb-true r.begin (w.end + p.tsl) u.1 in
        let a = near w.tap in
        let b = near r.tap in
        let low = t.0 in
        let high = t.1 in
        inr (record {
          taker = eqb-true to (address_at specs r.tap) (and_parts (to == address_at specs r.tap) (is_whole (slice_get w.heard r.tap)) u.0).0;
          in_slot = omega (arith, soon, a, b);
          idle = omega (arith, low, a, b);
          lag = omega (arith, high, a, b);
        })

-- ---- a telegram

-- an initiator telegram that is legal and in time, after one that has arrived, is good for the listener
pub good_told : (p : Params) (specs : List TapSpec) (delays : ℕ → ℕ) (trace : List Entry) → ((tap : ℕ) → delays tap ≤ p.ttd)
    → (l : Option Record) (r : Record) → ((is_legal_after p specs trace l r ≡ true) × IsTimely p specs trace l r) × Arrives p specs delays trace l r → GoodHere p specs delays (map (as_heard delays) trace) (later_last delays l) (later delays r)
good_told p specs delays trace near None r h = claim_told p specs delays trace None r near h.1 h.0.0
good_told p specs delays trace near (Some w) r h = (h.1.0, ⊎_elim (λ (c : is_claim p specs trace r ≡ true). inl (claim_told p specs delays trace (Some w) r near h.1 c)) (λ (t : EndsNoLoss p trace r × TakesInTime p (Some w) r). by t) h.0.1)
  where
    by : EndsNoLoss p trace r × TakesInTime p (Some w) r → ClaimHere p specs delays (map (as_heard delays) trace) (later delays r)
        ⊎ (NoLossHere p (map (as_heard delays) trace) (later delays r) × FollowsHere p specs (map (as_heard delays) trace) (later delays w) (offered_to w) (later delays r))
    by t =
        ⊎_elim (λ (f : follows_by p specs trace w (offered_to w) r ≡ true). inr (no_loss_told p delays trace r near t.0, follows_told p specs delays trace w r (offered_to w) near refl t.1 f))
        (λ (c : is_claim p specs trace r ≡ true). inl (claim_told p specs delays trace (Some w) r near h.1 c))
        (either (follows_by p specs trace w (offered_to w) r) (is_claim p specs trace r) (and_parts (nat_le w.end r.begin) (follows_by p specs trace w (offered_to w) r || is_claim p specs trace r) h.0.0).1)
