-- A trace that differs in what is in the air, or has new noise, is as legal.
use Rattle.std.proofs.Common.{◌≡◌, ℕ, ◌+◌, ◌-◌, ◌<◌, ◌≤◌, inl, inr, ⊎_elim, Bool, true, false, if◌then◌else◌, not, ◌==◌, ◌&&◌, ◌||◌, List, [], ◌∷◌, refl, sym, ap, ◌∙◌, subst, arith, Option, Some, None}
use Rattle.std.specs.Prelude.{slice_get, nat_lt, nat_le}
use Rattle.std.specs.List.{list_any}
use Rattle.std.proofs.lemmas.Bool.{leb-true, lt-ltb, le-ltb, lt-leb}
use Rattle.pb_timers.specs.Timers.{Params, tto}
use Rattle.law_turn.specs.Spans.{Span}
use Rattle.law_model.specs.Trace.{Record, Entry, Sent, Noise, goes_before, with_entry}
use Rattle.law_model.specs.Medium.{Tap, TapSpec, reaches}
use Rattle.law_model.proofs.Cases.{by_test}
use Rattle.law_runs.specs.Activity.{active_at, is_within, is_silent}
use Rattle.law_runs.specs.Initiators.{telegram_of, is_initiator, offered_to, claims_for}
use Rattle.law_runs.specs.Legality.{is_whole, address_at, is_claim, follows_by, is_legal_after, first_illegal_from, first_illegal}
use Rattle.law_runs.specs.Premises.{Waited}
use Rattle.law_token.specs.Lists.{Each}
use Rattle.law_token.specs.Entries.{EntryHolds}
use Rattle.law_token.proofs.air.LastRecords.{LastR}
use Rattle.law_token.proofs.bus.Legal.{SameSilence, still_legal, any_with, Begun}
use Rattle.law_token.proofs.air.Near.{EndsNear, NearRecord, Near, AllNear, record_ends}

-- ---- silences that are over

ends_within : (from to now b m n : ℕ) → from ≤ now → EndsNear now m n → (nat_lt b to && nat_lt from m) ≡ (nat_lt b to && nat_lt from n)
ends_within from to now b m n le (inl same) = ap (λ z. nat_lt b to && nat_lt from z) same
ends_within from to now b m n le (inr later) = ap (λ z. nat_lt b to && z) (lt-ltb from m (omega (arith, later.0, le)) ∙ sym (lt-ltb from n (omega (arith, later.1, le))))

within_near : (delay tap now from to : ℕ) (S : ℕ → Type 0) (e x : Entry) → from ≤ now → Near now S e x → is_within from to (active_at delay tap e) ≡ is_within from to (active_at delay tap x)
within_near delay tap now from to S (Noise a) (Noise b) le h = ends_within from to now a.begin a.end b.end le h.2 ∙ ap (λ z. nat_lt z to && nat_lt from b.end) h.0
within_near delay tap now from to S (Noise a) (Sent x) le h = absurd h
within_near delay tap now from to S (Sent r) (Noise b) le h = absurd h
within_near delay tap now from to S (Sent r) (Sent x) le h =
    subst (λ z. is_within from to (active_at delay tap (Sent r)) ≡ is_within from to (active_at delay tap (Sent z))) (sym h.is) (here (r.tap == tap))
  where
    near : EndsNear now r.end h.end
    near = (record_ends now S r h.end h.ends).0

    here : (b : Bool) → is_within from to (if b then record { begin = r.begin; end = r.end } else reaches delay r) ≡ is_within from to (if b then record { begin = r.begin; end = h.end } else reaches delay (record r { hits = h.hits; end = h.end }))
    here true = ends_within from to now r.begin r.end h.end le near
    here false = ends_within from to now (r.begin + delay) (r.end + delay) (h.end + delay) le
        (⊎_elim (λ (a : r.end ≡ h.end). inl (ap (λ n. n + delay) a)) (λ (b : (now < r.end) × (now < h.end)). inr (omega (arith, b.0), omega (arith, b.1))) near)

any_within : (delay tap now from to : ℕ) (S : ℕ → Type 0) (es xs : List Entry) → from ≤ now → AllNear now S es xs → list_any (λ e. is_within from to (active_at delay tap e)) es ≡ list_any (λ e. is_within from to (active_at delay tap e)) xs
any_within delay tap now from to S [] [] le a = refl
any_within delay tap now from to S [] (x ∷ xs) le a = absurd a
any_within delay tap now from to S (e ∷ es) [] le a = absurd a
any_within delay tap now from to S (e ∷ es) (x ∷ xs) le a =
    ap (λ b. b || list_any (λ e. is_within from to (active_at delay tap e)) es) (within_near delay tap now from to S e x le a.0)
    ∙ ap (λ b. is_within from to (active_at delay tap x) || b) (any_within delay tap now from to S es xs le a.1)

pub silence_near : (delay tap now from to : ℕ) (S : ℕ → Type 0) (es xs : List Entry) → from ≤ now → AllNear now S es xs → is_silent delay tap es from to ≡ is_silent delay tap xs from to
silence_near delay tap now from to S es xs le a = ap (λ b. not b) (any_within delay tap now from to S es xs le a)

-- ---- what is legal

claim_near : (p : Params) (specs : List TapSpec) (now : ℕ) (S : ℕ → Type 0) (es xs : List Entry) (r : Record) → r.begin ≤ now → AllNear now S es xs → is_claim p specs es r ≡ is_claim p specs xs r
claim_near p specs now S es xs r begun a =
    ap (λ b. claims_for (address_at specs r.tap) (telegram_of r) && b) (silence_near p.ttd r.tap now (r.begin - tto p (address_at specs r.tap)) r.begin S es xs (omega (arith, begun)) a)

follows_near : (p : Params) (specs : List TapSpec) (now : ℕ) (S : ℕ → Type 0) (es xs : List Entry) (last : Record) (o : Option ℕ) (r : Record) → r.begin ≤ now → AllNear now S es xs → follows_by p specs es last o r ≡ follows_by p specs xs last o r
follows_near p specs now S es xs last None r begun a = refl
follows_near p specs now S es xs last (Some to) r begun a =
    ap (λ b. if last.tap == r.tap then b else (to == address_at specs r.tap && is_whole (slice_get last.heard r.tap) && nat_lt r.begin (last.end + p.tsl))) (slot (nat_le (last.end + p.tsl) r.begin) refl)
  where
    slot : (b : Bool) → nat_le (last.end + p.tsl) r.begin ≡ b → (b && is_silent p.ttd r.tap es last.end (last.end + p.tsl)) ≡ (b && is_silent p.ttd r.tap xs last.end (last.end + p.tsl))
    slot true e = silence_near p.ttd r.tap now last.end (last.end + p.tsl) S es xs (omega (arith, leb-true (last.end + p.tsl) r.begin e, begun)) a
    slot false e = refl

legal_near : (p : Params) (specs : List TapSpec) (now : ℕ) (S : ℕ → Type 0) (es xs : List Entry) (l l' : Option Record) (r : Record) → r.begin ≤ now → AllNear now S es xs → LastR (NearRecord now S) l l'
    → is_legal_after p specs es l r ≡ is_legal_after p specs xs l' r
legal_near p specs now S es xs None None r begun a lr = claim_near p specs now S es xs r begun a
legal_near p specs now S es xs None (Some x) r begun a lr = absurd lr
legal_near p specs now S es xs (Some y) None r begun a lr = absurd lr
legal_near p specs now S es xs (Some y) (Some x) r begun a lr =
    subst (λ z. is_legal_after p specs es (Some y) r ≡ is_legal_after p specs xs (Some z) r) (sym lr.is)
    (⊎_elim (λ (e : lr.end ≡ y.end). subst (λ m. is_legal_after p specs es (Some y) r ≡ is_legal_after p specs xs (Some (record y { hits = lr.hits; end = m })) r) (sym e) same)
    (λ (b : S y.tap × (now < lr.end) × (lr.end ≤ y.end)).
    ap (λ c. c && (follows_by p specs es y (offered_to y) r || is_claim p specs es r)) (lt-leb y.end r.begin (omega (arith, b.1, b.2, begun)))
    ∙ sym (ap (λ c. c && (follows_by p specs xs (record y { hits = lr.hits; end = lr.end }) (offered_to y) r || is_claim p specs xs r)) (lt-leb lr.end r.begin (omega (arith, b.1, begun))))) lr.ends)
  where
    same : is_legal_after p specs es (Some y) r ≡ is_legal_after p specs xs (Some (record y { hits = lr.hits; end = y.end })) r
    same = ap (λ b. nat_le y.end r.begin && (b || is_claim p specs es r)) (follows_near p specs now S es xs y (offered_to y) r begun a)
        ∙ ap (λ b. nat_le y.end r.begin && (follows_by p specs xs y (offered_to y) r || b)) (claim_near p specs now S es xs r begun a)

first_near : (p : Params) (specs : List TapSpec) (now : ℕ) (S : ℕ → Type 0) (tr tr' : List Entry) (l l' : Option Record) (n : ℕ) (es xs : List Entry) → AllNear now S tr tr' → Each (Begun now) es → LastR (NearRecord now S) l l' → AllNear now S es xs
    → first_illegal_from p specs tr l n es ≡ first_illegal_from p specs tr' l' n xs
first_near p specs now S tr tr' l l' n [] [] near begun lr a = refl
first_near p specs now S tr tr' l l' n [] (x ∷ xs) near begun lr a = absurd a
first_near p specs now S tr tr' l l' n (e ∷ es) [] near begun lr a = absurd a
first_near p specs now S tr tr' l l' n (Noise u ∷ es) (Noise v ∷ xs) near begun lr a = first_near p specs now S tr tr' l l' (n + 1) es xs near begun.1 lr a.1
first_near p specs now S tr tr' l l' n (Noise u ∷ es) (Sent x ∷ xs) near begun lr a = absurd a.0
first_near p specs now S tr tr' l l' n (Sent r ∷ es) (Noise v ∷ xs) near begun lr a = absurd a.0
first_near p specs now S tr tr' l l' n (Sent r ∷ es) (Sent x ∷ xs) near begun lr a =
    ap (λ b. if is_initiator r then (if b then first_illegal_from p specs tr (Some r) (n + 1) es else Some n) else first_illegal_from p specs tr l (n + 1) es) (legal_near p specs now S tr tr' l l' r begun.0 near lr)
    ∙ ap (λ o. if is_initiator r then (if is_legal_after p specs tr' l' r then o else Some n) else first_illegal_from p specs tr l (n + 1) es) (first_near p specs now S tr tr' (Some r) (Some x) (n + 1) es xs near begun.1 a.0 a.1)
    ∙ ap (λ o. if is_initiator r then (if is_legal_after p specs tr' l' r then first_illegal_from p specs tr' (Some x) (n + 1) xs else Some n) else o) (first_near p specs now S tr tr' l l' (n + 1) es xs near begun.1 lr a.1)
    ∙ subst (λ z. (if is_initiator r then (if is_legal_after p specs tr' l' r then first_illegal_from p specs tr' (Some x) (n + 1) xs else Some n) else first_illegal_from p specs tr' l' (n + 1) xs)
    ≡ (if is_initiator z then (if is_legal_after p specs tr' l' z then first_illegal_from p specs tr' (Some x) (n + 1) xs else Some n) else first_illegal_from p specs tr' l' (n + 1) xs)) (sym a.0.is) (same l')
    ∙ refl
  where
    same : (k : Option Record) → (if is_initiator r then (if is_legal_after p specs tr' k r then first_illegal_from p specs tr' (Some x) (n + 1) xs else Some n) else first_illegal_from p specs tr' l' (n + 1) xs)
        ≡ (if is_initiator r then (if is_legal_after p specs tr' k (record r { hits = a.0.hits; end = a.0.end }) then first_illegal_from p specs tr' (Some x) (n + 1) xs else Some n) else first_illegal_from p specs tr' l' (n + 1) xs)
    same None = refl
    same (Some y) = ap (λ c. if is_initiator r then (if nat_le y.end r.begin && (c || is_claim p specs tr' r) then first_illegal_from p specs tr' (Some x) (n + 1) xs else Some n) else first_illegal_from p specs tr' l' (n + 1) xs) (follow (offered_to y))
      where
        follow : (o : Option ℕ) → follows_by p specs tr' y o r ≡ follows_by p specs tr' y o (record r { hits = a.0.hits; end = a.0.end })
        follow None = refl
        follow (Some to) = refl

pub trace_near : (p : Params) (specs : List TapSpec) (now : ℕ) (S : ℕ → Type 0) (es xs : List Entry) → AllNear now S es xs → Each (Begun now) es → first_illegal p specs es ≡ None → first_illegal p specs xs ≡ None
trace_near p specs now S es xs near begun legal = sym (first_near p specs now S es xs None None 0 es xs near begun tt near) ∙ legal

pub begun_of : (p : Params) (now : ℕ) (taps : List Tap) (trace : List Entry) (waited : List Waited) (last : Option Record) (es : List Entry) → Each (EntryHolds p now taps trace waited last) es → Each (Begun now) es
begun_of p now taps trace waited last [] all = tt
begun_of p now taps trace waited last (Noise u ∷ es) all = (all.0.0, begun_of p now taps trace waited last es all.1)
begun_of p now taps trace waited last (Sent r ∷ es) all = (all.0.begun, begun_of p now taps trace waited last es all.1)

-- ---- new noise

chosen : (b c : Bool) (n m : ℕ) (v v' w w' : Option ℕ) → (v ≡ None → v' ≡ None) → (w ≡ None → w' ≡ None) → (if b then (if c then v else Some n) else w) ≡ None → (if b then (if c then v' else Some m) else w') ≡ None
chosen true true n m v v' w w' f g h = f h
chosen true false n m v v' w w' f g h = absurd cc
chosen false c n m v v' w w' f g h = g h

shifted : (p : Params) (specs : List TapSpec) (tr : List Entry) (l : Option Record) (n m : ℕ) (es : List Entry) → first_illegal_from p specs tr l n es ≡ None → first_illegal_from p specs tr l m es ≡ None
shifted p specs tr l n m [] h = refl
shifted p specs tr l n m (Noise u ∷ es) h = shifted p specs tr l (n + 1) (m + 1) es h
shifted p specs tr l n m (Sent r ∷ es) h =
    chosen (is_initiator r) (is_legal_after p specs tr l r) n m (first_illegal_from p specs tr (Some r) (n + 1) es) (first_illegal_from p specs tr (Some r) (m + 1) es) (first_illegal_from p specs tr l (n + 1) es) (first_illegal_from p specs tr l (m + 1) es)
    (shifted p specs tr (Some r) (n + 1) (m + 1) es) (shifted p specs tr l (n + 1) (m + 1) es) h

with_noise_legal : (p : Params) (specs : List TapSpec) (tr : List Entry) (span : Span) (l : Option Record) (n m : ℕ) (es : List Entry) → first_illegal_from p specs tr l n es ≡ None → first_illegal_from p specs tr l m (with_entry (Noise span) es) ≡ None
with_noise_legal p specs tr span l n m [] h = refl
with_noise_legal p specs tr span l n m (Noise u ∷ es) h =
    by_test (λ ys. first_illegal_from p specs tr l m ys ≡ None) (goes_before (Noise span) (Noise u)) (Noise span ∷ Noise u ∷ es) (Noise u ∷ with_entry (Noise span) es)
    (λ _. shifted p specs tr l n (m + 1) (Noise u ∷ es) h) (λ _. with_noise_legal p specs tr span l (n + 1) (m + 1) es h)
with_noise_legal p specs tr span l n m (Sent r ∷ es) h =
    by_test (λ ys. first_illegal_from p specs tr l m ys ≡ None) (goes_before (Noise span) (Sent r)) (Noise span ∷ Sent r ∷ es) (Sent r ∷ with_entry (Noise span) es)
    (λ _. shifted p specs tr l n (m + 1) (Sent r ∷ es) h)
    (λ _. chosen (is_initiator r) (is_legal_after p specs tr l r) n m (first_illegal_from p specs tr (Some r) (n + 1) es) (first_illegal_from p specs tr (Some r) (m + 1) (with_entry (Noise span) es))
    (first_illegal_from p specs tr l (n + 1) es) (first_illegal_from p specs tr l (m + 1) (with_entry (Noise span) es))
    (with_noise_legal p specs tr span (Some r) (n + 1) (m + 1) es) (with_noise_legal p specs tr span l (n + 1) (m + 1) es) h)

noise_silence : (p : Params) (now m : ℕ) (es : List Entry) → SameSilence p now (with_entry (Noise (record { begin = now; end = m })) es) es
noise_silence p now m es tap from to le =
    ap (λ b. not b) (any_with (λ e. is_within from to (active_at p.ttd tap e)) (Noise (record { begin = now; end = m })) es (ap (λ b. b && nat_lt from m) (le-ltb now to (omega (arith, le)))))

pub noise_legal : (p : Params) (specs : List TapSpec) (now m : ℕ) (es : List Entry) → Each (Begun now) es → first_illegal p specs es ≡ None → first_illegal p specs (with_entry (Noise (record { begin = now; end = m })) es) ≡ None
noise_legal p specs now m es begun legal =
    let e = Noise (record { begin = now; end = m }) in
    with_noise_legal p specs (with_entry e es) (record { begin = now; end = m }) None 0 0 es (still_legal p specs now (with_entry e es) es None 0 es begun (noise_silence p now m es) ∙ legal)
