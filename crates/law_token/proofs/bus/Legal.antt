-- One more initiator record, legal after the last, leaves the trace legal.
use Rattle.std.proofs.Common.{◌≡◌, ℕ, ◌+◌, ◌-◌, ◌≤◌, Bool, true, false, if◌then◌else◌, not, ◌==◌, ◌&&◌, ◌||◌, List, [], ◌∷◌, refl, sym, ap, ◌∙◌, subst, arith, Option, Some, None}
use Rattle.std.specs.Prelude.{slice_get, nat_lt, nat_le}
use Rattle.std.specs.List.{list_any}
use Rattle.std.proofs.lemmas.Bool.{leb-true, le-leb, le-ltb}
use Rattle.pb_timers.specs.Timers.{Params, tto}
use Rattle.law_model.specs.Trace.{Record, Entry, Sent, Noise, goes_before, with_entry, entry_begin}
use Rattle.law_model.specs.Medium.{TapSpec, reaches}
use Rattle.law_model.proofs.Cases.{by_test}
use Rattle.law_runs.specs.Activity.{active_at, is_within, is_silent}
use Rattle.law_runs.specs.Initiators.{telegram_of, is_initiator, offered_to, claims_for, later_record, last_from}
use Rattle.law_runs.specs.Legality.{is_whole, address_at, is_claim, follows_by, is_legal_after, first_illegal_from}
use Rattle.law_token.specs.Lists.{Each}

-- ---- the silences that are over stay

abbrev pub SameSilence : Params → ℕ → List Entry → List Entry → Type 0
SameSilence p now es xs = (tap from to : ℕ) → to ≤ now → is_silent p.ttd tap es from to ≡ is_silent p.ttd tap xs from to

same_claim : (p : Params) (specs : List TapSpec) (now : ℕ) (es xs : List Entry) (r : Record) → r.begin ≤ now → SameSilence p now es xs → is_claim p specs es r ≡ is_claim p specs xs r
same_claim p specs now es xs r begun same = ap (λ b. claims_for (address_at specs r.tap) (telegram_of r) && b) (same r.tap (r.begin - tto p (address_at specs r.tap)) r.begin begun)

same_follows : (p : Params) (specs : List TapSpec) (now : ℕ) (es xs : List Entry) (last : Record) (o : Option ℕ) (r : Record) → r.begin ≤ now → SameSilence p now es xs → follows_by p specs es last o r ≡ follows_by p specs xs last o r
same_follows p specs now es xs last None r begun same = refl
same_follows p specs now es xs last (Some to) r begun same =
    ap (λ b. if last.tap == r.tap then b else (to == address_at specs r.tap && is_whole (slice_get last.heard r.tap) && nat_lt r.begin (last.end + p.tsl))) (slot (nat_le (last.end + p.tsl) r.begin) refl)
  where
    slot : (b : Bool) → nat_le (last.end + p.tsl) r.begin ≡ b → (b && is_silent p.ttd r.tap es last.end (last.end + p.tsl)) ≡ (b && is_silent p.ttd r.tap xs last.end (last.end + p.tsl))
    slot true e = same r.tap last.end (last.end + p.tsl) (omega (arith, leb-true (last.end + p.tsl) r.begin e))
    slot false e = refl

pub same_legal : (p : Params) (specs : List TapSpec) (now : ℕ) (es xs : List Entry) (last : Option Record) (r : Record) → r.begin ≤ now → SameSilence p now es xs → is_legal_after p specs es last r ≡ is_legal_after p specs xs last r
same_legal p specs now es xs None r begun same = same_claim p specs now es xs r begun same
same_legal p specs now es xs (Some last) r begun same =
    ap (λ b. nat_le last.end r.begin && (b || is_claim p specs es r)) (same_follows p specs now es xs last (offered_to last) r begun same)
    ∙ ap (λ b. nat_le last.end r.begin && (follows_by p specs xs last (offered_to last) r || b)) (same_claim p specs now es xs r begun same)

abbrev pub Begun : ℕ → Entry → Type 0
Begun now e = entry_begin e ≤ now

pub still_legal : (p : Params) (specs : List TapSpec) (now : ℕ) (es xs : List Entry) (last : Option Record) (n : ℕ) (tail : List Entry) → Each (Begun now) tail → SameSilence p now es xs
    → first_illegal_from p specs es last n tail ≡ first_illegal_from p specs xs last n tail
still_legal p specs now es xs last n [] begun same = refl
still_legal p specs now es xs last n (Noise span ∷ tail) begun same = still_legal p specs now es xs last (n + 1) tail begun.1 same
still_legal p specs now es xs last n (Sent r ∷ tail) begun same =
    ap (λ b. if is_initiator r then (if b then first_illegal_from p specs es (Some r) (n + 1) tail else Some n) else first_illegal_from p specs es last (n + 1) tail) (same_legal p specs now es xs last r begun.0 same)
    ∙ ap (λ o. if is_initiator r then (if is_legal_after p specs xs last r then o else Some n) else first_illegal_from p specs es last (n + 1) tail) (still_legal p specs now es xs (Some r) (n + 1) tail begun.1 same)
    ∙ ap (λ o. if is_initiator r then (if is_legal_after p specs xs last r then first_illegal_from p specs xs (Some r) (n + 1) tail else Some n) else o) (still_legal p specs now es xs last (n + 1) tail begun.1 same)

-- ---- an entry that begins now is in no silence that is over

pub any_with : (test : Entry → Bool) (e : Entry) (es : List Entry) → test e ≡ false → list_any test (with_entry e es) ≡ list_any test es
any_with test e [] no_ = ap (λ b. b || false) no_
any_with test e (x ∷ xs) no_ =
    by_test (λ ys. list_any test ys ≡ list_any test (x ∷ xs)) (goes_before e x) (e ∷ x ∷ xs) (x ∷ with_entry e xs)
    (λ _. ap (λ b. b || list_any test (x ∷ xs)) no_) (λ _. ap (λ b. test x || b) (any_with test e xs no_))

not_within : (delay tap now from to : ℕ) (x : Record) → to ≤ now → now ≤ x.begin → is_within from to (active_at delay tap (Sent x)) ≡ false
not_within delay tap now from to x le new =
    by_test (λ s. is_within from to s ≡ false) (x.tap == tap) (record { begin = x.begin; end = x.end }) (reaches delay x)
    (λ _. ap (λ b. b && nat_lt from x.end) (le-ltb x.begin to (omega arith))) (λ _. ap (λ b. b && nat_lt from (x.end + delay)) (le-ltb (x.begin + delay) to (omega arith)))

pub same_silence : (p : Params) (now : ℕ) (x : Record) (es : List Entry) → now ≤ x.begin → SameSilence p now (with_entry (Sent x) es) es
same_silence p now x es new tap from to le = ap (λ b. not b) (any_with (λ e. is_within from to (active_at p.ttd tap e)) (Sent x) es (not_within p.ttd tap now from to x le new))

-- ---- the new record comes after all initiator records

-- entries among which no initiator record is
abbrev pub NoInit : Entry → Type 0
NoInit (Noise span) = Unit {0}
NoInit (Sent r) = is_initiator r ≡ false

none_illegal : (p : Params) (specs : List TapSpec) (tr : List Entry) (last : Option Record) (n : ℕ) (es : List Entry) → Each NoInit es → first_illegal_from p specs tr last n es ≡ None
none_illegal p specs tr last n [] none = refl
none_illegal p specs tr last n (Noise span ∷ es) none = none_illegal p specs tr last (n + 1) es none.1
none_illegal p specs tr last n (Sent r ∷ es) none =
    ap (λ b. if b then (if is_legal_after p specs tr last r then first_illegal_from p specs tr (Some r) (n + 1) es else Some n) else first_illegal_from p specs tr last (n + 1) es) none.0
    ∙ none_illegal p specs tr last (n + 1) es none.1

pub none_last : (l : Option Record) (t : ℕ) (es : List Entry) → Each NoInit es → last_from l t es ≡ l
none_last l t [] none = refl
none_last l t (Noise span ∷ es) none = none_last l t es none.1
none_last l t (Sent r ∷ es) none =
    ap (λ o. last_from o t es) (by_test (λ o. o ≡ l) (nat_le r.begin t) (later_record l r) l (λ _. ap (λ b. if b then Some r else l) none.0) (λ _. refl)) ∙ none_last l t es none.1

-- where the new entry goes, no initiator record stands behind
abbrev pub BehindNone : Entry → List Entry → Type 0
BehindNone e [] = Unit {0}
BehindNone e (x ∷ xs) = (goes_before e x ≡ true → Each NoInit (x ∷ xs)) × BehindNone e xs

behind_it : (p : Params) (specs : List TapSpec) (tr : List Entry) (now : ℕ) (x : Record) (last : Option Record) (n : ℕ) (e : Entry) (es : List Entry) → entry_begin e ≤ now
    → ((l : Option Record) (m : ℕ) → is_legal_after p specs tr (last_from l now es) x ≡ true → first_illegal_from p specs tr l m es ≡ None → first_illegal_from p specs tr l m (with_entry (Sent x) es) ≡ None)
    → is_legal_after p specs tr (last_from last now (e ∷ es)) x ≡ true → first_illegal_from p specs tr last n (e ∷ es) ≡ None → first_illegal_from p specs tr last n (e ∷ with_entry (Sent x) es) ≡ None
behind_it p specs tr now x last n (Noise span) es begun rec legal h = rec last (n + 1) legal h
behind_it p specs tr now x last n (Sent r) es begun rec legal h =
    go (is_initiator r) (is_legal_after p specs tr last r)
    (subst (λ b. is_legal_after p specs tr (last_from (if b then later_record last r else last) now es) x ≡ true) (le-leb r.begin now begun) legal) h
  where
    go : (b c : Bool) → is_legal_after p specs tr (last_from (if b then Some r else last) now es) x ≡ true
        → (if b then (if c then first_illegal_from p specs tr (Some r) (n + 1) es else Some n) else first_illegal_from p specs tr last (n + 1) es) ≡ None
        → (if b then (if c then first_illegal_from p specs tr (Some r) (n + 1) (with_entry (Sent x) es) else Some n) else first_illegal_from p specs tr last (n + 1) (with_entry (Sent x) es)) ≡ None
    go true true l f = rec (Some r) (n + 1) l f
    go true false l f = absurd cc
    go false c l f = rec last (n + 1) l f

pub with_legal : (p : Params) (specs : List TapSpec) (tr : List Entry) (now : ℕ) (x : Record) (last : Option Record) (n : ℕ) (es : List Entry) → is_initiator x ≡ true → Each (Begun now) es → BehindNone (Sent x) es
    → is_legal_after p specs tr (last_from last now es) x ≡ true → first_illegal_from p specs tr last n es ≡ None → first_illegal_from p specs tr last n (with_entry (Sent x) es) ≡ None
with_legal p specs tr now x last n [] init begun behind legal h =
    ap (λ b. if b then (if is_legal_after p specs tr last x then None else Some n) else None) init ∙ ap (λ b. if b then None else Some n) legal
with_legal p specs tr now x last n (e ∷ es) init begun behind legal h =
    by_test (λ ys. first_illegal_from p specs tr last n ys ≡ None) (goes_before (Sent x) e) (Sent x ∷ e ∷ es) (e ∷ with_entry (Sent x) es)
    (λ before. let none = behind.0 before in
    ap (λ b. if b then (if is_legal_after p specs tr last x then first_illegal_from p specs tr (Some x) (n + 1) (e ∷ es) else Some n) else first_illegal_from p specs tr last (n + 1) (e ∷ es)) init
    ∙ ap (λ b. if b then first_illegal_from p specs tr (Some x) (n + 1) (e ∷ es) else Some n) (ap (λ l. is_legal_after p specs tr l x) (sym (none_last last now (e ∷ es) none)) ∙ legal)
    ∙ none_illegal p specs tr (Some x) (n + 1) (e ∷ es) none)
    (λ _. behind_it p specs tr now x last n e es begun.0 (λ l m leg none. with_legal p specs tr now x l m es init begun.1 behind.1 leg none) legal h)
