-- The last initiator record of traces that are related entry by entry, and what new noise leaves.
use Rattle.std.proofs.Common.{◌≡◌, ℕ, ◌≤◌, if◌then◌else◌, List, [], ◌∷◌, map, refl, subst, Option, Some, None}
use Rattle.std.specs.Prelude.{nat_le}
use Rattle.pb_telegram.specs.declared.chars.RxChar.TheVariants.{Good}
use Rattle.pb_timers.specs.Timers.{Params}
use Rattle.law_turn.specs.Spans.{Span}
use Rattle.law_turn.specs.Arrivals.{arrival_of}
use Rattle.law_turn.proofs.Cases.{by_one_test}
use Rattle.law_model.specs.Trace.{Record, Entry, Sent, Noise, goes_before, with_entry}
use Rattle.law_model.specs.Medium.{Tap}
use Rattle.law_model.proofs.Cases.{by_test}
use Rattle.law_runs.specs.Initiators.{is_initiator, initiates, later_record, last_from}
use Rattle.law_token.specs.Views.{place, TapHolds}
use Rattle.law_token.proofs.bus.Hearers.{new_noise, stays}

-- ---- the last initiator record of traces that are related entry by entry

abbrev pub EntryR : (Record → Record → Type 0) → Entry → Entry → Type 0
EntryR R (Noise a) (Noise b) = Unit {0}
EntryR R (Noise a) (Sent x) = ⊥
EntryR R (Sent r) (Noise b) = ⊥
EntryR R (Sent r) (Sent x) = R r x

abbrev pub TraceR : (Record → Record → Type 0) → List Entry → List Entry → Type 0
TraceR R [] [] = Unit {0}
TraceR R [] (x ∷ xs) = ⊥
TraceR R (e ∷ es) [] = ⊥
TraceR R (e ∷ es) (x ∷ xs) = EntryR R e x × TraceR R es xs

abbrev pub LastR : (Record → Record → Type 0) → Option Record → Option Record → Type 0
LastR R None None = Unit {0}
LastR R None (Some x) = ⊥
LastR R (Some r) None = ⊥
LastR R (Some r) (Some x) = R r x

pub last_related : (R : Record → Record → Type 0) → ((r x : Record) → R r x → (r.begin ≡ x.begin) × (r.octets ≡ x.octets)) → (t : ℕ) (es xs : List Entry) (l l' : Option Record)
    → TraceR R es xs → LastR R l l' → LastR R (last_from l t es) (last_from l' t xs)
last_related R same t [] [] l l' rel lr = lr
last_related R same t [] (x ∷ xs) l l' rel lr = absurd rel
last_related R same t (e ∷ es) [] l l' rel lr = absurd rel
last_related R same t (Noise a ∷ es) (Noise b ∷ xs) l l' rel lr = last_related R same t es xs l l' rel.1 lr
last_related R same t (Noise a ∷ es) (Sent x ∷ xs) l l' rel lr = absurd rel.0
last_related R same t (Sent r ∷ es) (Noise b ∷ xs) l l' rel lr = absurd rel.0
last_related R same t (Sent r ∷ es) (Sent x ∷ xs) l l' rel lr =
    last_related R same t es xs (if nat_le r.begin t then later_record l r else l) (if nat_le x.begin t then later_record l' x else l') rel.1
    (subst (λ b. LastR R (if nat_le r.begin t then later_record l r else l) (if nat_le b t then later_record l' x else l')) (same r x rel.0).0
    (by_one_test (LastR R) (nat_le r.begin t) (later_record l r) l (later_record l' x) l'
    (λ _. subst (λ o. LastR R (later_record l r) (if initiates (arrival_of (map Good o)) then Some x else l')) (same r x rel.0).1
    (by_one_test (LastR R) (is_initiator r) (Some r) l (Some x) l' (λ _. rel.0) (λ _. lr)))
    (λ _. lr)))

-- ---- Noise

-- new noise
pub noise_tap : (p : Params) (now : ℕ) (trace : List Entry) (span : Span) (last : Option Record) (k : ℕ) (t : Tap) → now ≤ span.begin → TapHolds p now trace last k t → TapHolds p now (with_entry (Noise span) trace) last k t
noise_tap p now trace span last k t new o = stays p now trace (Noise span) last k t (new_noise (place p now k t) span new) (λ own. tt) o

pub last_noise : (t : ℕ) (span : Span) (es : List Entry) (l : Option Record) → last_from l t (with_entry (Noise span) es) ≡ last_from l t es
last_noise t span [] l = refl
last_noise t span (Noise a ∷ es) l =
    by_test (λ ys. last_from l t ys ≡ last_from l t (Noise a ∷ es)) (goes_before (Noise span) (Noise a)) (Noise span ∷ Noise a ∷ es) (Noise a ∷ with_entry (Noise span) es) (λ _. refl) (λ _. last_noise t span es l)
last_noise t span (Sent r ∷ es) l =
    by_test (λ ys. last_from l t ys ≡ last_from l t (Sent r ∷ es)) (goes_before (Noise span) (Sent r)) (Noise span ∷ Sent r ∷ es) (Sent r ∷ with_entry (Noise span) es) (λ _. refl)
    (λ _. last_noise t span es (if nat_le r.begin t then later_record l r else l))
