-- A trace as a listener anywhere hears it, and which initiator telegrams are good for its judge.
use Rattle.std.proofs.Common.{◌≡◌, ℕ, ◌+◌, ◌-◌, ◌*◌, ◌<◌, ◌≤◌, ◌⊎◌, inl, inr, ⊎_elim, Bool, true, false, if◌then◌else◌, List, [], ◌∷◌, map, refl, sym, ap, ◌∙◌, subst, Option, Some, None}
use Rattle.pb_timers.specs.Timers.{Params, tto}
use Rattle.law_turn.specs.Arrivals.{arrival_of}
use Rattle.law_model.specs.Trace.{Record, Entry, Sent, Noise}
use Rattle.law_model.specs.Medium.{TapSpec}
use Rattle.law_runs.specs.Initiators.{telegram_of, initiates, is_initiator, offered_to, claims_for}
use Rattle.law_runs.specs.Legality.{address_at}
use Rattle.pb_monitor.specs.Captures.{Burst, All, Has, Fills, AllClear, BeginsAt}
use Rattle.pb_monitor.specs.Judge.{live}
use Rattle.law_monitor.specs.Timely.{Successive}
use Rattle.law_monitor.specs.Anywhere.{as_heard}

-- ---- good telegrams, by what the listener hears: all moments are the listener's

-- A claim: the listener has had silence too, from a time-out before it until it was sent.
pub record ClaimHere (p : Params) (specs : List TapSpec) (delays : ℕ → ℕ) (heard : List Entry) (r : Record) : Type 0 where
  pub claims : claims_for (address_at specs r.tap) (telegram_of r) ≡ true
  pub near : delays r.tap ≤ p.ttd
  pub silent : AllClear 0 (r.begin - tto p (address_at specs r.tap)) (r.begin - delays r.tap) heard

-- no silence before it is longer than those that a token in use leaves
abbrev pub NoLossHere : Params → List Entry → Record → Type 0
NoLossHere p heard r = (q : ℕ) → q + live p 0 < r.begin → AllClear 0 q r.begin heard → ⊥

-- nothing begins in the part of the slot behind a telegram in which its speaker surely hears it
abbrev pub Untouched : Params → List Entry → Record → Type 0
Untouched p heard w = (m : ℕ) → w.end ≤ m → m + 2 * p.ttd < w.end + p.tsl → Has (BeginsAt 0 m) heard → ⊥

pub record PassedHere (p : Params) (heard : List Entry) (w r : Record) : Type 0 where
  pub same : w.tap ≡ r.tap
  pub late : w.end + p.tsl ≤ r.begin
  pub untouched : Untouched p heard w

pub record TakenHere (p : Params) (specs : List TapSpec) (w : Record) (to : ℕ) (r : Record) : Type 0 where
  pub taker : to ≡ address_at specs r.tap
  pub in_slot : r.begin < w.end + (p.tsl + p.ttd)
  pub idle : w.end + p.tid1 ≤ r.begin
  pub lag : r.begin ≤ w.end + (p.tid1 + p.lag + 2 * p.ttd)

abbrev pub FollowsHere : Params → List TapSpec → List Entry → Record → Option ℕ → Record → Type 0
FollowsHere p specs heard w None r = w.tap ≡ r.tap
FollowsHere p specs heard w (Some to) r = PassedHere p heard w r ⊎ TakenHere p specs w to r

abbrev pub GoodHere : Params → List TapSpec → (ℕ → ℕ) → List Entry → Option Record → Record → Type 0
GoodHere p specs delays heard None r = ClaimHere p specs delays heard r
GoodHere p specs delays heard (Some w) r = (w.end ≤ r.begin) × (ClaimHere p specs delays heard r ⊎ (NoLossHere p heard r × FollowsHere p specs heard w (offered_to w) r))

-- ---- the initiator telegrams, as they are heard

abbrev pub inits : (ℕ → ℕ) → List Entry → List Entry
inits delays [] = []
inits delays (Noise span ∷ es) = inits delays es
inits delays (Sent r ∷ es) = if is_initiator r then as_heard delays (Sent r) ∷ inits delays es else inits delays es

pub all_inits : (X : Entry → Type 0) (delays : ℕ → ℕ) (es : List Entry) → All X (map (as_heard delays) es) → All X (inits delays es)
all_inits X delays [] all = tt
all_inits X delays (Noise span ∷ es) all = all_inits X delays es all.1
all_inits X delays (Sent r ∷ es) all = by (is_initiator r) (all_inits X delays es all.1)
  where
    by : (b : Bool) → All X (inits delays es) → All X (if b then as_heard delays (Sent r) ∷ inits delays es else inits delays es)
    by true rest = (all.0, rest)
    by false rest = rest

-- what fills a burst that is an initiator telegram is one of them
pub has_inits : (delays : ℕ → ℕ) (b : Burst) (es : List Entry) → initiates (arrival_of b.chars) ≡ true → Has (Fills 0 b) (map (as_heard delays) es) → Has (Fills 0 b) (inits delays es)
has_inits delays b [] init here = absurd here
has_inits delays b (Noise span ∷ es) init here = ⊎_elim (λ (f : Fills 0 b (Noise span)). absurd f) (λ (t : Has (Fills 0 b) (map (as_heard delays) es)). has_inits delays b es init t) here
has_inits delays b (Sent r ∷ es) init here = by (is_initiator r) refl (has_inits delays b es init) here
  where
    by : (c : Bool) → is_initiator r ≡ c → (Has (Fills 0 b) (map (as_heard delays) es) → Has (Fills 0 b) (inits delays es)) → Fills 0 b (as_heard delays (Sent r)) ⊎ Has (Fills 0 b) (map (as_heard delays) es)
        → Has (Fills 0 b) (if c then as_heard delays (Sent r) ∷ inits delays es else inits delays es)
    by true e rec h = ⊎_elim (λ (f : Fills 0 b (as_heard delays (Sent r))). inl f) (λ (t : Has (Fills 0 b) (map (as_heard delays) es)). inr (rec t)) h
    by false e rec h = ⊎_elim (λ (f : Fills 0 b (as_heard delays (Sent r))). absurd (let w : true ≡ false = sym init ∙ ap initiates f.2 ∙ e in cc)) (λ (t : Has (Fills 0 b) (map (as_heard delays) es)). rec t) h

abbrev pub later : (ℕ → ℕ) → Record → Record
later delays r = record r { begin = r.begin + delays r.tap; end = r.end + delays r.tap }

abbrev pub later_last : (ℕ → ℕ) → Option Record → Option Record
later_last delays None = None
later_last delays (Some r) = Some (later delays r)

-- a property of each after the one before it
pub successive_inits : (P Q : Option Record → Record → Type 0) (delays : ℕ → ℕ) (last : Option Record) (es : List Entry) → ((l : Option Record) (r : Record) → P l r → Q (later_last delays l) (later delays r)) → Successive P last es
    → Successive Q (later_last delays last) (inits delays es)
successive_inits P Q delays last [] f s = tt
successive_inits P Q delays last (Noise span ∷ es) f s = successive_inits P Q delays last es f s
successive_inits P Q delays last (Sent r ∷ es) f s = by (is_initiator r) refl (λ l. successive_inits P Q delays l es f) s.0 s.1
  where
    by : (b : Bool) → is_initiator r ≡ b → ((l : Option Record) → Successive P l es → Successive Q (later_last delays l) (inits delays es)) → (b ≡ true → P last r) → Successive P (if b then Some r else last) es
        → Successive Q (later_last delays last) (if b then as_heard delays (Sent r) ∷ inits delays es else inits delays es)
    by true e rec here rest = (λ _. f last r (here refl), subst (λ b. Successive Q (if b then Some (later delays r) else later_last delays last) (inits delays es)) (sym e) (rec (Some r) rest))
    by false e rec here rest = rec last rest
