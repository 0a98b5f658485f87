-- What one listener on the bus hears of it: bursts of activity.
use Rattle.std.specs.Prelude.{◌≡◌, ◌⊎◌, ℕ, ◌+◌, ◌<◌, ◌≤◌, List, [], ◌∷◌}
use Rattle.pb_telegram.specs.declared.chars.RxChar.{RxChar}
use Rattle.law_turn.specs.Spans.{Span}
use Rattle.law_turn.specs.Arrivals.{NoTelegram, arrival_of}
use Rattle.law_model.specs.Trace.{Entry, Sent, Noise}
use Rattle.law_model.specs.Medium.{reaches_taps}
use Rattle.law_runs.specs.Initiators.{telegram_of}

-- from when to when, and its characters, good or damaged
pub record Burst : Type 0 where
  pub begin : ℕ
  pub end : ℕ
  pub chars : List RxChar

-- all, or some, of a list
abbrev pub All : {A : Type 0} → (A → Type 0) → List A → Type 0
All X [] = Unit {0}
All X (x ∷ xs) = X x × All X xs

abbrev pub Has : {A : Type 0} → (A → Type 0) → List A → Type 0
Has X [] = ⊥
Has X (x ∷ xs) = X x ⊎ Has X xs

-- a stretch of time has nothing from one moment on, before another
abbrev pub IsClear : (u v : ℕ) → Span → Type 0
IsClear u v x = (x.end ≤ u) ⊎ (v ≤ x.begin)

abbrev pub AllClear : (delay u v : ℕ) → List Entry → Type 0
AllClear delay u v trace = All (λ e. IsClear u v (reaches_taps delay e)) trace

-- a burst has no hole: something is active at each moment of it
abbrev pub IsSolid : ℕ → List Entry → Burst → Type 0
IsSolid delay trace b = (u v : ℕ) → u < v → u < b.end → b.begin < v → AllClear delay u v trace → ⊥

-- an entry begins at the listener at a moment
abbrev pub BeginsAt : (delay m : ℕ) → Entry → Type 0
BeginsAt delay m e = ((reaches_taps delay e).begin ≡ m) × ((reaches_taps delay e).begin < (reaches_taps delay e).end)

-- the entry is the telegram that fills a burst
abbrev pub Fills : ℕ → Burst → Entry → Type 0
Fills delay b (Noise span) = ⊥
Fills delay b (Sent r) = (b.begin ≡ r.begin + delay) × (b.end ≡ r.end + delay) × (arrival_of b.chars ≡ telegram_of r)

-- a burst and a stretch of time have no moment in common
abbrev pub IsApart : Burst → Span → Type 0
IsApart b x = (x.end ≤ b.begin) ⊎ (b.end ≤ x.begin)

-- an entry fills a burst, or is apart from it
abbrev pub IsTold : ℕ → Burst → Entry → Type 0
IsTold delay b e = Fills delay b e ⊎ IsApart b (reaches_taps delay e)

-- A burst begins as an entry does, or as the listener does. One that spells a telegram is that telegram alone: whatever
-- is damaged at the listener spells none.
pub record IsOf (delay since : ℕ) (trace : List Entry) (b : Burst) : Type 0 where
  pub begins : (b.begin ≡ since) ⊎ Has (BeginsAt delay b.begin) trace
  pub solid : IsSolid delay trace b
  pub told : (arrival_of b.chars ≡ NoTelegram → ⊥) → Has (Fills delay b) trace × All (IsTold delay b) trace

-- The bursts that a listener hears of a trace since a moment: in order, each of some length, with nothing between them.
abbrev pub HearsFrom : (delay since : ℕ) → List Entry → ℕ → List Burst → Type 0
HearsFrom delay since trace q [] = Unit {0}
HearsFrom delay since trace q (b ∷ bs) = (q ≤ b.begin) × (b.begin < b.end) × AllClear delay q b.begin trace × IsOf delay since trace b × HearsFrom delay since trace b.end bs

abbrev pub Hears : (delay since : ℕ) → List Entry → List Burst → Type 0
Hears delay since trace bs = HearsFrom delay since trace since bs
