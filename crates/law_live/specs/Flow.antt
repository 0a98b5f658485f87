-- The invariant behind the promise: what is on the bus, and what stations keep, is over in time.
use Rattle.std.specs.Prelude.{◌≡◌, ◌⊎◌, ℕ, ◌+◌, ◌*◌, ◌≤◌, ◌<◌, true, false, List, slice_get, Some, IfSome}
use Rattle.pb_timers.specs.Timers.{Params}
use Rattle.law_model.specs.Trace.{Entry, Sent, Noise}
use Rattle.law_model.specs.Medium.{Tap}
use Rattle.law_model.specs.World.{World}
use Rattle.law_runs.specs.Initiators.{is_initiator}
use Rattle.law_token.specs.Lists.{Each}
use Rattle.law_token.specs.Views.{view}
use Rattle.law_live.specs.NeverDead.{longest, attempt, is_token_record}
use Rattle.law_live.specs.Holding.{limit, Spends}

-- ---- entries

-- tokens and noise are over by a moment
abbrev pub IsCalmBy : ℕ → Entry → Type 0
IsCalmBy q (Noise span) = span.end ≤ q
IsCalmBy q (Sent r) = is_token_record r ≡ true → r.end ≤ q

-- the tokens of one tap are over by a moment
abbrev pub OwnTokensBy : (tap q : ℕ) → Entry → Type 0
OwnTokensBy tap q (Noise span) = Unit {0}
OwnTokensBy tap q (Sent r) = r.tap ≡ tap → is_token_record r ≡ true → r.end ≤ q

-- What may give a tap the token, or keep it waiting as holder, is over by a moment. Either all tokens and noise are; or
-- the moment is not before the clock, and the tap's own tokens are. The second case is needed if a stop cuts the token
-- of another tap: its end moves to an earlier moment, still after the clock, and no station has taken it.
abbrev pub IsCalmFor : (now tap q : ℕ) → List Entry → Type 0
IsCalmFor now tap q trace = Each (IsCalmBy q) trace ⊎ ((now ≤ q) × Each (OwnTokensBy tap q) trace)

-- initiator telegrams are over by a moment
abbrev pub EndsBy : ℕ → Entry → Type 0
EndsBy z (Noise span) = Unit {0}
EndsBy z (Sent r) = is_initiator r ≡ true → r.end ≤ z

-- no telegram is longer than the longest one
abbrev pub IsShort : Entry → Type 0
IsShort (Noise span) = Unit {0}
IsShort (Sent r) = r.end ≤ r.begin + longest

-- every entry has begun before a moment
abbrev pub BeganBefore : ℕ → Entry → Type 0
BeganBefore to (Noise span) = span.begin < to
BeganBefore to (Sent r) = r.begin < to

-- replies have begun by a moment
abbrev pub RepliesBy : ℕ → Entry → Type 0
RepliesBy b (Noise span) = Unit {0}
RepliesBy b (Sent r) = is_initiator r ≡ false → r.begin ≤ b

-- requests leave time for all that follows them
abbrev pub RequestsBy : (time b : ℕ) → Entry → Type 0
RequestsBy time b (Noise span) = Unit {0}
RequestsBy time b (Sent r) = is_initiator r ≡ true → is_token_record r ≡ false → r.begin + time ≤ b

-- ---- a running tap

-- Its station keeps within its time as holder. A reply that it keeps is due at most a reply delay after the clock, and
-- after the initiator telegrams.
pub record FlowTap (p : Params) (now : ℕ) (trace : List Entry) (k : ℕ) (t : Tap) : Type 0 where
  pub spends : (q : ℕ) → IsCalmFor now k q trace → Spends p (q + p.ttd) (q + p.ttd) (view p t)
  pub waits : IfSome (view p t).reply (λ a. a.ready ≤ now + p.tsdr)
  pub prompt : (z : ℕ) → Each (EndsBy z) trace → IfSome (view p t).reply (λ a. a.ready ≤ z + p.ttd + p.tsdr)

-- ---- the world

-- Replies begin within a slot after the initiator telegrams are over. Requests begin within a holder's time, counted
-- from when tokens and noise are over.
pub record Flow (w : World) : Type 0 where
  pub reply_in_time : w.params.tsdr + w.params.lag + 2 * w.params.ttd < w.params.tsl
  pub short : Each IsShort w.trace
  pub replies : (z : ℕ) → Each (EndsBy z) w.trace → Each (RepliesBy (z + w.params.ttd + w.params.tsdr + w.params.lag)) w.trace
  pub requests : (q : ℕ) → Each (IsCalmBy q) w.trace → Each (RequestsBy (attempt w.params) (limit w.params (q + w.params.ttd) (q + w.params.ttd) true)) w.trace
  pub taps : (k : ℕ) (t : Tap) → slice_get w.taps k ≡ Some t → t.running ≡ true → FlowTap w.params w.now w.trace k t
