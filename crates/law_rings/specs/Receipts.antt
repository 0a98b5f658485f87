-- The last two receipts of each station of a ring, by its address, and how they follow each other round the ring.
use Rattle.std.specs.Prelude.{◌≡◌, ◌⊎◌, ℕ, ◌+◌, ◌≤◌, ◌<◌, max, true, List, [], ◌∷◌, slice_get, Option, Some}
use Rattle.std.specs.Option.{option_map}
use Rattle.pb_timers.specs.Timers.{Params, bits}
use Rattle.pb_ring.specs.AddressSets.{is_member, from_behind, next_address}
use Rattle.pb_rotation.specs.Rotation.{Receipt}
use Rattle.law_turn.specs.Phases.{may_initiate}
use Rattle.law_model.specs.Medium.{Tap}
use Rattle.law_model.specs.World.{World}
use Rattle.law_runs.specs.Initiators.{offered_by}
use Rattle.law_token.specs.Views.{view}
use Rattle.law_live.specs.Holding.{limit, Spends}
use Rattle.law_rings.specs.Ring.{Call, TakesPart, Ring, brought_by}

-- the moments of the last two receipts of a station
abbrev pub moments : Option Receipt → Option (ℕ × ℕ)
moments last = option_map (λ (r : Receipt). (r.previous, r.at)) last

-- those before a moment count as if they were at it
abbrev pub not_before : (base : ℕ) → ℕ × ℕ → ℕ × ℕ
not_before base z = (max base z.0, max base z.1)

abbrev pub times : (base : ℕ) → Option Receipt → Option (ℕ × ℕ)
times base last = option_map (not_before base) (moments last)

-- the last receipt of each address, and the one before it
pub record Log : Type 0 where
  pub at : ℕ → ℕ
  pub previous : ℕ → ℕ

-- each element is in a relation with the one after it
abbrev pub ChainFrom : (ℕ → ℕ → Type 0) → ℕ → List ℕ → Type 0
ChainFrom P x [] = Unit {0}
ChainFrom P x (y ∷ ys) = P x y × ChainFrom P y ys

abbrev pub Chain : (ℕ → ℕ → Type 0) → List ℕ → Type 0
Chain P [] = Unit {0}
Chain P (x ∷ xs) = ChainFrom P x xs

-- a station received the token after the one before it in the ring, which passed it on by the end of its time
abbrev pub Follows : Params → Log → ℕ → ℕ → Type 0
Follows p log x y = (log.at x ≤ log.at y) × (log.at y ≤ limit p (log.at x) (log.previous x) true + bits 3 + p.ttd)

-- receipts in the order of the ring, from the station behind the one that had the token last: each receipt before the
-- last is no later than the first of these
pub record InOrder (p : Params) (members : List ℕ) (a : ℕ) (log : Log) : Type 0 where
  pub order : Chain (Follows p log) (from_behind a members)
  pub before : (m : ℕ) → is_member members m ≡ true → log.previous m ≤ log.at (next_address a members)

-- ---- the world

-- How a station keeps the token that it had last: it holds it, within its time; or it has passed it on, within its time, and the token is on its way to the next station.
pub data Tenure (p : Params) (base now : ℕ) (members : List ℕ) (call : Call) (log : Log) (k : ℕ) (t : Tap) : Type 0 where
  Holding : may_initiate (view p t).phase ≡ true → (log.at t.spec.address ≤ max base now) ⊎ ((call.tap ≡ k) × (log.at t.spec.address ≤ call.end))
      → Spends p (log.at t.spec.address) (log.previous t.spec.address) (view p t) → Tenure p base now members call log k t
  Passing : call.tap ≡ k → (next_address t.spec.address members ≡ t.spec.address → ⊥) → offered_by (brought_by call.octets) ≡ Some (next_address t.spec.address members) → now < call.end + p.ttd
      → call.end ≡ call.begin + bits 3 → log.at t.spec.address ≤ max base call.begin
      → call.begin ≤ limit p (log.at t.spec.address) (log.previous t.spec.address) true → Tenure p base now members call log k t

-- each station of the ring has the receipts of the log
abbrev pub HasLog : Params → (base : ℕ) → List Tap → Log → Type 0
HasLog p base taps log = (k : ℕ) (t : Tap) → slice_get taps k ≡ Some t → t.running ≡ true → TakesPart (view p t).phase → times base (view p t).rotation.last ≡ Some (log.previous t.spec.address, log.at t.spec.address)

-- the receipts of a ring are in order, and the station that had the token last keeps within its time
pub record Rotates (w : World) (base : ℕ) (members : List ℕ) (call : Call) : Type 0 where
  pub log : Log
  pub has : HasLog w.params base w.taps log
  pub tap : ℕ
  pub t : Tap
  pub here : slice_get w.taps tap ≡ Some t
  pub running : t.running ≡ true
  pub part : TakesPart (view w.params t).phase
  pub in_order : InOrder w.params members t.spec.address log
  pub tenure : Tenure w.params base w.now members call log tap t

-- a ring since a moment, whose receipts are in order
pub record Rotating (w : World) (base : ℕ) (members : List ℕ) : Type 0 where
  pub ring : Ring w base members
  pub rotates : Rotates w base members ring.call
