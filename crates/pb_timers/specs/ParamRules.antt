-- The rules of the bus parameters: each fault with the test of its condition, in order.
use Rattle.std.specs.Prelude.{◌≡◌, ℕ, ◌+◌, ◌*◌, ◌≤◌, ◌<◌, Bool, nat_lt, nat_le, not, ◌&&◌, List, [], ◌∷◌}
use Rattle.pb_timers.specs.Timers.{Params}
use Rattle.pb_timers.specs.declared.params.ParamFault.{ParamFault}
use Rattle.pb_timers.specs.declared.params.ParamFault.TheVariants.{Slot, IdleShort, IdleOrder, ReplyShort, Rotation, GapFactor, Highest, Retries, TakeLate, ReplyLate}

-- the number is outside of the range, both ends included
abbrev pub is_outside : ℕ → ℕ → ℕ → Bool
is_outside low high n = not (nat_le low n && nat_le n high)

-- the token may be taken, or a reply may begin, after the slot: the cable delay counts in both directions
abbrev pub late_faults : (tsl tid2 tsdr lag ttd : ℕ) → List (Bool × ParamFault)
late_faults tsl tid2 tsdr lag ttd = (nat_le tsl (tid2 + lag + 2 * ttd), TakeLate) ∷ (nat_le tsl (tsdr + lag + 2 * ttd), ReplyLate) ∷ []

abbrev pub param_faults : Params → List (Bool × ParamFault)
param_faults p =
    (is_outside 100 16383 p.tsl, Slot)
    ∷ (nat_lt p.tid1 33, IdleShort)
    ∷ (nat_lt p.tid2 p.tid1, IdleOrder)
    ∷ (nat_lt p.tsdr 11, ReplyShort)
    ∷ (is_outside 256 16777215 p.ttr, Rotation)
    ∷ (is_outside 1 100 p.gap, GapFactor)
    ∷ (is_outside 2 126 p.hsa, Highest)
    ∷ (nat_lt 7 p.retries, Retries)
    ∷ late_faults p.tsl p.tid2 p.tsdr p.lag p.ttd

-- parameters that meet all ten rules
pub record IsValid (p : Params) : Type 0 where
  pub slot_long : 100 ≤ p.tsl
  pub slot_short : p.tsl ≤ 16383
  pub idle : 33 ≤ p.tid1
  pub idle_order : p.tid1 ≤ p.tid2
  pub reply : 11 ≤ p.tsdr
  pub rotation_long : 256 ≤ p.ttr
  pub rotation_short : p.ttr ≤ 16777215
  pub gap_some : 1 ≤ p.gap
  pub gap_bound : p.gap ≤ 100
  pub highest_some : 2 ≤ p.hsa
  pub highest_station : p.hsa ≤ 126
  pub retries_bound : p.retries ≤ 7
  pub take_in_time : p.tid2 + p.lag + 2 * p.ttd < p.tsl
  pub reply_in_time : p.tsdr + p.lag + 2 * p.ttd < p.tsl
