-- How long a time-out can be.
use Rattle.std.proofs.Common.{◌≡◌, ℕ, ◌*◌, ◌≤◌, arith}
use Rattle.std.proofs.lemmas.Nat.{mul-le}
use Rattle.pb_timers.specs.Timers.{Params, tto}
use Rattle.pb_timers.specs.ParamRules.{IsValid}

pub time_out_bound : (p : Params) (address n : ℕ) → n ≡ tto p address → IsValid p → address ≤ 126 → n ≤ 4226814
time_out_bound p address n is valid station =
    let more : 2 * address * p.tsl ≤ 252 * 16383 = mul-le (2 * address) p.tsl 252 16383 (omega (arith, station)) valid.slot_short in
    omega (arith, is, more, valid.slot_short)
