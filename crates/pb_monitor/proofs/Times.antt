-- Bit times of a packet's seconds and of the parts of a second behind them.
use Rattle.std.proofs.Common.{◌≡◌, ◌∙◌, sym, ap, arith, ℕ, ◌+◌, ◌*◌, ◌/◌, ◌<◌}
use Rattle.std.proofs.Math.Nat.{add-mul, mul-add-div_right, mul_right_comm}
use Rattle.pb_monitor.specs.Times.{nearest_bits}

-- whole seconds have whole bit times, so only the rest is rounded
pub split : (seconds parts n baud : ℕ) → 0 < n → seconds * baud + (parts * baud + n / 2) / n ≡ nearest_bits (seconds * n + parts) n baud
split seconds parts n baud some =
    sym (mul-add-div_right {m = n} some (seconds * baud) (parts * baud + n / 2))
    ∙ ap (λ x. x / n) (omega (arith, add-mul (seconds * n) parts baud, mul_right_comm seconds n baud))
