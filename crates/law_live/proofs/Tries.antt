-- Some attempts.
use Rattle.std.proofs.Common.{◌≡◌, ℕ, ◌+◌, ◌-◌, ◌*◌, ◌<◌, ◌≤◌, ap, ◌∙◌, arith}
use Rattle.std.proofs.Math.Nat.{mul-le-mul_right, add-mul, one-mul}
use Rattle.law_live.specs.NeverDead.{tries}

-- fewer attempts take no longer
pub tries-le : (m n each : ℕ) → m ≤ n → tries m each ≤ tries n each
unfolding tries
tries-le m n each le = mul-le-mul_right each le

-- an attempt less
pub tries-step : (n each : ℕ) → 0 < n → tries n each ≡ tries (n - 1) each + each
unfolding tries
tries-step n each some =
    let e : n ≡ (n - 1) + 1 = omega (arith, some) in
    ap (λ k. k * each) e ∙ add-mul (n - 1) 1 each ∙ ap (λ z. (n - 1) * each + z) (one-mul each)
