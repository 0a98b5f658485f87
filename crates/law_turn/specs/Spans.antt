-- Stretches of time.
use Rattle.std.specs.Prelude.{ℕ}

-- begin is in it, end is not
pub record Span : Type 0 where
  pub begin : ℕ
  pub end : ℕ
