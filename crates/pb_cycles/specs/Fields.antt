-- The fields of a telegram that has a control octet.
use Rattle.std.specs.Prelude.{ℕ, List}

pub record Fields : Type 0 where
  pub da : ℕ
  pub sa : ℕ
  pub fc : ℕ
  pub unit : List ℕ
