-- The moments and the lanes of a picture.
use Rattle.std.specs.Prelude.{ℕ, ◌+◌, ◌≤◌}

pub record Sheet : Type 0 where
  -- the moment from which those of the sheet are counted
  pub zero : ℕ
  -- the first one and the last one of these
  pub from : ℕ
  pub last : ℕ
  pub lanes : ℕ

pub record IsSheet (s : Sheet) : Type 0 where
  pub zero : s.zero + s.last ≤ 18446744073709551615
  pub from : s.from ≤ 1000000000000
  pub last : s.last ≤ 2000000000000
  pub lanes : s.lanes ≤ 127
