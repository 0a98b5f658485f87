-- A test is not both false and true.
use Rattle.std.proofs.Common.{◌≡◌, false, true}

-- so anything follows
pub no_ : {X : Type 0} → false ≡ true → X
no_ {X} e = absurd cc
