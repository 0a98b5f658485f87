-- A request as plain data.
use Rattle.std.specs.Prelude.{ℕ, Bool, List}
use Rattle.pb_cycles.specs.declared.services.Service.{Service}

pub record RequestFields : Type 0 where
  pub da : ℕ
  pub service : Service
  pub high : Bool
  pub unit : List ℕ
