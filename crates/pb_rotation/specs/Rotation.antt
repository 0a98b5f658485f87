-- The target rotation time as a station keeps it.
use Rattle.std.specs.Prelude.{◌≡◌, ℕ, ◌+◌, ◌-◌, Bool, true, false, not, nat_lt, ◌||◌, List, Option, Some, None, IfSome}
use Rattle.std.specs.Option.{option_map}
use Rattle.pb_rotation.specs.Receipts.{Happening, has_started_high, last_receipt, measured_from}

-- a receipt of the token
pub record Receipt : Type 0 where
  pub previous : ℕ  -- the receipt before it; at the first one itself
  pub at : ℕ
  pub high : Bool  -- whether a high priority cycle was started since

pub record Rotation : Type 0 where
  pub ttr : ℕ
  pub last : Option Receipt

-- nothing was received yet
abbrev pub fresh : ℕ → Rotation
fresh ttr = record { ttr = ttr; last = None }

-- the receipt before one at a moment
abbrev pub before : Option Receipt → ℕ → ℕ
before None at = at
before (Some last) at = last.at

abbrev pub received : Rotation → ℕ → Rotation
received r at = record r { last = Some (record { previous = before r.last at; at = at; high = false }) }

abbrev pub used : Receipt → Receipt
used last = record last { high = true }

abbrev pub started_high : Rotation → Rotation
started_high r = record r { last = option_map used r.last }

-- how long the token of a receipt may still be held, at a moment
abbrev pub left_of : ℕ → Option Receipt → ℕ → ℕ
left_of ttr None now = 0
left_of ttr (Some last) now = last.previous + ttr - now

abbrev pub holding_left : Rotation → ℕ → ℕ
holding_left r now = left_of r.ttr r.last now

-- whether a low priority cycle may start
abbrev pub may_low : Rotation → ℕ → Bool
may_low r now = nat_lt 0 (holding_left r now)

-- whether no high priority cycle was started since the last receipt
abbrev pub is_unused : Option Receipt → Bool
is_unused None = false
is_unused (Some last) = not last.high

-- whether a high priority cycle may start
abbrev pub may_high : Rotation → ℕ → Bool
may_high r now = may_low r now || is_unused r.last

-- the kept values follow from the target rotation time and everything that the station did with the token
pub record StandsFor (ttr : ℕ) (r : Rotation) (happenings : List Happening) : Type 0 where
  pub target : r.ttr ≡ ttr
  pub measured : option_map (λ last. last.previous) r.last ≡ measured_from happenings
  pub last : option_map (λ last. last.at) r.last ≡ last_receipt happenings
  pub high : IfSome r.last (λ last. last.high ≡ has_started_high happenings)
