-- Turns of one instant.
use Rattle.std.specs.Prelude.{◌≡◌, ℕ, Ok}
use Rattle.law_model.specs.World.{World, Turn, Reply}
use Rattle.law_model.specs.Step.{step}

-- the consecutive turns of two taps are accepted, with their replies, and lead to a world
abbrev pub BothTurn : World → ℕ → ℕ → World → Reply → Reply → Type 0
BothTurn w i j after first second = (between : World) × (step w (Turn i) ≡ Ok (between, first)) × (step between (Turn j) ≡ Ok (after, second))
