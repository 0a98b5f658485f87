-- Other data with which a tap replies, on a bus.
use Rattle.std.specs.Prelude.{◌≡◌, ℕ, List, Result, Ok, Err, MatchResult}
use Rattle.law_model.specs.World.{World, Fault}
use Rattle.law_token.specs.Data.{set_data}
use Rattle.pb_taps.specs.Faults.{world_fault}
use Rattle.pb_taps.specs.declared.faults.WorldFault.{WorldFault}

-- the data of a tap have changed, or it is refused by the model's fault and nothing has changed
abbrev pub SetsData : World → ℕ → List ℕ → Result (Unit {0}) WorldFault → World → Type 0
SetsData w tap unit result next = MatchResult result
    (λ _. set_data w tap unit ≡ Ok next)
    (λ reason. (next ≡ w) × ((fault : Fault) × (set_data w tap unit ≡ Err fault) × (reason ≡ world_fault fault)))
