-- What the events of a run happen on.
use Rattle.std.specs.Prelude.{◌≡◌, List, [], ◌∷◌, ◌++◌, Result, Ok, Err, MatchResult, IfSome}
use Rattle.law_model.specs.World.{World, Event, Reply}
use Rattle.law_model.specs.Step.{step}
use Rattle.pb_taps.specs.declared.faults.WorldFault.{WorldFault}
use Rattle.pb_scenario.specs.Faults.{model_fault}

-- a world, and what is known of how it was reached: from which world and by which events
pub record StageView : Type 1 where
  pub world : World
  pub comes : World → List Event → Type 0

-- events have led to it from some world
abbrev pub IsReady : StageView → Type 0
IsReady v = (start : World) × (events : List Event) × v.comes start events

-- more events have led on from the events that led to the world
abbrev pub ComesOn : StageView → List Event → StageView → Type 0
ComesOn old more new = (start : World) (events : List Event) → old.comes start events → new.comes start (events ++ more)

-- an event happens, or it is refused, or memory is refused
abbrev pub Takes : StageView → Event → Result (Unit {0}) WorldFault → StageView → Type 0
Takes old e result new = MatchResult result
    (λ _. ComesOn old (e ∷ []) new × ((reply : Reply) × (step old.world e ≡ Ok (new.world, reply))))
    (λ fault. IfSome (model_fault fault) (λ f. step old.world e ≡ Err f))
