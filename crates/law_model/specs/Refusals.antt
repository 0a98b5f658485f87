-- Worked refusals: why each of some events is refused, and what happens to taps that start and stop.
use Rattle.std.specs.Prelude.{ℕ, zero, suc, List, [], ◌∷◌, ◌++◌, map, Option, Some, None, Result, Ok, Err}
use Rattle.law_turn.specs.Marks.{Mark}
use Rattle.law_model.specs.Trace.{Heard, Entry, Sent, Noise}
use Rattle.law_model.specs.Medium.{TapSpec}
use Rattle.law_model.specs.World.{World, Event, Reply, Fault, NewFault, new_world}
use Rattle.law_model.specs.Step.{step, world_after}
use Rattle.law_model.specs.Scenarios.{example_bus, world_of}

-- why an event is refused, if it is
abbrev pub refusal : Result (World × Reply) Fault → Option Fault
refusal (Ok next) = None
refusal (Err fault) = Some fault

-- why each of some events is refused, one after the other
abbrev pub refusals : World → List Event → List (Option Fault)
refusals w [] = []
refusals w (e ∷ es) = refusal (step w e) ∷ refusals (world_after w (step w e)) es

abbrev pub refusals_from : Result World NewFault → List Event → List (Option Fault)
refusals_from (Ok w) events = refusals w events
refusals_from (Err fault) events = []

-- the same for new stations at the taps of the example's bus
abbrev pub refusals_of : List TapSpec → List Event → List (Option Fault)
refusals_of specs events = refusals_from (new_world example_bus specs) events

-- why a new world with these taps on the example's bus is refused, if it is
abbrev pub new_refusal_from : Result World NewFault → Option NewFault
new_refusal_from (Ok w) = None
new_refusal_from (Err fault) = Some fault

abbrev pub new_refusal : List TapSpec → Option NewFault
new_refusal specs = new_refusal_from (new_world example_bus specs)

-- how each telegram reached the taps; noise has no reception
abbrev pub heard_in : Entry → List Heard
heard_in (Sent r) = r.heard
heard_in (Noise span) = []

abbrev pub heard_from : Option World → List (List Heard)
heard_from None = []
heard_from (Some w) = map heard_in w.trace

abbrev pub heard_of : List TapSpec → List Event → List (List Heard)
heard_of specs events = heard_from (world_of specs events)

-- the unread marks of the taps
abbrev pub marks_from : Option World → List (List Mark)
marks_from None = []
marks_from (Some w) = map (λ t. t.marks) w.taps

abbrev pub marks_of : List TapSpec → List Event → List (List Mark)
marks_of specs events = marks_from (world_of specs events)

-- a list of events, repeated
abbrev pub repeated : ℕ → List Event → List Event
repeated zero events = []
repeated (suc n) events = events ++ repeated n events
