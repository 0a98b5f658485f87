-- The results of events, and what readers of a world see.
use Rattle.std.specs.Prelude.{◌≡◌, ℕ, List, if◌then◌else◌, Option, Some, None, Result, Ok, slice_get, MatchResult, take}
use Rattle.std.specs.Borrow.{Bor}
use Rattle.std.specs.Option.{option_and_then}
use Rattle.law_model.specs.World.{World, Event, Reply}
use Rattle.law_model.specs.Medium as medium
use Rattle.law_turn.specs.Stations.{due_of}
use Rattle.law_model.specs.Step.{step, RunsTo}
use Rattle.pb_station.specs.Stations.{StationView}
use Rattle.pb_taps.specs.declared.events.Event as lent
use Rattle.pb_taps.specs.declared.events.Reply as events
use Rattle.pb_taps.specs.declared.faults.WorldFault.{WorldFault}
use Rattle.pb_taps.specs.Faults.{Refuses}
use Rattle.pb_taps.specs.Events.{event_of, reply_of}

-- an event of a list of references
abbrev pub lent_event : Bor lent.Event → Event
lent_event e = event_of e.now

-- the result of an event: the step of the model, or a refusal that leaves the world as it is
abbrev pub Follows : World → Event → Result events.Reply WorldFault → World → Type 0
Follows w event result next = MatchResult result
    (λ reply. step w event ≡ Ok (next, reply_of reply))
    (λ fault. (next ≡ w) × Refuses w event (step w event) fault)

-- the same for an event that has sent something, or nothing
abbrev pub Sends : World → Event → Result (Unit {0}) WorldFault → Option (List ℕ) → World → Type 0
Sends w event result sent next = MatchResult result
    (λ _. step w event ≡ Ok (next, record { now = next.now; spoke = sent }))
    (λ fault. (next ≡ w) × Refuses w event (step w event) fault)

-- the same, whatever it has sent
abbrev pub Goes : World → Event → Result (Unit {0}) WorldFault → World → Type 0
Goes w event result next = MatchResult result
    (λ _. (reply : Reply) × (step w event ≡ Ok (next, reply)))
    (λ fault. (next ≡ w) × Refuses w event (step w event) fault)

-- when a tap is due, if it runs
abbrev pub due_at : World → ℕ → Option ℕ
due_at w tap = option_and_then (λ t. if t.running then due_of w.params t.station t.marks else None) (slice_get w.taps tap)

-- a station as a reader sees it is the one at the tap
abbrev pub IsStationAt : World → ℕ → StationView → Type 0
IsStationAt w tap s = (t : medium.Tap) × (slice_get w.taps tap ≡ Some t)
    × (s ≡ record { tap = tap; params = w.params; master = t.spec.master; reply_data = t.spec.reply; station = t.station })

-- events lead to a world that refuses the one at an index
abbrev pub StopsAt : World → List Event → ℕ → WorldFault → World → Type 0
StopsAt w events place fault next = RunsTo w (take place events) next
    × (event : Event) × (slice_get events place ≡ Some event) × Refuses next event (step next event) fault
