-- Worked scenarios, and the traces of their runs.
use Rattle.std.specs.Prelude.{◌≡◌, ℕ, List, [], ◌∷◌, ◌++◌, Option, Some, None, Result, Ok, Err}
use Rattle.law_model.specs.Trace as trace
use Rattle.law_model.specs.Trace.{Entry, Sent, Heard, Own, Whole, Damaged}
use Rattle.law_model.specs.Medium.{TapSpec}
use Rattle.law_model.specs.World.{World, Event, Turn, Pass, Damage, Start, Noise, Unheard, new_world}
use Rattle.law_model.specs.Scenarios.{example_bus, master, two_masters, replay_from, world_of}
use Rattle.law_runs.specs.Bus.{dues, next_change}
use Rattle.law_runs.specs.Scenarios.{Planned, Happens, Withhold, RunFault, trace_of, events_of}

abbrev pub at : ℕ → Event → Planned
at moment event = record { at = moment; deed = Happens event }

abbrev pub withheld : ℕ → ℕ → ℕ → Planned
withheld moment tap bits = record { at = moment; deed = Withhold tap bits }

abbrev pub sent : ℕ → ℕ → ℕ → List ℕ → List Heard → Entry
sent tap begin end octets heard = Sent (record { tap = tap; octets = octets; begin = begin; end = end; hits = []; heard = heard })

abbrev pub trace_with : List TapSpec → List Planned → ℕ → Option (Result (List Entry) RunFault)
trace_with taps steps until = trace_of (record { params = example_bus; taps = taps; steps = steps; until = until })

abbrev pub events_with : List TapSpec → List Planned → ℕ → Option (Result (List Event) RunFault)
events_with taps steps until = events_of (record { params = example_bus; taps = taps; steps = steps; until = until })

-- the run of a scenario leaves a trace; has events; ends with a fault
abbrev pub Leaves : List TapSpec → List Planned → ℕ → List Entry → Type 0
Leaves taps steps until entries = trace_with taps steps until ≡ Some (Ok entries)

abbrev pub Has : List TapSpec → List Planned → ℕ → List Event → Type 0
Has taps steps until events = events_with taps steps until ≡ Some (Ok events)

abbrev pub Refuses : List TapSpec → List Planned → ℕ → RunFault → Type 0
Refuses taps steps until fault = events_with taps steps until ≡ Some (Err fault)

abbrev pub one_master : List TapSpec
one_master = master 1 ∷ []

abbrev pub both_start : List Planned
both_start = at 0 (Start 0) ∷ at 0 (Start 1) ∷ []

-- the second starts at 0, the first at a moment
abbrev pub first_starts_at : ℕ → List Planned
first_starts_at moment = at 0 (Start 1) ∷ at moment (Start 0) ∷ []

-- only the first starts, and then the other steps follow
abbrev pub alone_with : List Planned → List Planned
alone_with steps = at 0 (Start 0) ∷ steps

-- two masters form a ring: the first claims the token, asks the second, and passes the token to it
abbrev pub ring_forms : List Entry
ring_forms =
    sent 0 800 833 (0xdc ∷ 0x01 ∷ 0x01 ∷ []) (Own ∷ Whole ∷ [])
    ∷ sent 0 870 903 (0xdc ∷ 0x01 ∷ 0x01 ∷ []) (Own ∷ Whole ∷ [])
    ∷ sent 0 940 1006 (0x10 ∷ 0x02 ∷ 0x01 ∷ 0x49 ∷ 0x4c ∷ 0x16 ∷ []) (Own ∷ Whole ∷ [])
    ∷ sent 1 1017 1083 (0x10 ∷ 0x01 ∷ 0x02 ∷ 0x20 ∷ 0x23 ∷ 0x16 ∷ []) (Whole ∷ Own ∷ [])
    ∷ sent 0 1120 1153 (0xdc ∷ 0x02 ∷ 0x01 ∷ []) (Own ∷ Whole ∷ [])
    ∷ []

-- the second asks a station of its GAP, and passes the token back
abbrev pub second_holds : List Entry
second_holds =
    sent 1 1190 1256 (0x10 ∷ 0x03 ∷ 0x02 ∷ 0x49 ∷ 0x4e ∷ 0x16 ∷ []) (Whole ∷ Own ∷ [])
    ∷ sent 1 1356 1389 (0xdc ∷ 0x01 ∷ 0x02 ∷ []) (Whole ∷ Own ∷ [])
    ∷ []

-- the second is withheld, and the first passes the token again in the same instant
abbrev pub both_speak : List Entry
both_speak =
    sent 0 1253 1286 (0xdc ∷ 0x02 ∷ 0x01 ∷ []) (Own ∷ Damaged ∷ [])
    ∷ sent 1 1253 1319 (0x10 ∷ 0x03 ∷ 0x02 ∷ 0x49 ∷ 0x4e ∷ 0x16 ∷ []) (Damaged ∷ Own ∷ [])
    ∷ []

-- the second is withheld one bit time less
abbrev pub speaks_late : List Entry
speaks_late = sent 1 1252 1318 (0x10 ∷ 0x03 ∷ 0x02 ∷ 0x49 ∷ 0x4e ∷ 0x16 ∷ []) (Whole ∷ Own ∷ []) ∷ []

-- the request of the second is lost at the first, which passes the token again
abbrev pub asks_unheard : List Entry
asks_unheard =
    sent 1 1190 1256 (0x10 ∷ 0x03 ∷ 0x02 ∷ 0x49 ∷ 0x4e ∷ 0x16 ∷ []) (trace.Unheard ∷ Own ∷ [])
    ∷ sent 0 1253 1286 (0xdc ∷ 0x02 ∷ 0x01 ∷ []) (Own ∷ Damaged ∷ [])
    ∷ []

-- both claim the token at one moment
abbrev pub both_claim : List Entry
both_claim =
    sent 0 1000 1033 (0xdc ∷ 0x01 ∷ 0x01 ∷ []) (Own ∷ Damaged ∷ [])
    ∷ sent 1 1000 1033 (0xdc ∷ 0x02 ∷ 0x02 ∷ []) (Damaged ∷ Own ∷ [])
    ∷ []

-- noise, and the claim of a master a time-out after it
abbrev pub noise_then_claim : List Entry
noise_then_claim = trace.Noise (record { begin = 100; end = 150 }) ∷ sent 0 950 983 (0xdc ∷ 0x01 ∷ 0x01 ∷ []) (Own ∷ []) ∷ []

-- a claim at a moment
abbrev pub claim_at : ℕ → ℕ → List Entry
claim_at begin end = sent 0 begin end (0xdc ∷ 0x01 ∷ 0x01 ∷ []) (Own ∷ []) ∷ []

-- the first starts during the second's claim, and hears only that there was activity
abbrev pub started_amid_claim : List Entry
started_amid_claim =
    sent 1 1000 1033 (0xdc ∷ 0x02 ∷ 0x02 ∷ []) (Damaged ∷ Own ∷ [])
    ∷ sent 1 1070 1103 (0xdc ∷ 0x02 ∷ 0x02 ∷ []) (Whole ∷ Own ∷ [])
    ∷ []

-- the steps of these scenarios
abbrev pub second_held_for : ℕ → List Planned
second_held_for bits = both_start ++ withheld 1190 1 bits ∷ []

abbrev pub second_unheard : List Planned
second_unheard = both_start ++ at 1190 (Unheard 0 1) ∷ []

abbrev pub own_damage : List Planned
own_damage = both_start ++ at 950 (Damage 1 1 None) ∷ []

abbrev pub held_to_840 : List Planned
held_to_840 = withheld 780 0 60 ∷ withheld 790 0 20 ∷ []

abbrev pub two_noises : List Planned
two_noises = at 50 (Noise 9) ∷ at 51 (Noise 9) ∷ []

-- ---- events of worked runs

-- a run that ends at the first of two noises
abbrev pub first_noise : List Event
first_noise = Start 0 ∷ Pass 50 ∷ Noise 9 ∷ []

-- the first claims the token, and the second hears it
abbrev pub claim_heard : List Event
claim_heard = Start 0 ∷ Start 1 ∷ Pass 800 ∷ Turn 0 ∷ Pass 1 ∷ Turn 1 ∷ Pass 32 ∷ Turn 1 ∷ Pass 17 ∷ []

-- both are due at one moment, and at the next
abbrev pub both_turn : List Event
both_turn = Start 1 ∷ Pass 200 ∷ Start 0 ∷ Pass 800 ∷ Turn 0 ∷ Turn 1 ∷ Pass 1 ∷ Turn 0 ∷ Turn 1 ∷ []

-- a withholding from 700 to 760, and one that ends earlier
abbrev pub held_twice : List Planned
held_twice = withheld 700 0 60 ∷ withheld 710 0 10 ∷ []

abbrev pub held_till_760 : List Event
held_till_760 = Start 0 ∷ Pass 700 ∷ Pass 10 ∷ Pass 50 ∷ Pass 40 ∷ Turn 0 ∷ Pass 1 ∷ Pass 9 ∷ []

-- a telegram that does not begin is to be lost; this comes after the other steps
abbrev pub nothing_to_lose : List Planned
nothing_to_lose = at 5 (Start 1) ∷ at 5 (Unheard 0 1) ∷ at 5 (Start 0) ∷ []

-- ---- outlooks of worked worlds

abbrev pub known_of : Option World → Option (List (Option ℕ) × Option ℕ)
known_of None = None
known_of (Some w) = Some (dues w, next_change w)

-- after some events the two taps are due at these moments, and this is the next change
abbrev pub Knows : List Event → Option ℕ → Option ℕ → Option ℕ → Type 0
Knows events first second change = known_of (world_of two_masters events) ≡ Some (first ∷ second ∷ [], change)

-- the same on a bus with a cable delay of 15 bit times
abbrev pub KnowsLate : List Event → Option ℕ → Option ℕ → Option ℕ → Type 0
KnowsLate events first second change =
    known_of (replay_from (new_world (record example_bus { ttd = 15 }) two_masters) events) ≡ Some (first ∷ second ∷ [], change)

-- both start, and the first claims the token
abbrev pub claims_with : List Event → List Event
claims_with events = Start 0 ∷ Start 1 ∷ Pass 800 ∷ Turn 0 ∷ events

-- only the first starts, and claims the token
abbrev pub claims_alone_with : List Event → List Event
claims_alone_with events = Start 0 ∷ Pass 800 ∷ Turn 0 ∷ events

-- noise from 100 on, to 130
abbrev pub noise_with : List Event → List Event
noise_with events = Pass 100 ∷ Noise 30 ∷ events

abbrev pub starts_after : ℕ → List Event
starts_after bits = claims_alone_with (Pass bits ∷ Start 1 ∷ [])

-- the second starts in the instant in which the first claims the token
abbrev pub starts_with_claim : List Event
starts_with_claim = Start 0 ∷ Pass 800 ∷ Start 1 ∷ Turn 0 ∷ []

-- the second starts when the claim has ended at the first and has not yet reached the second
abbrev pub starts_on_its_way : List Event
starts_on_its_way = claims_alone_with (Pass 33 ∷ Pass 5 ∷ Start 1 ∷ [])
