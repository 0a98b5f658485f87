-- Worked runs: a station of a ring waits almost as long as it may; and longer if a station stops.
use Rattle.std.specs.Prelude.{ℕ, ◌-◌, Bool, false, if◌then◌else◌, List, [], ◌∷◌, ◌++◌, length, slice_get, Option, Some, None, Result, Ok, Err}
use Rattle.std.specs.List.{list_all}
use Rattle.std.specs.Option.{option_map}
use Rattle.pb_timers.specs.Timers.{Params}
use Rattle.pb_rotation.specs.Rotation.{Receipt}
use Rattle.law_model.specs.Medium.{TapSpec, Tap}
use Rattle.law_model.specs.World.{World, NewFault, Event, Turn, Pass, Start, Stop, Queue, new_world}
use Rattle.law_model.specs.Scenarios.{master}
use Rattle.law_token.specs.Views.{view}
use Rattle.law_live.specs.Examples.{long_low, long_high, long_replier}
use Rattle.law_live.specs.Stretches.{RunSoFar, ran, number_if}
use Rattle.law_rings.specs.Rotation.{is_calm, rotation_time}
use Rattle.law_rings.specs.Settled.{ring_of, is_settled}

-- ---- what a run comes to

-- Of a run that goes on from a ring with some events: the numbers of the premises that it breaks; whether the ring was
-- settled, and those events are calm; how long ago the station at a tap received the token; and the bound.
pub record Wait : Type 0 where
  pub broken : List ℕ
  pub settled : Bool
  pub calm : Bool
  pub waits : Option ℕ
  pub bound : ℕ

abbrev pub waits_at : World → Option Tap → Option ℕ
waits_at w None = None
waits_at w (Some t) = option_map (λ (r : Receipt). w.now - r.at) (view w.params t).rotation.last

abbrev pub wait : (ring later : RunSoFar) → List Event → ℕ → Option Wait
wait ring later events tap =
    let w = later.world in
    let p = w.params in
    if later.refused then None else Some (record {
      broken = number_if later.namesakes 1 ++ number_if later.lost 2 ++ number_if later.late 3 ++ number_if later.together 4;
      settled = is_settled ring.world;
      calm = list_all is_calm events;
      waits = waits_at w (slice_get w.taps tap);
      bound = rotation_time p (length (ring_of p ring.world.taps));
    })

abbrev pub wait_from : Result World NewFault → (before events : List Event) → (tap : ℕ) → Option Wait
wait_from (Err fault) before events tap = None
wait_from (Ok w) before events tap =
    let ring = ran (record { world = w; waited = []; namesakes = false; lost = false; late = false; together = false; refused = false }) before in
    wait ring (ran ring events) events tap

-- the wait of the station at a tap, after events that lead to a ring and others
abbrev pub wait_on : Params → List TapSpec → (before events : List Event) → (tap : ℕ) → Option Wait
wait_on p specs before events tap = wait_from (new_world p specs) before events tap

-- ---- the bound is almost reached

-- a bus of slow replies, with the shortest target rotation time
abbrev pub slow_replies : Params
slow_replies = record { tsl = 16383; tid1 = 33; tid2 = 33; tsdr = 16352; lag = 30; ttr = 256; gap = 100; hsa = 2; retries = 0; ttd = 0 }

abbrev pub two_and_a_replier : List TapSpec
two_and_a_replier = master 0 ∷ master 1 ∷ long_replier ∷ []

-- the first of two masters claims the token, takes the second into the ring, and passes the token to it
abbrev pub to_the_ring : List Event
to_the_ring =
    Start 0 ∷ Start 1 ∷ Start 2 ∷ Pass 98298 ∷ Turn 0 ∷ Pass 1 ∷ Turn 1 ∷ Turn 2 ∷ Pass 32 ∷ Turn 1 ∷ Turn 2 ∷ Pass 33 ∷ Pass 30 ∷ Turn 0 ∷
    Pass 1 ∷ Turn 1 ∷ Turn 2 ∷ Pass 32 ∷ Turn 1 ∷ Turn 2 ∷ Pass 33 ∷ Pass 30 ∷ Turn 0 ∷ Pass 1 ∷ Turn 1 ∷ Turn 2 ∷ Pass 65 ∷ Turn 1 ∷
    Turn 2 ∷ Pass 16352 ∷ Turn 1 ∷ Pass 1 ∷ Turn 0 ∷ Turn 2 ∷ Pass 65 ∷ Turn 0 ∷ Turn 2 ∷ Pass 33 ∷ Pass 30 ∷ Turn 0 ∷ Pass 1 ∷ Turn 1 ∷
    Turn 2 ∷ Pass 32 ∷ Turn 1 ∷ Turn 2 ∷ []

-- the token goes round, until the second holds it
abbrev pub round_the_ring : List Event
round_the_ring =
    Pass 33 ∷ Pass 30 ∷ Turn 1 ∷ Pass 1 ∷ Turn 0 ∷ Turn 2 ∷ Pass 65 ∷ Turn 0 ∷ Turn 2 ∷ Pass 16383 ∷ Pass 30 ∷ Turn 1 ∷ Pass 1 ∷ Turn 0 ∷
    Turn 2 ∷ Pass 32 ∷ Turn 0 ∷ Turn 2 ∷ Pass 33 ∷ Pass 30 ∷ Turn 0 ∷ Pass 1 ∷ Turn 1 ∷ Turn 2 ∷ Pass 32 ∷ Turn 1 ∷ Turn 2 ∷ Pass 33 ∷
    Pass 30 ∷ Turn 1 ∷ Pass 1 ∷ Turn 0 ∷ Turn 2 ∷ Pass 32 ∷ Turn 0 ∷ Turn 2 ∷ Pass 33 ∷ Pass 30 ∷ Turn 0 ∷ Pass 1 ∷ Turn 1 ∷ Turn 2 ∷
    Pass 32 ∷ Turn 1 ∷ Turn 2 ∷ []

-- Then the first receives it, and sends the longest request of low priority and one of high priority; the second sends
-- one of high priority, and may pass the token on. Each turn that sends is late by the lag.
abbrev pub under_load : List Event
under_load = round_the_ring ++
    (Pass 33 ∷ Pass 30 ∷ Turn 1 ∷ Pass 1 ∷ Turn 0 ∷ Turn 2 ∷ Pass 32 ∷ Turn 0 ∷ Turn 2 ∷ Queue 0 long_low ∷ Pass 33 ∷ Pass 30 ∷ Turn 0 ∷
    Queue 0 long_high ∷ Queue 1 long_high ∷ Pass 1 ∷ Turn 1 ∷ Turn 2 ∷ Pass 2804 ∷ Turn 1 ∷ Turn 2 ∷ Pass 16352 ∷ Pass 30 ∷ Turn 2 ∷
    Pass 1 ∷ Turn 0 ∷ Turn 1 ∷ Pass 2804 ∷ Turn 0 ∷ Turn 1 ∷ Pass 33 ∷ Pass 30 ∷ Turn 0 ∷ Pass 1 ∷ Turn 1 ∷ Turn 2 ∷ Pass 2804 ∷ Turn 1 ∷
    Turn 2 ∷ Pass 16352 ∷ Pass 30 ∷ Turn 2 ∷ Pass 1 ∷ Turn 0 ∷ Turn 1 ∷ Pass 2804 ∷ Turn 0 ∷ Turn 1 ∷ Pass 33 ∷ Pass 30 ∷ Turn 0 ∷ Pass 1 ∷
    Turn 1 ∷ Turn 2 ∷ Pass 32 ∷ Turn 1 ∷ Turn 2 ∷ Pass 33 ∷ Pass 30 ∷ Turn 1 ∷ Pass 1 ∷ Turn 0 ∷ Turn 2 ∷ Pass 2804 ∷ Turn 0 ∷ Turn 2 ∷
    Pass 16352 ∷ Pass 30 ∷ Turn 2 ∷ Pass 1 ∷ Turn 0 ∷ Turn 1 ∷ Pass 2804 ∷ Turn 0 ∷ Turn 1 ∷ Pass 33 ∷ Pass 30 ∷ [])

-- it does, and in the next bit time the first receives the token
abbrev pub token_is_passed : List Event
token_is_passed = under_load ++ (Turn 1 ∷ Pass 1 ∷ Turn 0 ∷ Turn 2 ∷ Pass 31 ∷ [])

-- ---- an event that is not calm

-- the second stops instead; the first waits for its time-out
abbrev pub holder_stops : List Event
holder_stops = under_load ++ (Stop 1 ∷ Pass 90000 ∷ [])
