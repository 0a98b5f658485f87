-- Worked runs: the premises can be met, and what happens if one of them is not.
use Rattle.std.specs.Prelude.{ℕ, List, [], ◌∷◌}
use Rattle.pb_timers.specs.Timers.{Params}
use Rattle.law_model.specs.World.{Event, Turn, Pass, Start, Stop, Noise, Unheard}
use Rattle.law_model.specs.Medium.{TapSpec}
use Rattle.law_model.specs.Scenarios.{example_bus, master}
use Rattle.law_model.specs.Trace.{Entry, Own, Whole}
use Rattle.law_runs.specs.JudgedScenarios.{passive}
use Rattle.law_runs.specs.Traces.{heard_as, token}

-- a bus with a lag and a cable delay
abbrev pub long_bus : Params
long_bus = record { tsl = 100; tid1 = 37; tid2 = 60; tsdr = 11; lag = 7; ttr = 10000; gap = 10; hsa = 5; retries = 1; ttd = 3 }

-- The first of two masters claims the token and stops. The second waits for its time-out, and then for as long as a
-- turn may be late.
abbrev pub long_silence : List Event
long_silence = Start 0 ∷ Start 1 ∷ Pass 800 ∷ Turn 0 ∷ Pass 33 ∷ Turn 1 ∷ Stop 0 ∷ Pass 3 ∷ Turn 1 ∷ Pass 1007 ∷ []

-- one master starts, and may be late by the lag: it is silent for as long as the bound allows
abbrev pub silent_start : ℕ → List Event
silent_start bits = Start 0 ∷ Pass bits ∷ []

-- ---- with noise

-- noise begins as the second has taken the token: it gives the token up, and the first claims it after its time-out
abbrev pub noise_with_the_token : List Event
noise_with_the_token =
    Start 0 ∷ Start 1 ∷ Pass 800 ∷ Turn 0 ∷ Pass 1 ∷ Turn 1 ∷ Pass 32 ∷ Turn 1 ∷ Pass 37 ∷ Turn 0 ∷ Pass 1 ∷ Turn 1 ∷
    Pass 32 ∷ Turn 1 ∷ Pass 37 ∷ Turn 0 ∷ Pass 1 ∷ Turn 1 ∷ Pass 65 ∷ Turn 1 ∷ Pass 11 ∷ Turn 1 ∷ Pass 1 ∷ Turn 0 ∷
    Pass 65 ∷ Turn 0 ∷ Pass 37 ∷ Turn 0 ∷ Pass 1 ∷ Turn 1 ∷ Pass 32 ∷ Turn 1 ∷ Pass 7 ∷ Noise 20 ∷ Pass 1 ∷ Turn 0 ∷
    Turn 1 ∷ Pass 19 ∷ Turn 0 ∷ Turn 1 ∷ Pass 800 ∷ Turn 0 ∷ Pass 1 ∷ Turn 1 ∷ Pass 32 ∷ Turn 1 ∷ Pass 37 ∷ Turn 0 ∷
    Pass 1 ∷ Turn 1 ∷ Pass 32 ∷ Turn 1 ∷ Pass 17 ∷ []

-- the same noise, shorter, and a late turn of the second: it gives the token up in that turn
abbrev pub noise_and_a_late_turn : List Event
noise_and_a_late_turn =
    Start 0 ∷ Start 1 ∷ Pass 800 ∷ Turn 0 ∷ Pass 1 ∷ Turn 1 ∷ Pass 32 ∷ Turn 1 ∷ Pass 37 ∷ Turn 0 ∷ Pass 1 ∷ Turn 1 ∷
    Pass 32 ∷ Turn 1 ∷ Pass 37 ∷ Turn 0 ∷ Pass 1 ∷ Turn 1 ∷ Pass 65 ∷ Turn 1 ∷ Pass 11 ∷ Turn 1 ∷ Pass 1 ∷ Turn 0 ∷
    Pass 65 ∷ Turn 0 ∷ Pass 37 ∷ Turn 0 ∷ Pass 1 ∷ Turn 1 ∷ Pass 32 ∷ Turn 1 ∷ Pass 7 ∷ Noise 5 ∷ Pass 1 ∷ Turn 0 ∷
    Pass 4 ∷ Turn 0 ∷ Pass 15 ∷ Turn 1 ∷ Pass 785 ∷ Turn 0 ∷ Pass 1 ∷ Turn 1 ∷ Pass 32 ∷ Turn 1 ∷ Pass 2 ∷ []

-- a station claims the token again, with 33 bit times for each of its two tokens
abbrev pub claims_at : ℕ → Entry
claims_at begin = heard_as (Own ∷ Whole ∷ []) 0 begin (token 1 1)

-- ---- one premise broken, the others kept

-- a passive station with the address of a master starts after that has joined the ring: both receive the token to that
-- address whole
abbrev pub namesake_named : List Event
namesake_named =
    Start 1 ∷ Start 2 ∷ Pass 800 ∷ Turn 2 ∷ Pass 1 ∷ Turn 1 ∷ Pass 32 ∷ Turn 1 ∷ Pass 37 ∷ Turn 2 ∷ Pass 1 ∷ Turn 1 ∷
    Pass 32 ∷ Turn 1 ∷ Pass 37 ∷ Turn 2 ∷ Pass 1 ∷ Turn 1 ∷ Pass 65 ∷ Turn 1 ∷ Pass 11 ∷ Turn 1 ∷ Pass 1 ∷ Turn 2 ∷
    Pass 65 ∷ Turn 2 ∷ Pass 17 ∷ Start 0 ∷ Pass 20 ∷ Turn 2 ∷ Pass 1 ∷ Turn 0 ∷ Turn 1 ∷ Pass 32 ∷ Turn 0 ∷ Turn 1 ∷
    Pass 1 ∷ []

-- the telegram of the second, which has the token, is lost at the first, which passes the token again
abbrev pub taker_lost : List Event
taker_lost =
    Start 0 ∷ Start 1 ∷ Pass 800 ∷ Turn 0 ∷ Pass 1 ∷ Turn 1 ∷ Pass 32 ∷ Turn 1 ∷ Pass 37 ∷ Turn 0 ∷ Pass 1 ∷ Turn 1 ∷
    Pass 32 ∷ Turn 1 ∷ Pass 37 ∷ Turn 0 ∷ Pass 1 ∷ Turn 1 ∷ Pass 65 ∷ Turn 1 ∷ Pass 11 ∷ Turn 1 ∷ Pass 1 ∷ Turn 0 ∷
    Pass 65 ∷ Turn 0 ∷ Pass 37 ∷ Turn 0 ∷ Pass 1 ∷ Turn 1 ∷ Pass 32 ∷ Turn 1 ∷ Pass 37 ∷ Turn 1 ∷ Unheard 0 1 ∷
    Pass 1 ∷ Pass 62 ∷ Turn 0 ∷ []

-- the second takes the token when its slot ends: the first passes it again in the same instant
abbrev pub taken_late : List Event
taken_late =
    Start 0 ∷ Start 1 ∷ Pass 800 ∷ Turn 0 ∷ Pass 1 ∷ Turn 1 ∷ Pass 32 ∷ Turn 1 ∷ Pass 37 ∷ Turn 0 ∷ Pass 1 ∷ Turn 1 ∷
    Pass 32 ∷ Turn 1 ∷ Pass 37 ∷ Turn 0 ∷ Pass 1 ∷ Turn 1 ∷ Pass 65 ∷ Turn 1 ∷ Pass 11 ∷ Turn 1 ∷ Pass 1 ∷ Turn 0 ∷
    Pass 65 ∷ Turn 0 ∷ Pass 37 ∷ Turn 0 ∷ Pass 1 ∷ Turn 1 ∷ Pass 32 ∷ Turn 1 ∷ Pass 37 ∷ Pass 63 ∷ Turn 0 ∷ Turn 1 ∷
    []

-- the first of two starts so late that their time-outs end together
abbrev pub claimed_together : List Event
claimed_together =
    Start 1 ∷ Pass 200 ∷ Start 0 ∷ Pass 800 ∷ Turn 0 ∷ Turn 1 ∷ []

-- ---- parameters one bit time beyond what leaves enough time

-- late by the lag, the second takes the token as its slot ends: the first passes it again in the same instant
abbrev pub taken_at_the_end : List Event
taken_at_the_end =
    Start 0 ∷ Start 1 ∷ Pass 800 ∷ Turn 0 ∷ Pass 1 ∷ Turn 1 ∷ Pass 32 ∷ Turn 1 ∷ Pass 61 ∷ Turn 0 ∷ Pass 1 ∷ Turn 1 ∷
    Pass 32 ∷ Turn 1 ∷ Pass 61 ∷ Turn 0 ∷ Pass 1 ∷ Turn 1 ∷ Pass 65 ∷ Turn 1 ∷ Pass 11 ∷ Turn 1 ∷ Pass 1 ∷ Turn 0 ∷
    Pass 65 ∷ Turn 0 ∷ Pass 61 ∷ Turn 0 ∷ Pass 1 ∷ Turn 1 ∷ Pass 32 ∷ Turn 1 ∷ Pass 61 ∷ Pass 39 ∷ Turn 0 ∷ Turn 1 ∷
    []

-- late by the lag, the second takes the token, and is heard as its slot ends: the first passes it again in that instant
abbrev pub taken_with_delay : List Event
taken_with_delay =
    Start 0 ∷ Start 1 ∷ Pass 800 ∷ Turn 0 ∷ Pass 17 ∷ Turn 1 ∷ Pass 16 ∷ Pass 16 ∷ Turn 1 ∷ Pass 32 ∷ Turn 0 ∷
    Pass 17 ∷ Turn 1 ∷ Pass 16 ∷ Pass 16 ∷ Turn 1 ∷ Pass 32 ∷ Turn 0 ∷ Pass 17 ∷ Turn 1 ∷ Pass 49 ∷ Pass 16 ∷
    Turn 1 ∷ Pass 11 ∷ Turn 1 ∷ Pass 17 ∷ Turn 0 ∷ Pass 49 ∷ Pass 16 ∷ Turn 0 ∷ Pass 48 ∷ Turn 0 ∷ Pass 17 ∷ Turn 1 ∷
    Pass 16 ∷ Pass 16 ∷ Turn 1 ∷ Pass 16 ∷ Pass 52 ∷ Turn 1 ∷ Pass 16 ∷ Turn 0 ∷ Pass 1 ∷ Turn 0 ∷ Pass 2 ∷ []

-- late by the lag, the second replies as the slot ends: the first, which has given up, speaks in the same instant, and
-- the token is lost
abbrev pub replied_at_the_end : List Event
replied_at_the_end =
    Start 0 ∷ Start 1 ∷ Pass 800 ∷ Turn 0 ∷ Pass 1 ∷ Turn 1 ∷ Pass 32 ∷ Turn 1 ∷ Pass 37 ∷ Turn 0 ∷ Pass 1 ∷ Turn 1 ∷
    Pass 32 ∷ Turn 1 ∷ Pass 37 ∷ Turn 0 ∷ Pass 1 ∷ Turn 1 ∷ Pass 65 ∷ Turn 1 ∷ Pass 61 ∷ Pass 39 ∷ Turn 0 ∷ Turn 1 ∷
    Pass 1 ∷ Turn 0 ∷ Turn 1 ∷ []

abbrev pub late_bus : Params
late_bus = record example_bus { tid1 = 61; tid2 = 61; lag = 39 }

abbrev pub long_late_bus : Params
long_late_bus = record example_bus { tid1 = 48; tid2 = 48; lag = 20; ttd = 16 }

abbrev pub late_reply_bus : Params
late_reply_bus = record example_bus { tsdr = 61; lag = 39 }

abbrev pub bus_with_some_lag : Params
bus_with_some_lag = record example_bus { lag = 20 }

-- a passive station, before a master with its address
abbrev pub namesakes : List TapSpec
namesakes = passive 2 ∷ master 2 ∷ master 1 ∷ []
