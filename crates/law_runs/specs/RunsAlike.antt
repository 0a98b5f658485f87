-- Worked runs that break a premise, or come close to it.
use Rattle.std.specs.Prelude.{List, [], ◌∷◌}
use Rattle.law_model.specs.World.{Event, Turn, Pass, Start, Stop, Noise, Unheard}

-- two stations with one address, the second started at 100
abbrev pub namesakes : List Event
namesakes =
    Start 0 ∷ Pass 100 ∷ Start 1 ∷ Pass 700 ∷ Turn 0 ∷ Pass 1 ∷ Turn 1 ∷ Pass 32 ∷ Turn 1 ∷ Pass 37 ∷ Turn 0 ∷ Pass 1 ∷
    Turn 1 ∷ Pass 32 ∷ Turn 1 ∷ Pass 37 ∷ Turn 0 ∷ Pass 1 ∷ Turn 1 ∷ Pass 9 ∷ []

-- of two such stations the second stops before the first starts
abbrev pub namesake_stopped : List Event
namesake_stopped =
    Start 1 ∷ Stop 1 ∷ Start 0 ∷ []

-- the second of two stations takes the token 62 late: the first still waits
abbrev pub taken_62_late : List Event
taken_62_late =
    Start 0 ∷ Start 1 ∷ Pass 800 ∷ Turn 0 ∷ Pass 1 ∷ Turn 1 ∷ Pass 32 ∷ Turn 1 ∷ Pass 37 ∷ Turn 0 ∷ Pass 1 ∷ Turn 1 ∷
    Pass 32 ∷ Turn 1 ∷ Pass 37 ∷ Turn 0 ∷ Pass 1 ∷ Turn 1 ∷ Pass 65 ∷ Turn 1 ∷ Pass 11 ∷ Turn 1 ∷ Pass 1 ∷ Turn 0 ∷ Pass 65 ∷
    Turn 0 ∷ Pass 37 ∷ Turn 0 ∷ Pass 1 ∷ Turn 1 ∷ Pass 32 ∷ Turn 1 ∷ Pass 37 ∷ Pass 62 ∷ Turn 1 ∷ Pass 1 ∷ Turn 0 ∷ Pass 65 ∷
    Turn 0 ∷ Pass 12 ∷ []

-- 63 late: the first passes the token again in the same instant
abbrev pub taken_63_late : List Event
taken_63_late =
    Start 0 ∷ Start 1 ∷ Pass 800 ∷ Turn 0 ∷ Pass 1 ∷ Turn 1 ∷ Pass 32 ∷ Turn 1 ∷ Pass 37 ∷ Turn 0 ∷ Pass 1 ∷ Turn 1 ∷
    Pass 32 ∷ Turn 1 ∷ Pass 37 ∷ Turn 0 ∷ Pass 1 ∷ Turn 1 ∷ Pass 65 ∷ Turn 1 ∷ Pass 11 ∷ Turn 1 ∷ Pass 1 ∷ Turn 0 ∷ Pass 65 ∷
    Turn 0 ∷ Pass 37 ∷ Turn 0 ∷ Pass 1 ∷ Turn 1 ∷ Pass 32 ∷ Turn 1 ∷ Pass 37 ∷ Pass 63 ∷ Turn 0 ∷ Turn 1 ∷ Pass 1 ∷ Turn 0 ∷
    Turn 1 ∷ Pass 32 ∷ Turn 1 ∷ Pass 33 ∷ Turn 0 ∷ Pass 11 ∷ []

-- 39 late, on a bus whose lag is 39
abbrev pub taken_at_the_lag : List Event
taken_at_the_lag =
    Start 0 ∷ Start 1 ∷ Pass 800 ∷ Turn 0 ∷ Pass 1 ∷ Turn 1 ∷ Pass 32 ∷ Turn 1 ∷ Pass 37 ∷ Turn 0 ∷ Pass 1 ∷ Turn 1 ∷
    Pass 32 ∷ Turn 1 ∷ Pass 37 ∷ Turn 0 ∷ Pass 1 ∷ Turn 1 ∷ Pass 65 ∷ Turn 1 ∷ Pass 11 ∷ Turn 1 ∷ Pass 1 ∷ Turn 0 ∷ Pass 65 ∷
    Turn 0 ∷ Pass 37 ∷ Turn 0 ∷ Pass 1 ∷ Turn 1 ∷ Pass 32 ∷ Turn 1 ∷ Pass 37 ∷ Pass 39 ∷ Turn 1 ∷ Pass 1 ∷ Turn 0 ∷ Pass 65 ∷
    Turn 0 ∷ Pass 5 ∷ []

-- the first of two starts so late that their time-outs end together
abbrev pub both_claim : List Event
both_claim =
    Start 1 ∷ Pass 200 ∷ Start 0 ∷ Pass 800 ∷ Turn 0 ∷ Turn 1 ∷ Pass 1 ∷ Turn 0 ∷ Turn 1 ∷ Pass 32 ∷ Turn 0 ∷ Turn 1 ∷
    Pass 7 ∷ []

-- the same, and time passes beyond both time-outs
abbrev pub both_are_late : List Event
both_are_late =
    Start 1 ∷ Pass 200 ∷ Start 0 ∷ Pass 801 ∷ []

-- time-outs end together, one counted from noise and one from a start
abbrev pub both_claim_after_noise : List Event
both_claim_after_noise =
    Start 1 ∷ Pass 100 ∷ Noise 50 ∷ Pass 1 ∷ Turn 1 ∷ Pass 49 ∷ Turn 1 ∷ Pass 200 ∷ Start 0 ∷ Pass 800 ∷ Turn 0 ∷ Turn 1 ∷
    Pass 1 ∷ Turn 0 ∷ Turn 1 ∷ Pass 32 ∷ Turn 0 ∷ Turn 1 ∷ Pass 7 ∷ []

-- noise restarts time-outs that would end together
abbrev pub noise_between : List Event
noise_between =
    Start 1 ∷ Pass 200 ∷ Start 0 ∷ Pass 300 ∷ Noise 10 ∷ Pass 1 ∷ Turn 0 ∷ Turn 1 ∷ Pass 9 ∷ Turn 0 ∷ Turn 1 ∷ Pass 800 ∷
    Turn 0 ∷ Pass 1 ∷ Turn 1 ∷ Pass 32 ∷ Turn 1 ∷ Pass 37 ∷ Turn 0 ∷ Pass 1 ∷ Turn 1 ∷ Pass 19 ∷ []

-- the station that the token is passed to has stopped: it is removed after the third attempt
abbrev pub successor_gone : List Event
successor_gone =
    Start 0 ∷ Start 1 ∷ Pass 800 ∷ Turn 0 ∷ Pass 1 ∷ Turn 1 ∷ Pass 32 ∷ Turn 1 ∷ Pass 37 ∷ Turn 0 ∷ Pass 1 ∷ Turn 1 ∷
    Pass 32 ∷ Turn 1 ∷ Pass 37 ∷ Turn 0 ∷ Pass 1 ∷ Turn 1 ∷ Pass 65 ∷ Turn 1 ∷ Pass 11 ∷ Turn 1 ∷ Pass 1 ∷ Turn 0 ∷ Pass 65 ∷
    Turn 0 ∷ Pass 37 ∷ Turn 0 ∷ Pass 1 ∷ Turn 1 ∷ Pass 32 ∷ Turn 1 ∷ Pass 7 ∷ Stop 1 ∷ Pass 93 ∷ Turn 0 ∷ Pass 1 ∷ Pass 32 ∷
    Pass 100 ∷ Turn 0 ∷ Pass 1 ∷ Pass 32 ∷ Pass 100 ∷ Turn 0 ∷ Pass 1 ∷ Pass 32 ∷ Pass 37 ∷ Turn 0 ∷ Pass 1 ∷ Pass 65 ∷
    Pass 45 ∷ []

-- the second starts after a long silence on the bus, shortly before the first claims the token
abbrev pub started_in_silence : List Event
started_in_silence =
    Start 0 ∷ Pass 700 ∷ Start 1 ∷ Pass 100 ∷ Turn 0 ∷ []

-- the second stops before the first claims the token
abbrev pub stopped_in_silence : List Event
stopped_in_silence =
    Start 0 ∷ Start 1 ∷ Pass 100 ∷ Stop 1 ∷ Pass 700 ∷ Turn 0 ∷ []

-- both start, and the first claims the token
abbrev pub first_claims : List Event
first_claims =
    Start 0 ∷ Start 1 ∷ Pass 800 ∷ Turn 0 ∷ []

-- a loss is refused if nothing is on the bus
abbrev pub loss_refused : List Event
loss_refused =
    Start 0 ∷ Unheard 1 0 ∷ Pass 800 ∷ Turn 0 ∷ []

-- with a cable delay of 15: claims at moments 10 apart
abbrev pub claims_with_delay : List Event
claims_with_delay =
    Start 1 ∷ Pass 210 ∷ Start 0 ∷ Pass 790 ∷ Turn 1 ∷ Pass 10 ∷ Turn 0 ∷ Pass 6 ∷ Turn 0 ∷ Pass 10 ∷ Turn 1 ∷ Pass 7 ∷
    Pass 10 ∷ Pass 5 ∷ Turn 0 ∷ Pass 10 ∷ Turn 1 ∷ Pass 2 ∷ []

-- the ring is formed with that delay
abbrev pub ring_with_delay : List Event
ring_with_delay =
    Start 0 ∷ Start 1 ∷ Pass 800 ∷ Turn 0 ∷ Pass 16 ∷ Turn 1 ∷ Pass 17 ∷ Pass 15 ∷ Turn 1 ∷ Pass 22 ∷ Turn 0 ∷ Pass 16 ∷
    Turn 1 ∷ Pass 17 ∷ Pass 15 ∷ Turn 1 ∷ Pass 22 ∷ Turn 0 ∷ Pass 16 ∷ Turn 1 ∷ Pass 50 ∷ Pass 15 ∷ Turn 1 ∷ Pass 11 ∷
    Turn 1 ∷ Pass 16 ∷ Turn 0 ∷ Pass 50 ∷ Pass 15 ∷ Turn 0 ∷ Pass 37 ∷ Turn 0 ∷ Pass 16 ∷ Turn 1 ∷ Pass 17 ∷ Pass 15 ∷
    Turn 1 ∷ Pass 37 ∷ Turn 1 ∷ Pass 16 ∷ Turn 0 ∷ Pass 50 ∷ Pass 15 ∷ Turn 0 ∷ Pass 85 ∷ Turn 1 ∷ Pass 16 ∷ Turn 0 ∷
    Pass 17 ∷ Pass 15 ∷ Turn 0 ∷ Pass 1 ∷ []

-- with that delay: claims at moments 15 apart
abbrev pub claims_at_the_delay : List Event
claims_at_the_delay =
    Start 1 ∷ Pass 215 ∷ Start 0 ∷ Pass 785 ∷ Turn 1 ∷ Pass 15 ∷ Turn 0 ∷ []

-- the second has waited out its time-out and stops, 1 bit time before the first has
abbrev pub waits_out_next : List Event
waits_out_next =
    Start 1 ∷ Pass 201 ∷ Start 0 ∷ Pass 799 ∷ Stop 1 ∷ Pass 1 ∷ Turn 0 ∷ []

-- the last two of three start
abbrev pub last_two_start : List Event
last_two_start =
    Start 1 ∷ Start 2 ∷ []
