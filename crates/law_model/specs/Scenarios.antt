-- Worked scenarios: events, and the worlds that they lead to.
use Rattle.std.specs.Prelude.{ℕ, true, false, List, [], ◌∷◌, map, Option, Some, None, Result, Ok, Err}
use Rattle.pb_cycles.specs.RequestFields.{RequestFields}
use Rattle.pb_cycles.specs.declared.services.Service.TheVariants.{Srd}
use Rattle.pb_cycles.specs.declared.outcomes.Outcome.{Outcome}
use Rattle.pb_timers.specs.Timers.{Params}
use Rattle.law_turn.specs.Phases.{Phase, Checking, Use}
use Rattle.law_model.specs.Trace as trace
use Rattle.law_model.specs.Trace.{Entry, Sent, Own, Whole, Damaged}
use Rattle.law_model.specs.Medium.{TapSpec}
use Rattle.law_model.specs.World.{World, NewFault, Event, Turn, Pass, Damage, Start, Stop, Queue, Noise, Unheard, new_world}
use Rattle.law_model.specs.Step.{replay}

abbrev pub example_bus : Params
example_bus = record { tsl = 100; tid1 = 37; tid2 = 60; tsdr = 11; lag = 0; ttr = 10000; gap = 10; hsa = 5; retries = 1; ttd = 0 }

abbrev pub master : ℕ → TapSpec
master address = record { address = address; master = true; reply = [] }

abbrev pub replay_from : Result World NewFault → List Event → Option World
replay_from (Ok w) events = Some (replay w events)
replay_from (Err fault) events = None

-- the world after the events
abbrev pub world_of : List TapSpec → List Event → Option World
world_of specs events = replay_from (new_world example_bus specs) events

abbrev pub trace_of : Option World → List Entry
trace_of None = []
trace_of (Some w) = w.trace

abbrev pub phases_of : Option World → List Phase
phases_of None = []
phases_of (Some w) = map (λ t. t.station.phase) w.taps

abbrev pub two_masters : List TapSpec
two_masters = master 1 ∷ master 2 ∷ []

-- a lone master claims the token, and asks a station of its GAP in each of its rotations
abbrev pub alone : List Event
alone =
    Start 0 ∷ Pass 800 ∷ Turn 0 ∷ Pass 1 ∷ Pass 32 ∷ Pass 37 ∷ Turn 0 ∷ Pass 1 ∷ Pass 32 ∷ Pass 37 ∷
    Turn 0 ∷ Pass 1 ∷ Pass 65 ∷ Pass 100 ∷ Turn 0 ∷ Pass 1 ∷ Pass 32 ∷ Pass 37 ∷ Turn 0 ∷ Pass 1 ∷
    Pass 65 ∷ Pass 100 ∷ Turn 0 ∷ Pass 1 ∷ Pass 32 ∷ []

abbrev pub alone_trace : List Entry
alone_trace =
    Sent (record { tap = 0; octets = 0xdc ∷ 0x01 ∷ 0x01 ∷ []; begin = 800; end = 833; hits = []; heard = Own ∷ [] })
    ∷ Sent (record { tap = 0; octets = 0xdc ∷ 0x01 ∷ 0x01 ∷ []; begin = 870; end = 903; hits = []; heard = Own ∷ [] })
    ∷ Sent (record { tap = 0; octets = 0x10 ∷ 0x02 ∷ 0x01 ∷ 0x49 ∷ 0x4c ∷ 0x16 ∷ []; begin = 940; end = 1006; hits = []; heard = Own ∷ [] })
    ∷ Sent (record { tap = 0; octets = 0xdc ∷ 0x01 ∷ 0x01 ∷ []; begin = 1106; end = 1139; hits = []; heard = Own ∷ [] })
    ∷ Sent (record { tap = 0; octets = 0x10 ∷ 0x03 ∷ 0x01 ∷ 0x49 ∷ 0x4d ∷ 0x16 ∷ []; begin = 1176; end = 1242; hits = []; heard = Own ∷ [] })
    ∷ Sent (record { tap = 0; octets = 0xdc ∷ 0x01 ∷ 0x01 ∷ []; begin = 1342; end = 1375; hits = []; heard = Own ∷ [] })
    ∷ []

-- two masters start: the first claims the token, asks the second for its status and passes the token to it
abbrev pub ring_formed : List Event
ring_formed =
    Start 0 ∷ Start 1 ∷ Pass 800 ∷ Turn 0 ∷ Pass 1 ∷ Turn 1 ∷ Pass 32 ∷ Turn 1 ∷ Pass 37 ∷ Turn 0 ∷
    Pass 1 ∷ Turn 1 ∷ Pass 32 ∷ Turn 1 ∷ Pass 37 ∷ Turn 0 ∷ Pass 1 ∷ Turn 1 ∷ Pass 65 ∷ Turn 1 ∷ Pass 11 ∷
    Turn 1 ∷ Pass 1 ∷ Turn 0 ∷ Pass 65 ∷ Turn 0 ∷ Pass 37 ∷ Turn 0 ∷ Pass 1 ∷ Turn 1 ∷ Pass 32 ∷ Turn 1 ∷
    Pass 37 ∷ Turn 1 ∷ Pass 1 ∷ Turn 0 ∷ Pass 65 ∷ Turn 0 ∷ Pass 100 ∷ Turn 1 ∷ Pass 1 ∷ Turn 0 ∷ Pass 32 ∷
    Turn 0 ∷ []

abbrev pub ring_formed_trace : List Entry
ring_formed_trace =
    Sent (record { tap = 0; octets = 0xdc ∷ 0x01 ∷ 0x01 ∷ []; begin = 800; end = 833; hits = []; heard = Own ∷ Whole ∷ [] })
    ∷ Sent (record { tap = 0; octets = 0xdc ∷ 0x01 ∷ 0x01 ∷ []; begin = 870; end = 903; hits = []; heard = Own ∷ Whole ∷ [] })
    ∷ Sent (record { tap = 0; octets = 0x10 ∷ 0x02 ∷ 0x01 ∷ 0x49 ∷ 0x4c ∷ 0x16 ∷ []; begin = 940; end = 1006; hits = []; heard = Own ∷ Whole ∷ [] })
    ∷ Sent (record { tap = 1; octets = 0x10 ∷ 0x01 ∷ 0x02 ∷ 0x20 ∷ 0x23 ∷ 0x16 ∷ []; begin = 1017; end = 1083; hits = []; heard = Whole ∷ Own ∷ [] })
    ∷ Sent (record { tap = 0; octets = 0xdc ∷ 0x02 ∷ 0x01 ∷ []; begin = 1120; end = 1153; hits = []; heard = Own ∷ Whole ∷ [] })
    ∷ Sent (record { tap = 1; octets = 0x10 ∷ 0x03 ∷ 0x02 ∷ 0x49 ∷ 0x4e ∷ 0x16 ∷ []; begin = 1190; end = 1256; hits = []; heard = Whole ∷ Own ∷ [] })
    ∷ Sent (record { tap = 1; octets = 0xdc ∷ 0x01 ∷ 0x02 ∷ []; begin = 1356; end = 1389; hits = []; heard = Whole ∷ Own ∷ [] })
    ∷ []

-- the first receives damaged what the second sends with the token
abbrev pub taker_damaged : List Event
taker_damaged =
    Start 0 ∷ Start 1 ∷ Pass 800 ∷ Turn 0 ∷ Pass 1 ∷ Turn 1 ∷ Pass 32 ∷ Turn 1 ∷ Pass 37 ∷ Turn 0 ∷
    Pass 1 ∷ Turn 1 ∷ Pass 32 ∷ Turn 1 ∷ Pass 37 ∷ Turn 0 ∷ Pass 1 ∷ Turn 1 ∷ Pass 65 ∷ Turn 1 ∷ Pass 11 ∷
    Turn 1 ∷ Pass 1 ∷ Turn 0 ∷ Pass 65 ∷ Turn 0 ∷ Pass 37 ∷ Turn 0 ∷ Pass 1 ∷ Turn 1 ∷ Pass 32 ∷ Turn 1 ∷
    Pass 37 ∷ Turn 1 ∷ Pass 1 ∷ Damage 0 1 (Some 0) ∷ Turn 0 ∷ Pass 65 ∷ Turn 0 ∷ Pass 100 ∷ Turn 1 ∷ Pass 1 ∷ Turn 0 ∷
    Pass 32 ∷ Turn 0 ∷ []

abbrev pub taker_damaged_trace : List Entry
taker_damaged_trace =
    Sent (record { tap = 0; octets = 0xdc ∷ 0x01 ∷ 0x01 ∷ []; begin = 800; end = 833; hits = []; heard = Own ∷ Whole ∷ [] })
    ∷ Sent (record { tap = 0; octets = 0xdc ∷ 0x01 ∷ 0x01 ∷ []; begin = 870; end = 903; hits = []; heard = Own ∷ Whole ∷ [] })
    ∷ Sent (record { tap = 0; octets = 0x10 ∷ 0x02 ∷ 0x01 ∷ 0x49 ∷ 0x4c ∷ 0x16 ∷ []; begin = 940; end = 1006; hits = []; heard = Own ∷ Whole ∷ [] })
    ∷ Sent (record { tap = 1; octets = 0x10 ∷ 0x01 ∷ 0x02 ∷ 0x20 ∷ 0x23 ∷ 0x16 ∷ []; begin = 1017; end = 1083; hits = []; heard = Whole ∷ Own ∷ [] })
    ∷ Sent (record { tap = 0; octets = 0xdc ∷ 0x02 ∷ 0x01 ∷ []; begin = 1120; end = 1153; hits = []; heard = Own ∷ Whole ∷ [] })
    ∷ Sent (record { tap = 1; octets = 0x10 ∷ 0x03 ∷ 0x02 ∷ 0x49 ∷ 0x4e ∷ 0x16 ∷ []; begin = 1190; end = 1256; hits = record { tap = 0; place = Some 0 } ∷ []; heard = Damaged ∷ Own ∷ [] })
    ∷ Sent (record { tap = 1; octets = 0xdc ∷ 0x01 ∷ 0x02 ∷ []; begin = 1356; end = 1389; hits = []; heard = Whole ∷ Own ∷ [] })
    ∷ []

-- the first uses the token that the second has passed back to it
abbrev pub taker_damaged_phases : List Phase
taker_damaged_phases = Use false 1426 ∷ Checking 1 ∷ []

-- what the second sends with the token is lost at the first
abbrev pub taker_unheard : List Event
taker_unheard =
    Start 0 ∷ Start 1 ∷ Pass 800 ∷ Turn 0 ∷ Pass 1 ∷ Turn 1 ∷ Pass 32 ∷ Turn 1 ∷ Pass 37 ∷ Turn 0 ∷
    Pass 1 ∷ Turn 1 ∷ Pass 32 ∷ Turn 1 ∷ Pass 37 ∷ Turn 0 ∷ Pass 1 ∷ Turn 1 ∷ Pass 65 ∷ Turn 1 ∷ Pass 11 ∷
    Turn 1 ∷ Pass 1 ∷ Turn 0 ∷ Pass 65 ∷ Turn 0 ∷ Pass 37 ∷ Turn 0 ∷ Pass 1 ∷ Turn 1 ∷ Pass 32 ∷ Turn 1 ∷
    Pass 37 ∷ Turn 1 ∷ Unheard 0 1 ∷ Pass 63 ∷ Turn 0 ∷ Pass 1 ∷ Turn 1 ∷ Pass 2 ∷ Turn 1 ∷ Pass 30 ∷ Turn 1 ∷ Turn 0 ∷ []

abbrev pub taker_unheard_trace : List Entry
taker_unheard_trace =
    Sent (record { tap = 0; octets = 0xdc ∷ 0x01 ∷ 0x01 ∷ []; begin = 800; end = 833; hits = []; heard = Own ∷ Whole ∷ [] })
    ∷ Sent (record { tap = 0; octets = 0xdc ∷ 0x01 ∷ 0x01 ∷ []; begin = 870; end = 903; hits = []; heard = Own ∷ Whole ∷ [] })
    ∷ Sent (record { tap = 0; octets = 0x10 ∷ 0x02 ∷ 0x01 ∷ 0x49 ∷ 0x4c ∷ 0x16 ∷ []; begin = 940; end = 1006; hits = []; heard = Own ∷ Whole ∷ [] })
    ∷ Sent (record { tap = 1; octets = 0x10 ∷ 0x01 ∷ 0x02 ∷ 0x20 ∷ 0x23 ∷ 0x16 ∷ []; begin = 1017; end = 1083; hits = []; heard = Whole ∷ Own ∷ [] })
    ∷ Sent (record { tap = 0; octets = 0xdc ∷ 0x02 ∷ 0x01 ∷ []; begin = 1120; end = 1153; hits = []; heard = Own ∷ Whole ∷ [] })
    ∷ Sent (record { tap = 1; octets = 0x10 ∷ 0x03 ∷ 0x02 ∷ 0x49 ∷ 0x4e ∷ 0x16 ∷ []; begin = 1190; end = 1256; hits = []; heard = trace.Unheard ∷ Own ∷ [] })
    ∷ Sent (record { tap = 0; octets = 0xdc ∷ 0x02 ∷ 0x01 ∷ []; begin = 1253; end = 1286; hits = []; heard = Own ∷ Damaged ∷ [] })
    ∷ []

-- the first has passed the token again, while the second uses it
abbrev pub taker_unheard_phases : List Phase
taker_unheard_phases = Checking 2 ∷ Use true 1323 ∷ []

-- noise, and more noise before it has ended; a master claims the token a time-out after it
abbrev pub noise_heard : List Event
noise_heard = Start 0 ∷ Pass 100 ∷ Noise 30 ∷ Pass 10 ∷ Turn 0 ∷ Noise 50 ∷ Pass 50 ∷ Turn 0 ∷ Pass 800 ∷ Turn 0 ∷ Pass 33 ∷ []

abbrev pub noise_heard_trace : List Entry
noise_heard_trace =
    trace.Noise (record { begin = 100; end = 160 })
    ∷ Sent (record { tap = 0; octets = 0xdc ∷ 0x01 ∷ 0x01 ∷ []; begin = 960; end = 993; hits = []; heard = Own ∷ [] })
    ∷ []

-- the first stops in the middle of its request: the second receives damage, and claims the token
abbrev pub speaker_stopped : List Event
speaker_stopped =
    Start 0 ∷ Start 1 ∷ Pass 800 ∷ Turn 0 ∷ Pass 1 ∷ Turn 1 ∷ Pass 32 ∷ Turn 1 ∷ Pass 37 ∷ Turn 0 ∷ Pass 1 ∷
    Turn 1 ∷ Pass 32 ∷ Turn 1 ∷ Pass 37 ∷ Turn 0 ∷ Pass 1 ∷ Turn 1 ∷ Pass 9 ∷ Stop 0 ∷ Pass 1 ∷ Turn 1 ∷
    Pass 1000 ∷ Turn 1 ∷ Pass 1 ∷ Pass 32 ∷ []

abbrev pub speaker_stopped_trace : List Entry
speaker_stopped_trace =
    Sent (record { tap = 0; octets = 0xdc ∷ 0x01 ∷ 0x01 ∷ []; begin = 800; end = 833; hits = []; heard = Own ∷ Whole ∷ [] })
    ∷ Sent (record { tap = 0; octets = 0xdc ∷ 0x01 ∷ 0x01 ∷ []; begin = 870; end = 903; hits = []; heard = Own ∷ Whole ∷ [] })
    ∷ Sent (record { tap = 0; octets = 0x10 ∷ 0x02 ∷ 0x01 ∷ 0x49 ∷ 0x4c ∷ 0x16 ∷ []; begin = 940; end = 951; hits = []; heard = Own ∷ Damaged ∷ [] })
    ∷ Sent (record { tap = 1; octets = 0xdc ∷ 0x02 ∷ 0x02 ∷ []; begin = 1951; end = 1984; hits = []; heard = Damaged ∷ Own ∷ [] })
    ∷ []

-- a master, and a passive station that replies with two octets
abbrev pub master_and_passive : List TapSpec
master_and_passive = master 1 ∷ record { address = 7; master = false; reply = 0xaa ∷ 0xbb ∷ [] } ∷ []

-- a request for data of that station, of high priority
abbrev pub srd_high : RequestFields
srd_high = record { da = 7; service = Srd; high = true; unit = [] }

-- three requests for data of a passive station; the second reply is received damaged: that request is sent again, and
-- gets the kept reply
abbrev pub data_requested : List Event
data_requested =
    Start 0 ∷ Start 1 ∷ Queue 0 srd_high ∷ Queue 0 srd_high ∷ Queue 0 srd_high ∷ Pass 800 ∷ Turn 0 ∷ Pass 1 ∷
    Turn 1 ∷ Pass 32 ∷ Turn 1 ∷ Pass 37 ∷ Turn 0 ∷ Pass 1 ∷ Turn 1 ∷ Pass 32 ∷ Turn 1 ∷ Pass 37 ∷ Turn 0 ∷
    Pass 1 ∷ Turn 1 ∷ Pass 65 ∷ Turn 1 ∷ Pass 11 ∷ Turn 1 ∷ Pass 1 ∷ Turn 0 ∷ Pass 120 ∷ Turn 0 ∷ Pass 37 ∷
    Turn 0 ∷ Pass 1 ∷ Turn 1 ∷ Pass 65 ∷ Turn 1 ∷ Pass 11 ∷ Turn 1 ∷ Pass 1 ∷ Damage 0 1 (Some 0) ∷ Turn 0 ∷
    Pass 120 ∷ Turn 0 ∷ Pass 37 ∷ Turn 0 ∷ Pass 1 ∷ Turn 1 ∷ Pass 65 ∷ Turn 1 ∷ Pass 11 ∷ Turn 1 ∷ Pass 1 ∷
    Turn 0 ∷ Pass 120 ∷ Turn 0 ∷ Pass 37 ∷ Turn 0 ∷ Pass 1 ∷ Turn 1 ∷ Pass 65 ∷ Turn 1 ∷ Pass 11 ∷ Turn 1 ∷
    Pass 1 ∷ Turn 0 ∷ Pass 120 ∷ Turn 0 ∷ []

abbrev pub data_requested_trace : List Entry
data_requested_trace =
    Sent (record { tap = 0; octets = 0xdc ∷ 0x01 ∷ 0x01 ∷ []; begin = 800; end = 833; hits = []; heard = Own ∷ Whole ∷ [] })
    ∷ Sent (record { tap = 0; octets = 0xdc ∷ 0x01 ∷ 0x01 ∷ []; begin = 870; end = 903; hits = []; heard = Own ∷ Whole ∷ [] })
    ∷ Sent (record { tap = 0; octets = 0x10 ∷ 0x07 ∷ 0x01 ∷ 0x6d ∷ 0x75 ∷ 0x16 ∷ []; begin = 940; end = 1006; hits = []; heard = Own ∷ Whole ∷ [] })
    ∷ Sent (record { tap = 1; octets = 0x68 ∷ 0x05 ∷ 0x05 ∷ 0x68 ∷ 0x01 ∷ 0x07 ∷ 0x0a ∷ 0xaa ∷ 0xbb ∷ 0x77 ∷ 0x16 ∷ []; begin = 1017; end = 1138; hits = []; heard = Whole ∷ Own ∷ [] })
    ∷ Sent (record { tap = 0; octets = 0x10 ∷ 0x07 ∷ 0x01 ∷ 0x5d ∷ 0x65 ∷ 0x16 ∷ []; begin = 1175; end = 1241; hits = []; heard = Own ∷ Whole ∷ [] })
    ∷ Sent (record { tap = 1; octets = 0x68 ∷ 0x05 ∷ 0x05 ∷ 0x68 ∷ 0x01 ∷ 0x07 ∷ 0x0a ∷ 0xaa ∷ 0xbb ∷ 0x77 ∷ 0x16 ∷ []; begin = 1252; end = 1373; hits = record { tap = 0; place = Some 0 } ∷ []; heard = Damaged ∷ Own ∷ [] })
    ∷ Sent (record { tap = 0; octets = 0x10 ∷ 0x07 ∷ 0x01 ∷ 0x5d ∷ 0x65 ∷ 0x16 ∷ []; begin = 1410; end = 1476; hits = []; heard = Own ∷ Whole ∷ [] })
    ∷ Sent (record { tap = 1; octets = 0x68 ∷ 0x05 ∷ 0x05 ∷ 0x68 ∷ 0x01 ∷ 0x07 ∷ 0x0a ∷ 0xaa ∷ 0xbb ∷ 0x77 ∷ 0x16 ∷ []; begin = 1487; end = 1608; hits = []; heard = Whole ∷ Own ∷ [] })
    ∷ Sent (record { tap = 0; octets = 0x10 ∷ 0x07 ∷ 0x01 ∷ 0x7d ∷ 0x85 ∷ 0x16 ∷ []; begin = 1645; end = 1711; hits = []; heard = Own ∷ Whole ∷ [] })
    ∷ Sent (record { tap = 1; octets = 0x68 ∷ 0x05 ∷ 0x05 ∷ 0x68 ∷ 0x01 ∷ 0x07 ∷ 0x0a ∷ 0xaa ∷ 0xbb ∷ 0x77 ∷ 0x16 ∷ []; begin = 1722; end = 1843; hits = []; heard = Whole ∷ Own ∷ [] })
    ∷ []

-- how many requests each station has executed, and the last outcome of its own
abbrev pub executed_of : Option World → List ℕ
executed_of None = []
executed_of (Some w) = map (λ t. t.station.cycles.responder.executed) w.taps

abbrev pub outcomes_of : Option World → List (Option (ℕ × Outcome))
outcomes_of None = []
outcomes_of (Some w) = map (λ t. t.station.cycles.last_outcome) w.taps
