-- Worked runs: two that are without a token for as long as the bound allows, and runs that break a premise and are so
-- for longer.
use Rattle.std.specs.Prelude.{true, false, List, [], ◌∷◌, Some, replicate}
use Rattle.pb_cycles.specs.RequestFields.{RequestFields}
use Rattle.pb_cycles.specs.declared.services.Service.TheVariants.{Srd}
use Rattle.pb_timers.specs.Timers.{Params}
use Rattle.law_model.specs.Medium.{TapSpec}
use Rattle.law_model.specs.World.{Event, Turn, Pass, Damage, Start, Stop, Queue, Noise, Unheard}
use Rattle.law_model.specs.Scenarios.{master}

-- the longest requests, and a passive station that replies with as many octets
abbrev pub long_low : RequestFields
long_low = record { da = 100; service = Srd; high = false; unit = replicate 246 0x55 }

abbrev pub long_high : RequestFields
long_high = record long_low { high = true }

abbrev pub long_replier : TapSpec
long_replier = record { address = 100; master = false; reply = replicate 246 0xaa }

-- ---- the bound is reached

-- A bus on which turns may be late, with a cable delay. The reply delay, the lag and both cable delays are one bit time
-- less than a slot. The idle time and the lag are one bit time less than the target rotation time: so a request of low
-- priority may be the first after a receipt, and start in the last bit time in which it may.
abbrev pub slow_bus : Params
slow_bus = record { tsl = 300; tid1 = 236; tid2 = 236; tsdr = 259; lag = 20; ttr = 257; gap = 100; hsa = 2; retries = 0; ttd = 10 }

abbrev pub slow_bus_with_retries : Params
slow_bus_with_retries = record slow_bus { retries = 1 }

abbrev pub three_and_a_replier : List TapSpec
three_and_a_replier = master 0 ∷ master 1 ∷ master 2 ∷ long_replier ∷ []

-- The first of three masters passes the token to the second, until 3018, and stops. The second sends two of the longest
-- requests, of low and then of high priority, and stops as the second reply ends. The third waits for its time-out.
-- From 3018 on each turn that sends is late by the lag.
abbrev pub long_hold : List Event
long_hold =
    Start 0 ∷ Start 1 ∷ Start 2 ∷ Start 3 ∷ Pass 1800 ∷ Turn 0 ∷ Pass 11 ∷ Turn 1 ∷ Turn 2 ∷ Turn 3 ∷ Pass 22 ∷ Pass 10 ∷ Turn 1 ∷ Turn 2 ∷
    Turn 3 ∷ Pass 226 ∷ Turn 0 ∷ Pass 11 ∷ Turn 1 ∷ Turn 2 ∷ Turn 3 ∷ Pass 22 ∷ Pass 10 ∷ Turn 1 ∷ Turn 2 ∷ Turn 3 ∷ Pass 226 ∷ Turn 0 ∷
    Pass 11 ∷ Turn 1 ∷ Turn 2 ∷ Turn 3 ∷ Pass 55 ∷ Pass 10 ∷ Turn 1 ∷ Turn 2 ∷ Turn 3 ∷ Pass 259 ∷ Turn 1 ∷ Pass 11 ∷ Turn 0 ∷ Turn 2 ∷
    Turn 3 ∷ Pass 55 ∷ Pass 10 ∷ Turn 0 ∷ Turn 2 ∷ Turn 3 ∷ Pass 236 ∷ Turn 0 ∷ Pass 11 ∷ Turn 1 ∷ Turn 2 ∷ Turn 3 ∷ Pass 22 ∷ Stop 0 ∷
    Queue 1 long_low ∷ Pass 10 ∷ Turn 1 ∷ Turn 2 ∷ Turn 3 ∷ Pass 256 ∷ Turn 1 ∷ Pass 11 ∷ Turn 2 ∷ Turn 3 ∷ Pass 705 ∷ Queue 1 long_high ∷
    Pass 2089 ∷ Pass 10 ∷ Turn 2 ∷ Turn 3 ∷ Pass 279 ∷ Turn 3 ∷ Pass 11 ∷ Turn 1 ∷ Turn 2 ∷ Pass 2794 ∷ Pass 10 ∷ Turn 1 ∷ Turn 2 ∷
    Pass 256 ∷ Turn 1 ∷ Pass 11 ∷ Turn 2 ∷ Turn 3 ∷ Pass 2794 ∷ Pass 10 ∷ Turn 2 ∷ Turn 3 ∷ Pass 279 ∷ Turn 3 ∷ Pass 11 ∷ Turn 1 ∷ Turn 2 ∷
    Pass 2794 ∷ Stop 1 ∷ Pass 10 ∷ Turn 2 ∷ Pass 3020 ∷ []

-- The same, with the first reply to each of the two requests received damaged.
abbrev pub long_hold_with_retries : List Event
long_hold_with_retries =
    Start 0 ∷ Start 1 ∷ Start 2 ∷ Start 3 ∷ Pass 1800 ∷ Turn 0 ∷ Pass 11 ∷ Turn 1 ∷ Turn 2 ∷ Turn 3 ∷ Pass 22 ∷ Pass 10 ∷ Turn 1 ∷ Turn 2 ∷
    Turn 3 ∷ Pass 226 ∷ Turn 0 ∷ Pass 11 ∷ Turn 1 ∷ Turn 2 ∷ Turn 3 ∷ Pass 22 ∷ Pass 10 ∷ Turn 1 ∷ Turn 2 ∷ Turn 3 ∷ Pass 226 ∷ Turn 0 ∷
    Pass 11 ∷ Turn 1 ∷ Turn 2 ∷ Turn 3 ∷ Pass 55 ∷ Pass 10 ∷ Turn 1 ∷ Turn 2 ∷ Turn 3 ∷ Pass 259 ∷ Turn 1 ∷ Pass 11 ∷ Turn 0 ∷ Turn 2 ∷
    Turn 3 ∷ Pass 55 ∷ Pass 10 ∷ Turn 0 ∷ Turn 2 ∷ Turn 3 ∷ Pass 236 ∷ Turn 0 ∷ Pass 11 ∷ Turn 1 ∷ Turn 2 ∷ Turn 3 ∷ Pass 22 ∷ Stop 0 ∷
    Queue 1 long_low ∷ Pass 10 ∷ Turn 1 ∷ Turn 2 ∷ Turn 3 ∷ Pass 256 ∷ Turn 1 ∷ Pass 11 ∷ Turn 2 ∷ Turn 3 ∷ Pass 705 ∷ Queue 1 long_high ∷
    Pass 2089 ∷ Pass 10 ∷ Turn 2 ∷ Turn 3 ∷ Pass 279 ∷ Turn 3 ∷ Damage 1 3 (Some 0) ∷ Pass 11 ∷ Turn 1 ∷ Turn 2 ∷ Pass 2794 ∷ Pass 10 ∷
    Turn 1 ∷ Turn 2 ∷ Pass 256 ∷ Turn 1 ∷ Pass 11 ∷ Turn 2 ∷ Turn 3 ∷ Pass 2794 ∷ Pass 10 ∷ Turn 2 ∷ Turn 3 ∷ Pass 279 ∷ Turn 3 ∷ Pass 11 ∷
    Turn 1 ∷ Turn 2 ∷ Pass 2794 ∷ Pass 10 ∷ Turn 1 ∷ Turn 2 ∷ Pass 256 ∷ Turn 1 ∷ Pass 11 ∷ Turn 2 ∷ Turn 3 ∷ Pass 2794 ∷ Pass 10 ∷ Turn 2 ∷
    Turn 3 ∷ Pass 279 ∷ Turn 3 ∷ Damage 1 3 (Some 0) ∷ Pass 11 ∷ Turn 1 ∷ Turn 2 ∷ Pass 2794 ∷ Pass 10 ∷ Turn 1 ∷ Turn 2 ∷ Pass 256 ∷
    Turn 1 ∷ Pass 11 ∷ Turn 2 ∷ Turn 3 ∷ Pass 2794 ∷ Pass 10 ∷ Turn 2 ∷ Turn 3 ∷ Pass 279 ∷ Turn 3 ∷ Pass 11 ∷ Turn 1 ∷ Turn 2 ∷ Pass 2794 ∷
    Stop 1 ∷ Pass 10 ∷ Turn 2 ∷ Pass 3020 ∷ []

-- ---- one premise broken, the others kept

-- a bus whose stations reply at once
abbrev pub prompt_bus : Params
prompt_bus = record slow_bus_with_retries { tsdr = 11 }

-- noise lasts longer than the bound: a master that hears it claims no token
abbrev pub noise_goes_on : List Event
noise_goes_on = Start 2 ∷ Noise 20000 ∷ Pass 1 ∷ Turn 2 ∷ Pass 15999 ∷ []

-- a master never takes its turn
abbrev pub no_turn_comes : List Event
no_turn_comes = Start 2 ∷ Pass 16000 ∷ []

-- The first two masters have one address, and both accept the token that the third passes to it. Both send a request at
-- once. The first repeats its own while the second waits for a reply: so the second hears activity, does not give up,
-- and its cycle lasts longer than allowed.
abbrev pub namesakes : List TapSpec
namesakes = master 1 ∷ master 1 ∷ master 0 ∷ master 2 ∷ long_replier ∷ []

abbrev pub namesakes_hold : List Event
namesakes_hold =
    Start 0 ∷ Pass 2400 ∷ Turn 0 ∷ Pass 11 ∷ Pass 22 ∷ Pass 10 ∷ Pass 226 ∷ Turn 0 ∷ Pass 11 ∷ Pass 22 ∷ Pass 8 ∷ Noise 1 ∷ Pass 1 ∷
    Turn 0 ∷ Pass 1 ∷ Pass 8 ∷ Start 1 ∷ Start 2 ∷ Start 3 ∷ Start 4 ∷ Pass 1800 ∷ Turn 2 ∷ Pass 1 ∷ Damage 0 2 (Some 0) ∷ Pass 10 ∷
    Turn 0 ∷ Turn 1 ∷ Turn 3 ∷ Turn 4 ∷ Pass 22 ∷ Pass 10 ∷ Turn 0 ∷ Turn 1 ∷ Turn 3 ∷ Turn 4 ∷ Pass 226 ∷ Turn 2 ∷ Pass 11 ∷ Turn 0 ∷
    Turn 1 ∷ Turn 3 ∷ Turn 4 ∷ Pass 22 ∷ Pass 10 ∷ Turn 0 ∷ Turn 1 ∷ Turn 3 ∷ Turn 4 ∷ Pass 226 ∷ Turn 2 ∷ Pass 11 ∷ Turn 0 ∷ Turn 1 ∷
    Turn 3 ∷ Turn 4 ∷ Pass 55 ∷ Pass 10 ∷ Turn 0 ∷ Turn 1 ∷ Turn 3 ∷ Turn 4 ∷ Pass 11 ∷ Turn 1 ∷ Pass 11 ∷ Turn 0 ∷ Turn 2 ∷ Turn 3 ∷
    Turn 4 ∷ Pass 55 ∷ Pass 10 ∷ Turn 0 ∷ Turn 2 ∷ Turn 3 ∷ Turn 4 ∷ Pass 236 ∷ Turn 2 ∷ Pass 11 ∷ Turn 0 ∷ Turn 1 ∷ Turn 3 ∷ Turn 4 ∷
    Pass 22 ∷ Queue 0 long_high ∷ Queue 1 long_low ∷ Pass 10 ∷ Turn 0 ∷ Turn 1 ∷ Turn 3 ∷ Turn 4 ∷ Pass 256 ∷ Turn 0 ∷ Turn 1 ∷ Pass 11 ∷
    Turn 0 ∷ Turn 1 ∷ Turn 2 ∷ Turn 3 ∷ Turn 4 ∷ Pass 33 ∷ Stop 2 ∷ Pass 1200 ∷ Queue 1 long_high ∷ Pass 1561 ∷ Pass 10 ∷ Turn 0 ∷ Turn 1 ∷
    Turn 3 ∷ Turn 4 ∷ Pass 236 ∷ Turn 0 ∷ Damage 1 0 (Some 0) ∷ Pass 11 ∷ Turn 1 ∷ Turn 3 ∷ Turn 4 ∷ Pass 2794 ∷ Pass 10 ∷ Turn 1 ∷ Turn 3 ∷
    Turn 4 ∷ Pass 31 ∷ Turn 4 ∷ Damage 1 4 (Some 0) ∷ Pass 11 ∷ Turn 0 ∷ Turn 1 ∷ Turn 3 ∷ Pass 2794 ∷ Pass 10 ∷ Turn 0 ∷ Turn 1 ∷ Turn 3 ∷
    Pass 132 ∷ Stop 0 ∷ Pass 124 ∷ Turn 1 ∷ Pass 11 ∷ Turn 3 ∷ Turn 4 ∷ Pass 2794 ∷ Pass 10 ∷ Turn 3 ∷ Turn 4 ∷ Pass 31 ∷ Turn 4 ∷ Pass 11 ∷
    Turn 1 ∷ Turn 3 ∷ Pass 2794 ∷ Pass 10 ∷ Turn 1 ∷ Turn 3 ∷ Pass 256 ∷ Turn 1 ∷ Pass 11 ∷ Turn 3 ∷ Turn 4 ∷ Pass 2794 ∷ Pass 10 ∷ Turn 3 ∷
    Turn 4 ∷ Pass 31 ∷ Turn 4 ∷ Damage 1 4 (Some 0) ∷ Pass 11 ∷ Turn 1 ∷ Turn 3 ∷ Pass 2794 ∷ Pass 10 ∷ Turn 1 ∷ Turn 3 ∷ Pass 256 ∷
    Turn 1 ∷ Pass 11 ∷ Turn 3 ∷ Turn 4 ∷ Pass 2794 ∷ Pass 10 ∷ Turn 3 ∷ Turn 4 ∷ Pass 31 ∷ Turn 4 ∷ Pass 11 ∷ Turn 1 ∷ Turn 3 ∷ Pass 2794 ∷
    Pass 1 ∷ Stop 1 ∷ Pass 9 ∷ Turn 3 ∷ Pass 3020 ∷ []

-- The request of the first is lost at the second, which claims the token. Then both hold it, and the first lengthens
-- the cycle of the second, as with namesakes.
abbrev pub two_hold : List TapSpec
two_hold = master 1 ∷ master 0 ∷ master 2 ∷ long_replier ∷ []

abbrev pub request_is_lost : List Event
request_is_lost =
    Start 0 ∷ Start 3 ∷ Queue 0 long_high ∷ Pass 2400 ∷ Turn 0 ∷ Pass 11 ∷ Turn 3 ∷ Pass 22 ∷ Pass 10 ∷ Turn 3 ∷ Pass 226 ∷ Turn 0 ∷
    Pass 11 ∷ Turn 3 ∷ Pass 22 ∷ Pass 10 ∷ Turn 3 ∷ Pass 8 ∷ Start 1 ∷ Start 2 ∷ Pass 218 ∷ Turn 0 ∷ Unheard 1 0 ∷ Pass 11 ∷ Turn 2 ∷
    Turn 3 ∷ Pass 1571 ∷ Turn 1 ∷ Pass 11 ∷ Turn 0 ∷ Pass 22 ∷ Pass 10 ∷ Turn 0 ∷ Pass 226 ∷ Turn 1 ∷ Pass 11 ∷ Turn 0 ∷ Queue 1 long_low ∷
    Pass 22 ∷ Pass 10 ∷ Turn 0 ∷ Pass 246 ∷ Turn 1 ∷ Pass 11 ∷ Turn 0 ∷ Pass 654 ∷ Pass 10 ∷ Pass 247 ∷ Queue 1 long_high ∷ Pass 1883 ∷
    Pass 10 ∷ Turn 0 ∷ Turn 2 ∷ Turn 3 ∷ Pass 236 ∷ Turn 0 ∷ Damage 1 0 (Some 0) ∷ Pass 11 ∷ Turn 1 ∷ Turn 2 ∷ Turn 3 ∷ Pass 2794 ∷
    Pass 10 ∷ Turn 1 ∷ Turn 2 ∷ Turn 3 ∷ Pass 31 ∷ Turn 3 ∷ Damage 1 3 (Some 0) ∷ Pass 11 ∷ Turn 0 ∷ Turn 1 ∷ Turn 2 ∷ Pass 2794 ∷ Pass 10 ∷
    Turn 0 ∷ Turn 1 ∷ Turn 2 ∷ Pass 110 ∷ Stop 0 ∷ Pass 146 ∷ Turn 1 ∷ Pass 11 ∷ Turn 2 ∷ Turn 3 ∷ Pass 2794 ∷ Pass 10 ∷ Turn 2 ∷ Turn 3 ∷
    Pass 31 ∷ Turn 3 ∷ Pass 11 ∷ Turn 1 ∷ Turn 2 ∷ Pass 2794 ∷ Pass 10 ∷ Turn 1 ∷ Turn 2 ∷ Pass 256 ∷ Turn 1 ∷ Pass 11 ∷ Turn 2 ∷ Turn 3 ∷
    Pass 2794 ∷ Pass 10 ∷ Turn 2 ∷ Turn 3 ∷ Pass 31 ∷ Turn 3 ∷ Damage 1 3 (Some 0) ∷ Pass 11 ∷ Turn 1 ∷ Turn 2 ∷ Pass 2794 ∷ Pass 10 ∷
    Turn 1 ∷ Turn 2 ∷ Pass 256 ∷ Turn 1 ∷ Pass 11 ∷ Turn 2 ∷ Turn 3 ∷ Pass 2794 ∷ Pass 10 ∷ Turn 2 ∷ Turn 3 ∷ Pass 31 ∷ Turn 3 ∷ Pass 11 ∷
    Turn 1 ∷ Turn 2 ∷ Pass 2794 ∷ Stop 1 ∷ Pass 10 ∷ Turn 2 ∷ Pass 3020 ∷ []
