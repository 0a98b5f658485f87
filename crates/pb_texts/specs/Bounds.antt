-- The numbers of what is proved of a bus, by its parameters and its masters. All in bit times.
use Rattle.std.specs.Prelude.{ℕ, ◌+◌, ◌-◌, ◌*◌, Bool, if◌then◌else◌, ◌==◌, nat_lt, nat_le, min, List, count_by, Option}
use Rattle.pb_timers.specs.Timers.{Params, bits, tto}
use Rattle.pb_faults.specs.FirstFault.{first_fault}
use Rattle.law_model.specs.Medium.{TapSpec}
use Rattle.law_model.specs.World.{NewFault, new_faults}
use Rattle.law_rings.specs.Rotation.{rotation_time}
use Rattle.pb_scenario.specs.Scenarios.{ScenarioView}

-- how long a running master that is not offline is left in silence at most, each telegram taken when it is sent: its time-out, the lag and the cable delay
abbrev pub silence_bound : Params → ℕ → ℕ
silence_bound p address = tto p address + p.lag + p.ttd

-- what is left of the slot after some wait, the lag, and the way there and back
abbrev pub margin_of : Params → (wait : ℕ) → ℕ
margin_of p wait = p.tsl - (wait + p.lag + 2 * p.ttd)

-- how long before its slot ends a token is taken, and a reply begins, where the station does so as late as it may
abbrev pub take_margin : Params → ℕ
take_margin p = margin_of p p.tid2

abbrev pub reply_margin : Params → ℕ
reply_margin p = margin_of p p.tsdr

-- how much later turns might be
abbrev pub lag_margin : Params → ℕ
lag_margin p = min (take_margin p) (reply_margin p) - 1

-- ---- the ring

abbrev pub is_master : TapSpec → Bool
is_master spec = spec.master

abbrev pub masters_of : List TapSpec → ℕ
masters_of specs = count_by is_master specs

-- how much longer than the target rotation time a station of a settled ring of some masters waits for the token at most
abbrev pub beyond_ttr : Params → ℕ → ℕ
beyond_ttr p masters = rotation_time p masters - p.ttr

-- how long a master has the token that only passes it on: the idle time, the token of three octets, and the cable delay
abbrev pub shortest_hold : Params → ℕ
shortest_hold p = p.tid1 + bits 3 + p.ttd

-- the shortest rotation of some masters; a token of a master to itself takes no cable delay
abbrev pub shortest_rotation : Params → ℕ → ℕ
shortest_rotation p masters = if masters == 1 then p.tid1 + bits 3 else masters * shortest_hold p

-- The shortest rotation and the idle time behind the receipt.
abbrev pub shortest_asking : Params → ℕ → ℕ
shortest_asking p masters = shortest_rotation p masters + p.tid1

-- No holding time is left for a GAP request, once a rotation has been measured: the shortest one and the idle time behind the receipt take the target rotation time.
abbrev pub never_asks : Params → ℕ → Bool
never_asks p masters = nat_le p.ttr (shortest_asking p masters)

-- how many addresses have no master
abbrev pub free_addresses : Params → ℕ → ℕ
free_addresses p masters = p.hsa + 1 - masters

-- the shortest GAP round of all of them, one a rotation
abbrev pub shortest_round : Params → ℕ → ℕ
shortest_round p masters = free_addresses p masters * shortest_rotation p masters

-- That round takes longer than it is to be until the next.
abbrev pub is_round_long : Params → ℕ → Bool
is_round_long p masters = nat_lt (p.gap * p.ttr) (shortest_round p masters)

-- ---- the world

-- why there is no world of a scenario's taps, if there is none
abbrev pub world_fault : ScenarioView → Option NewFault
world_fault s = first_fault (new_faults s.scenario.params s.scenario.taps)
