-- The core of a station as the plain data of a turn.
use Rattle.std.specs.Prelude.{◌≡◌, Option, IsSome}
use Rattle.std.specs.Option.{option_map}
use Rattle.pb_rotation.specs.Rotation.{Receipt}
use Rattle.pb_cycles.specs.Queued.{Queued}
use Rattle.law_turn.specs.Phases as turn
use Rattle.law_turn.specs.Stations as turn_station
use Rattle.pb_tokenfsm.specs.Phases.{phase_of}
use Rattle.pb_transitions.specs.declared.cores.Core.{Core}
use Rattle.pb_transitions.specs.declared.cores.Kept.{Kept}
use Rattle.pb_transitions.specs.Cycles.{cycles_of}
use Rattle.pb_transitions.specs.Replies.{reply_of}

-- what a station keeps, with its waiting requests and a phase
abbrev pub station_with : Kept → Queued → turn.Phase → turn_station.Station
station_with k queue phase = record {
  address = k.address;
  phase = phase;
  busy = k.busy;
  quiet = k.past.quiet;
  own = record { begin = k.past.begin; end = k.past.end };
  reply = option_map reply_of k.reply;
  las = k.las;
  gap = k.gap;
  rotation = k.rotation;
  cycles = cycles_of k.cycles queue;
}

abbrev pub station_of : Core → turn_station.Station
station_of c = station_with c.kept c.waiting (phase_of c.phase)

-- how a station changes, whatever requests wait: what it keeps and its phase, before and after
abbrev pub Becomes : (turn_station.Station → turn_station.Station) → Kept → turn.Phase → Kept → turn.Phase → Type 0
Becomes change before phase after next = (queue : Queued) → station_with after queue next ≡ change (station_with before queue phase)

-- a phase that uses the token has received it
abbrev pub has_received : turn.Phase → Option Receipt → Type 0
has_received (turn.Use asked ready) last = IsSome last
has_received (turn.AwaitData asked retry slot) last = IsSome last
has_received (turn.AwaitStatus of slot) last = IsSome last
has_received turn.Offline last = Unit {0}
has_received turn.PassiveIdle last = Unit {0}
has_received (turn.Listening doubled) last = Unit {0}
has_received (turn.Idle refused) last = Unit {0}
has_received (turn.Claim sent ready) last = Unit {0}
has_received (turn.Pass tries ready) last = Unit {0}
has_received (turn.Checking tries) last = Unit {0}

abbrev pub HasReceived : turn_station.Station → Type 0
HasReceived s = has_received s.phase s.rotation.last
