-- The message cycles of a station as the plain data of a turn.
use Rattle.std.specs.Prelude.{◌≡◌}
use Rattle.pb_cycles.specs.Queued.{Queued}
use Rattle.law_turn.specs.Stations as turn
use Rattle.pb_transitions.specs.declared.cycles.Cycles.{Cycles}

-- with the requests that wait
abbrev pub cycles_of : Cycles → Queued → turn.Cycles
cycles_of c queue = record { queue = queue; initiator = c.initiator; responder = c.responder; last_outcome = c.last_outcome }

-- how message cycles change, whatever requests wait
abbrev pub CyclesBecome : (turn.Cycles → turn.Cycles) → Cycles → Cycles → Type 0
CyclesBecome change before after = (queue : Queued) → cycles_of after queue ≡ change (cycles_of before queue)
