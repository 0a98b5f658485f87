-- A world whose first entries were let go, and the one in which they still stand.
use Rattle.std.specs.Prelude.{ℕ, ◌+◌, ◌≤◌, List, ◌++◌, length, Result, Ok, Err}
use Rattle.law_model.specs.Trace.{Entry}
use Rattle.law_model.specs.World.{World, Reply, Fault}
use Rattle.law_model.specs.Laws.{AllOver, AllFrom}

-- a world with entries in front of its own, and with so much more room
abbrev pub behind : List Entry → World → World
behind old w = record w { trace = old ++ w.trace; limit = length old + w.limit }

abbrev pub all_behind : List Entry → Result (World × Reply) Fault → Result (World × Reply) Fault
all_behind old (Ok next) = Ok (behind old next.0, next.1)
all_behind old (Err fault) = Err fault

-- entries have ended at all taps by a moment that is not later than the clock, before all of the world reach the taps
abbrev pub IsPast : List Entry → World → Type 0
IsPast old w = (m : ℕ) × (m ≤ w.now) × AllOver w.params.ttd m old × AllFrom w.params.ttd m w.trace
