-- What a station sends.
use Rattle.std.specs.Prelude.{◌≡◌, ℕ, List, Option, is_some, if◌then◌else◌}
use Rattle.pb_cycles.specs.Queued.{Queued}
use Rattle.pb_cycles.specs.RequestFields.{RequestFields}
use Rattle.law_turn.specs.Phases as phases
use Rattle.law_turn.specs.Stations as turn
use Rattle.pb_transitions.specs.Cores.{station_with}
use Rattle.pb_transitions.specs.declared.cores.Kept.{Kept}

-- a station with what it keeps and the requests that wait, in a phase, and what it sends
abbrev pub spoken_with : Kept → Queued → phases.Phase → Option (List ℕ) → turn.Station × Option (List ℕ)
spoken_with k queue phase sent = (station_with k queue phase, sent)

-- what a station sends, and how it changes, whatever requests wait
abbrev pub Says : (turn.Station → turn.Station × Option (List ℕ)) → Kept → phases.Phase → Kept → phases.Phase → Option (List ℕ) → Type 0
Says act before phase after next sent = (queue : Queued) → spoken_with after queue next sent ≡ act (station_with before queue phase)

-- a station that has taken a request, if there was one
abbrev pub after_taking : (turn.Station → turn.Station) → turn.Station → Option RequestFields → turn.Station
after_taking taken s request = if is_some request then taken s else s
