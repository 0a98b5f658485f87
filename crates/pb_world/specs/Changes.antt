-- When something changes on the bus next, with some entries.
use Rattle.std.specs.Prelude.{ℕ, ◌+◌, ◌&&◌, List, Option, Some, None, if◌then◌else◌}
use Rattle.std.specs.List.{list_any}
use Rattle.law_turn.specs.Stations.{earlier}
use Rattle.law_model.specs.Medium.{Tap}
use Rattle.law_model.specs.Trace.{Entry}
use Rattle.law_model.specs.World.{next_end_of}
use Rattle.law_runs.specs.Bus.{is_in_air, next_known, started_now}

-- an end, a begin that can be known, or the moment after a start during activity, whichever comes first
abbrev pub change_among : (delay now : ℕ) → List Entry → List Tap → Option ℕ
change_among delay now es ts =
    earlier (next_end_of delay now es) (earlier (next_known delay now es)
    (if list_any (started_now now) ts && list_any (is_in_air delay now) es then Some (now + 1) else None))
