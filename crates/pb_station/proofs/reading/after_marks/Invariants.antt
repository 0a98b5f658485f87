use Rattle.std.proofs.Common.{◌≡◌, map}
use Rattle.std.specs.Prelude.{drop}
use Rattle.pb_cycles.specs.Queued.{Queued}
use Rattle.law_turn.specs.Turns.{after_marks}
use Rattle.pb_tokenfsm.specs.Phases.{phase_of}
use Rattle.pb_transitions.specs.Cores.{station_with}
use Rattle.pb_station.specs.MarkViews.{mark_of}
use Rattle.pb_station.proofs.reading.after_marks.Given as goal

-- the marks that are left make the same of the station as all of them
abbrev pub invariant-loop-mark : goal.invariant-loop-mark
invariant-loop-mark l =
    (queue : Queued) → after_marks l.params (station_with l.kept queue (phase_of l.phase)) (drop l.mark-index (map mark_of l.marks))
    ≡ after_marks l.params (station_with l.fn.kept queue (phase_of l.fn.phase)) (map mark_of l.marks)
