-- What was appended so far, and what follows.
use Rattle.std.proofs.Common.{◌≡◌, ◌++◌}
use Rattle.pb_scenario.specs.Steps.{deed_of}
use Rattle.pb_export.specs.Marks.{IsSteadySeries, happenings_of, marks_text}
use Rattle.pb_export.proofs.marks.push_series.Given as goal

abbrev pub invariant-loop-left : goal.invariant-loop-left
invariant-loop-left l = record {
  text : l.text.items ++ marks_text l.scenario l.sheet l.lanes (happenings_of l.left (deed_of l.deed))
      ≡ l.initial.text.items ++ marks_text l.scenario l.sheet l.lanes (happenings_of l.fn.series (deed_of l.deed));
  steady : IsSteadySeries l.left;
}

abbrev pub decreases-loop-left : goal.decreases-loop-left
decreases-loop-left l = l.left.count
