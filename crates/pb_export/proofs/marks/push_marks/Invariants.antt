-- What was appended so far, and what follows.
use Rattle.std.proofs.Common.{◌≡◌, ◌++◌, drop}
use Rattle.pb_scenario.specs.Repeats.{happenings_from}
use Rattle.pb_scenario.specs.Steps.{steps_of}
use Rattle.pb_export.specs.Marks.{happenings_in, marks_text}
use Rattle.pb_export.proofs.marks.push_marks.Given as goal

abbrev pub invariant-loop-place : goal.invariant-loop-place
invariant-loop-place l =
    l.text.items ++ marks_text l.scenario l.sheet l.lanes (happenings_from l.steps.until l.steps.repeats.now l.place (steps_of (drop l.place l.steps.once.now)))
    ≡ l.initial.text.items ++ marks_text l.scenario l.sheet l.lanes (happenings_in l.steps)
