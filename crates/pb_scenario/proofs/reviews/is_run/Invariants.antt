-- Where the rest of the history is a run, all of it is.
use Rattle.std.proofs.Common.{◌≤◌, ◌+◌, ◌-◌, length}
use Rattle.law_runs.specs.Bus.{bus}
use Rattle.law_runs.specs.Histories.{IsRun}
use Rattle.law_runs.specs.Laws.{Shows}
use Rattle.pb_scenario.specs.Walks.{plan_in}
use Rattle.pb_scenario.specs.Reading.{IsCut}
use Rattle.pb_scenario.proofs.reviews.is_run.Given as goal

abbrev pub invariant-loop-round : goal.invariant-loop-round
invariant-loop-round g l = record {
  whole : IsCut l.walk (g.R.Report.looks l.report) (g.R.Report.events l.report) (l.round-end - l.round) l.walk.clock l.place
      → IsRun (l.fn.walk.until + 1) bus (plan_in l.fn.walk) (Shows (g.R.Report.looks l.report)) 0 0 (g.R.Report.events l.report);
  inside : l.place ≤ length (g.R.Report.events l.report);
}
