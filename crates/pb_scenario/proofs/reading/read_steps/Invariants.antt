-- What the steps so far say is read.
use Rattle.std.proofs.Common.{take}
use Rattle.pb_scenario.specs.Steps.{steps_of}
use Rattle.pb_scenario.specs.Said.{said_by}
use Rattle.pb_scenario.specs.Reading.{Reads}
use Rattle.pb_scenario.proofs.reading.read_steps.Given as goal

abbrev pub invariant-loop-step : goal.invariant-loop-step
invariant-loop-step g l = Reads (g.R.Report.events l.report) l.place (said_by l.when (steps_of (take l.step-index l.steps))) l.at
