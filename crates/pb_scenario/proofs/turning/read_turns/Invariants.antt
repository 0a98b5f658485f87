-- The turns so far are read, of taps that wanted one.
use Rattle.pb_scenario.specs.Reading.{ReadsTurns}
use Rattle.pb_scenario.proofs.turning.read_turns.Given as goal

abbrev pub invariant-loop : goal.invariant-loop
invariant-loop g l = ReadsTurns (g.R.Report.events l.report) l.place l.fn.want.items l.want.items l.at
