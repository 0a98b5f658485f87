-- An outlook as the plain data of runs.
use Rattle.law_runs.specs.Laws as runs
use Rattle.pb_scenario.specs.declared.reports.Look.{Look}

abbrev pub look_of : Look → runs.Look
look_of l = record { place = l.place; dues = l.dues.now; change = l.change }
