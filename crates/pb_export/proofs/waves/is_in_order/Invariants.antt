-- Where those that follow are in order, all are.
use Rattle.std.proofs.Common.{map, drop}
use Rattle.law_runs.specs.Judging.{StandsFrom}
use Rattle.pb_medium.specs.Entries.{entry_of}
use Rattle.pb_export.proofs.waves.is_in_order.Given as goal

abbrev pub invariant-loop-entry : goal.invariant-loop-entry
invariant-loop-entry l =
    StandsFrom l.from (map entry_of (drop l.entry-index l.entries)) → StandsFrom 0 (map entry_of l.entries)
