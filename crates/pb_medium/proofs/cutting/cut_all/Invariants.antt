-- The entries before the place are cut.
use Rattle.std.proofs.Common.{◌≡◌, ◌++◌, map, take, drop}
use Rattle.law_model.specs.Trace.{cut_at}
use Rattle.pb_medium.specs.Entries.{entry_of}
use Rattle.pb_medium.proofs.cutting.cut_all.Given as goal

abbrev pub invariant-loop-entry : goal.invariant-loop-entry
invariant-loop-entry l =
    map entry_of l.entries
    ≡ take l.entry-index (map (cut_at l.now l.tap) (map entry_of l.initial.entries)) ++ drop l.entry-index (map entry_of l.initial.entries)
