-- The lines so far, and those that follow.
use Rattle.std.proofs.Common.{◌≡◌, ◌++◌, map, drop}
use Rattle.pb_medium.specs.Entries.{entry_of}
use Rattle.pb_scenario.specs.Texts.{entries_text}
use Rattle.pb_scenario.proofs.texts.push_trace.Given as goal

abbrev pub invariant-loop-entry : goal.invariant-loop-entry
invariant-loop-entry l =
    l.text.items ++ entries_text l.scenario.names (map entry_of (drop l.entry-index l.entries)) ≡ l.initial.text.items ++ entries_text l.scenario.names (map entry_of l.entries)
