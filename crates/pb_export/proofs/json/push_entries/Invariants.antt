-- What was appended so far, and what follows.
use Rattle.std.proofs.Common.{◌≡◌, ◌++◌, map, drop}
use Rattle.pb_medium.specs.Entries.{entry_of}
use Rattle.pb_export.specs.Windows.{shown_in}
use Rattle.pb_export.specs.Json.{entry_line}
use Rattle.pb_export.proofs.json.push_entries.Given as goal

abbrev pub invariant-loop-entry : goal.invariant-loop-entry
invariant-loop-entry l =
    l.text.items ++ shown_in l.window (entry_line l.scenario) (map entry_of (drop l.entry-index l.entries)) ≡ l.initial.text.items ++ shown_in l.window (entry_line l.scenario) (map entry_of l.entries)
