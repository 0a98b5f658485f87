-- What was appended so far, and what follows.
use Rattle.std.proofs.Common.{◌≡◌, ◌++◌, map, drop}
use Rattle.pb_medium.specs.Entries.{entry_of}
use Rattle.pb_export.specs.Windows.{shown_in}
use Rattle.pb_export.specs.Pcap.{entry_packet}
use Rattle.pb_export.proofs.pcap.push_entries.Given as goal

abbrev pub invariant-loop-entry : goal.invariant-loop-entry
invariant-loop-entry l =
    l.file.items ++ shown_in l.window (entry_packet l.baud) (map entry_of (drop l.entry-index l.entries)) ≡ l.initial.file.items ++ shown_in l.window (entry_packet l.baud) (map entry_of l.entries)
