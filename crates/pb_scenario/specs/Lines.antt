-- The line of an entry and of a telegram, in the text of a scenario's trace.
use Rattle.std.specs.Prelude.{ℕ, List}
use Rattle.pb_medium.specs.declared.entries.Entry.{Entry}
use Rattle.pb_medium.specs.declared.entries.Record.{Record}
use Rattle.pb_medium.specs.Entries.{entry_of, record_of}
use Rattle.pb_scenario.specs.Scenarios.{ScenarioView}
use Rattle.pb_scenario.specs.Texts.{entry_text, record_text}

abbrev pub line_of : ScenarioView → Entry → List ℕ
line_of s entry = entry_text s.names (entry_of entry)

abbrev pub record_line : ScenarioView → Record → List ℕ
record_line s r = record_text s.names (record_of r)
