-- What the code keeps of a file, as plain data.
use Rattle.std.specs.Prelude.{List, map, string_bytes}
use Rattle.toml.specs.Data.{Members}
use Rattle.toml.specs.View.{table_view}
use Rattle.pb_taps.specs.Taps.{spec_of}
use Rattle.pb_scenario.specs.declared.fields.Fields.{Fields}
use Rattle.pb_scenario.specs.declared.taps.NamedTap as code
use Rattle.pb_scenario.specs.declared.taps.Taps.{Taps}
use Rattle.pb_scenario.specs.Scenarios.{names_of}
use Rattle.pb_scenario.specs.Files.{NamedTap, named}

-- the members of a table
abbrev pub members : Fields → Members
members f = table_view f.table.now

abbrev pub tap_of : code.NamedTap → NamedTap
tap_of t = record { name = string_bytes t.name; spec = spec_of t.spec }

abbrev pub taps_of : Taps → List NamedTap
taps_of taps = named (names_of taps.names.keys) (map spec_of taps.specs.items)
