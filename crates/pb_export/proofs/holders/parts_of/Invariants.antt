-- The parts so far, and what follows; and the entries that are over around the last token or request.
use Rattle.std.proofs.Common.{◌≡◌, ◌≤◌, ◌++◌, map, drop}
use Rattle.std.specs.Prelude.{take}
use Rattle.std.specs.Option.{option_map}
use Rattle.law_runs.specs.Judging.{StandsFrom}
use Rattle.pb_medium.specs.Entries.{entry_of}
use Rattle.pb_world.specs.Traces.{lent_record}
use Rattle.pb_export.specs.Holders.{parts_from, parts_of}
use Rattle.pb_export.proofs.Around.{GoneBefore, begin_of}
use Rattle.pb_export.proofs.holders.parts_of.Given as goal

abbrev pub invariant-loop-place : goal.invariant-loop-place
invariant-loop-place l =
    (l.parts.items ++ parts_from l.scenario (map entry_of l.entries) (option_map lent_record l.last) l.until (drop l.place (map entry_of l.entries))
    ≡ parts_of l.scenario (map entry_of l.entries) l.until)
    × (l.first ≤ l.place)
    × StandsFrom (begin_of (option_map lent_record l.last)) (drop l.place (map entry_of l.entries))
    × GoneBefore l.scenario.scenario.params.ttd (option_map lent_record l.last) (take l.first (map entry_of l.entries))
