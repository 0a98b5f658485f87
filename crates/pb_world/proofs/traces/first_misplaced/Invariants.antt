use Rattle.std.proofs.Common.{◌≡◌, map, drop, None}
use Rattle.std.specs.Option.{option_map}
use Rattle.pb_medium.specs.Entries.{entry_of}
use Rattle.pb_world.specs.Traces.{lent_entry, misplaced_from}
use Rattle.pb_world.proofs.traces.first_misplaced.Given as goal

-- what is left decides
abbrev pub invariant-loop-place : goal.invariant-loop-place
invariant-loop-place l =
    misplaced_from None 0 (map entry_of l.trace) ≡ misplaced_from (option_map lent_entry l.before) l.place (drop l.place (map entry_of l.trace))
