use Rattle.std.proofs.Common.{◌≡◌, map, drop, None}
use Rattle.std.specs.Option.{option_map}
use Rattle.law_runs.specs.Initiators.{last_from}
use Rattle.pb_medium.specs.Entries.{entry_of}
use Rattle.pb_world.specs.Traces.{lent_record}
use Rattle.pb_world.proofs.traces.last_initiator.Given as goal

-- what is left goes on behind the last record so far
abbrev pub invariant-loop-entry : goal.invariant-loop-entry
invariant-loop-entry l =
    last_from None l.now (map entry_of l.trace) ≡ last_from (option_map lent_record l.last) l.now (map entry_of (drop l.entry-index l.trace))
