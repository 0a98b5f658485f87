use Rattle.std.proofs.Common.{◌≡◌, ◌+◌, map, drop}
use Rattle.pb_medium.specs.Entries.{entry_of}
use Rattle.pb_medium.specs.Traces.{place_of}
use Rattle.pb_medium.proofs.placing.place_among.Given as goal

-- the entry goes before none of those passed over
abbrev pub invariant-loop-place : goal.invariant-loop-place
invariant-loop-place l = place_of (entry_of l.entry) (map entry_of l.others) ≡ l.place + place_of (entry_of l.entry) (drop l.place (map entry_of l.others))
