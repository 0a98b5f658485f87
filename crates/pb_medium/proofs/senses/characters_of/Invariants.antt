use Rattle.std.proofs.Common.{◌≡◌, map, length, drop, ◌++◌}
use Rattle.law_model.specs.Trace.{characters_from}
use Rattle.pb_medium.specs.Entries.{hit_of}
use Rattle.pb_medium.proofs.senses.characters_of.Given as goal

abbrev pub invariant-loop-place : goal.invariant-loop-place
invariant-loop-place l = record {
  count : length l.chars.items ≡ l.place;
  so_far : l.chars.items ++ characters_from l.position (map hit_of l.telegram.hits.items) l.place (drop l.place l.octets)
      ≡ characters_from l.position (map hit_of l.telegram.hits.items) 0 l.octets;
}
