use Rattle.std.proofs.Common.{◌≡◌, length, drop, ◌++◌, []}
use Rattle.law_model.specs.Trace.{characters_from}
use Rattle.pb_medium.proofs.senses.good_characters.Given as goal

abbrev pub invariant-loop-octet : goal.invariant-loop-octet
invariant-loop-octet l = record {
  count : length l.chars.items ≡ l.octet-index;
  so_far : l.chars.items ++ characters_from 0 [] l.octet-index (drop l.octet-index l.octets) ≡ characters_from 0 [] 0 l.octets;
}
