use Rattle.std.proofs.Common.{◌≡◌, map, length, take}
use Rattle.pbfdl.specs.Calls.{character_of}
use Rattle.pbfdl.proofs.receivers.characters_of.Given as goal

abbrev pub invariant-loop-word : goal.invariant-loop-word
invariant-loop-word l = record {
  items : l.characters.items ≡ map character_of (take l.word-index l.words);
  count : length l.characters.items ≡ l.word-index;
}
