use Rattle.std.proofs.Common.{◌≡◌, map}
use Rattle.std.specs.List.{flat_map, list_any}
use Rattle.pb_decode.specs.Characters.{characters_of}
use Rattle.pb_decode.specs.Decoding.{line_text, is_refused}
use Rattle.pb_decode.proofs.lines.decode.Given as goal

abbrev pub invariant-loop-line : goal.invariant-loop-line
invariant-loop-line l = record {
  text : l.text.items ≡ flat_map line_text (map (λ line. line.now) l.yielded);
  refused : l.is_refused ≡ list_any (λ line. is_refused (characters_of line)) (map (λ line. line.now) l.yielded);
}
