-- What was appended so far, and what follows.
use Rattle.std.proofs.Common.{◌≡◌, ◌++◌, drop}
use Rattle.std.specs.List.{flat_map}
use Rattle.pb_export.specs.BurstJson.{char_hex}
use Rattle.pb_export.proofs.burst_json.push_chars.Given as goal

abbrev pub invariant-loop-char : goal.invariant-loop-char
invariant-loop-char l =
    l.text.items ++ flat_map char_hex (drop l.char-index l.chars) ≡ l.initial.text.items ++ flat_map char_hex l.chars
