-- What was appended so far, and what follows.
use Rattle.std.proofs.Common.{◌≡◌, ◌++◌, map, drop}
use Rattle.pb_export.specs.Vcd.{underscored}
use Rattle.pb_export.proofs.waves.push_underscored.Given as goal

abbrev pub invariant-loop-byte : goal.invariant-loop-byte
invariant-loop-byte l =
    l.text.items ++ map underscored (drop l.byte-index l.bytes) ≡ l.initial.text.items ++ map underscored l.bytes
