-- The octets so far, and what follows.
use Rattle.std.proofs.Common.{◌≡◌, ◌++◌, drop, length}
use Rattle.pb_export.specs.Bursts.{known_octets}
use Rattle.pb_export.proofs.bursts.known_octets.Given as goal

abbrev pub invariant-loop-char : goal.invariant-loop-char
invariant-loop-char l =
    (l.octets.items ++ known_octets (drop l.char-index l.chars) ≡ known_octets l.chars) × (length l.octets.items ≡ l.char-index)
