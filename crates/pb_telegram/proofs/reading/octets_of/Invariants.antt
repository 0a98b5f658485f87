use Rattle.std.proofs.Common.{◌≡◌, ◌+◌, ◌++◌, drop, length, map}
use Rattle.pb_telegram.specs.declared.chars.RxChar.TheVariants.{Good}
use Rattle.pb_telegram.proofs.reading.octets_of.Given as goal

abbrev pub invariant-loop-left : goal.invariant-loop-left
invariant-loop-left l = (l.chars ≡ map Good l.octets.items ++ l.left) × (length l.octets.items + length l.left ≡ length l.chars)

abbrev pub decreases-loop-left : goal.decreases-loop-left
decreases-loop-left l = length l.left

abbrev pub invariant-loop-char : goal.invariant-loop-char
invariant-loop-char l =
    (l.chars ≡ map Good l.octets.items ++ drop l.char-index l.char-items) × (length l.octets.items + length (drop l.char-index l.char-items) ≡ length l.chars)
