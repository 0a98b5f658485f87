use Rattle.std.proofs.Common.{◌≡◌, ◌≤◌, ◌-◌, drop, length}
use Rattle.pb_decode.specs.Characters.{digits_of}
use Rattle.pb_decode.proofs.characters.next_digit.Given as goal

abbrev pub invariant-loop-place : goal.invariant-loop-place
invariant-loop-place l = record {
  same : digits_of (drop l.fn.place l.line) ≡ digits_of (drop l.place l.line);
  behind : l.fn.place ≤ l.place;
  within : l.place ≤ length l.line;
}

abbrev pub decreases-loop-place : goal.decreases-loop-place
decreases-loop-place l = length l.line - l.place
