use Rattle.std.proofs.Common.{◌≤◌, ◌-◌, drop, length}
use Rattle.pb_decode.proofs.Pairs.{Fed}
use Rattle.pb_decode.proofs.characters.feed_characters.Given as goal

abbrev pub invariant-loop-high : goal.invariant-loop-high
invariant-loop-high l = record {
  so_far : Fed l.receiver l.line (drop l.place l.line);
  few : l.receiver.fed ≤ l.place;
  within : l.place ≤ length l.line;
}

abbrev pub decreases-loop-high : goal.decreases-loop-high
decreases-loop-high l = length l.line - l.place
