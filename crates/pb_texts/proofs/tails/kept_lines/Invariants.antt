use Rattle.std.proofs.Common.{◌≡◌, ◌≤◌, ◌++◌, length, map}
use Rattle.bstr.specs.Text.{lines_of}
use Rattle.pb_texts.proofs.tails.kept_lines.Given as goal

abbrev pub invariant-loop-before : goal.invariant-loop-before
invariant-loop-before l = record {
  lines : lines_of l.fn.text ≡ l.before ++ map (λ line. line.now) l.kept.items;
  capacity : l.kept.capacity ≡ l.fn.lines;
  room : length l.kept.items ≤ l.fn.lines;
}

abbrev pub decreases-loop-before : goal.decreases-loop-before
decreases-loop-before l = length l.before
