use Rattle.std.proofs.Common.{◌≡◌, map}
use Rattle.std.specs.List.{flat_map}
use Rattle.pb_texts.proofs.tails.last_lines.Given as goal

abbrev pub invariant-loop-line : goal.invariant-loop-line
invariant-loop-line l = l.last.items ≡ flat_map (λ line. line) (map (λ line. line.now.now) l.yielded)
