use Rattle.std.proofs.Common.{arith}
use Rattle.pb_segment.proofs.Placed.{length_in}
use Rattle.pb_segment.proofs.blocks.Blocks.len.Goals as goal

pub returns : goal.returns
returns c = let b = c.args.self.now in let all = length_in b.full.items b.last.items in omega (arith, all, c.len.ensures, c.len-2.ensures)
