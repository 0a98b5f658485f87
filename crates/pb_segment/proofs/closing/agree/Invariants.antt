use Rattle.std.proofs.Common.{drop}
use Rattle.pb_segment.specs.Blocks.{happened_in}
use Rattle.pb_segment.specs.Histories.{StandInOrder, is_of}
use Rattle.pb_segment.proofs.closing.agree.Given as goal

abbrev pub invariant-loop-next : goal.invariant-loop-next
invariant-loop-next l = (StandInOrder (is_of l.owner) (happened_in l.history) l.from (drop l.next l.receipts.items) → StandInOrder (is_of l.owner) (happened_in l.history) 0 l.receipts.items)
    × (StandInOrder (is_of l.owner) (happened_in l.history) 0 l.receipts.items → StandInOrder (is_of l.owner) (happened_in l.history) l.from (drop l.next l.receipts.items))
