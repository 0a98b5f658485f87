use Rattle.std.proofs.Common.{rules, arith, ◌≡◌, ◌<◌, ◌+◌, length}
use Rattle.pb_segment.proofs.Placed.{length_in}
use Rattle.pb_segment.specs.Blocks.{happened_in}
use Rattle.pb_segment.proofs.blocks.Blocks.add_room.Goals as goal

pub invariant_of-self-2-clause-few : goal.invariant_of-self-2-clause-few
invariant_of-self-2-clause-few c =
    let b = c.args.self.now in
    let all = length_in b.full.items b.last.items in
    let some : length (happened_in b) < 1000000 = c.requires in
    let last : length b.last.items ≡ 1024 = search rules in
    let grown : length c.push_reserved.new.self.items ≡ length b.full.items + 1 = search rules in
    omega (arith, all, some, last, grown)
