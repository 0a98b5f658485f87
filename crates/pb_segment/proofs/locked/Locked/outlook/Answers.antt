use Rattle.std.proofs.Common.{rules, ◌≡◌, ◌++◌, ◌∷◌, []}
use Rattle.pb_segment.specs.Blocks.{happened_in}
use Rattle.pb_segment.specs.Locked.{view_of}
use Rattle.pb_segment.proofs.Replaying.{kept_look}
use Rattle.pb_segment.proofs.locked.Locked.outlook.Goals as goal

pub invariant_of-self-2 : goal.invariant_of-self-2
invariant_of-self-2 g c =
    let i = c.self.inside in
    let l = view_of i.world i.origin (happened_in i.history) i.turns.items i.drives i.outlooks.items i.limit in
    let o = c.in_ok-kept.kept in
    let grown : c.push_reserved.new.self.items ≡ i.outlooks.items ++ o ∷ [] = search rules in (
      rw grown (kept_look l o c.self.invariant.0 (search rules) (rw c.in_ok-kept.ensures c.in_ok-shown.ensures.shows)),
      c.self.invariant.1,
      c.self.invariant.2,
    )
