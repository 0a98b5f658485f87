use Rattle.std.proofs.Common.{rules, ◌≡◌, ◌++◌, ◌∷◌, [], length, arith}
use Rattle.std.proofs.lemmas.Grind.{common_steps}
use Rattle.law_model.specs.World.{Turn}
use Rattle.pb_segment.specs.Blocks.{happened_in}
use Rattle.pb_segment.specs.Counts.{counted}
use Rattle.pb_segment.specs.Locked.{view_of}
use Rattle.pb_segment.proofs.Noting.{taken_push}
use Rattle.pb_segment.proofs.Replaying.{counted_length, counts_small, drives_small}
use Rattle.pb_segment.proofs.locked.Locked.take_turn.Goals as goal

pub count-requires-clause-turns : goal.count-requires-clause-turns
count-requires-clause-turns g c =
    let i = c.self.inside in
    counts_small (view_of i.world i.origin (happened_in i.history) i.turns.items i.drives i.outlooks.items i.limit) c.self.invariant.0 c.in_ok-make_room.ensures.room.inside

pub count-requires-clause-drives : goal.count-requires-clause-drives
count-requires-clause-drives g c =
    let i = c.self.inside in
    drives_small (view_of i.world i.origin (happened_in i.history) i.turns.items i.drives i.outlooks.items i.limit) c.self.invariant.0 c.in_ok-make_room.ensures.room.inside

pub invariant_of-self-2 : goal.invariant_of-self-2
invariant_of-self-2 g c =
    let i = c.self.inside in
    let l = view_of i.world i.origin (happened_in i.history) i.turns.items i.drives i.outlooks.items i.limit in
    let n = c.in_ok-note.note in
    let kept = taken_push l c.take_turn.new.world (Turn c.args.tap) _ n c.self.invariant.0 c.in_ok-make_room.ensures.room.inside c.in_ok-note.ensures.note c.in_ok-note.ensures.promises in
    let grown : happened_in c.keep.new.history ≡ happened_in i.history ++ n.happened ∷ [] = search rules in
    let same : length (counted i.turns.items n.happened.event) ≡ length i.turns.items = counted_length i.turns.items n.happened.event in (
      rw (grown, c.count.ensures.turns, c.count.ensures.drives) kept,
      rw grown (grind (arith, common_steps)),
      rw c.count.ensures.turns (omega (arith, same, c.self.invariant.2)),
    )
