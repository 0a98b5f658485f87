use Rattle.std.proofs.Common.{rules, ◌≡◌, ◌++◌, ◌∷◌, [], length, arith, subst}
use Rattle.std.proofs.lemmas.Grind.{common_steps}
use Rattle.pb_taps.specs.Events.{event_of}
use Rattle.pb_segment.specs.Blocks.{happened_in}
use Rattle.pb_segment.specs.Counts.{counted}
use Rattle.law_model.specs.Step.{step}
use Rattle.pb_world.specs.Refusals.{fault_of}
use Rattle.pb_segment.specs.Locked.{LockedView, RefusesToKeep, view_of}
use Rattle.pb_segment.specs.Notes.{earlier_fault}
use Rattle.pb_segment.proofs.Noting.{noted_push, refused_first}
use Rattle.pb_segment.proofs.Replaying.{counted_length, counts_small, drives_small}
use Rattle.pb_segment.proofs.locked.Locked.keep_event.Goals as goal

pub count-requires-clause-turns : goal.count-requires-clause-turns
count-requires-clause-turns g c =
    let i = c.self.inside in
    counts_small (view_of i.world i.origin (happened_in i.history) i.turns.items i.drives i.outlooks.items i.limit) c.self.invariant.0 c.in-Ok.ensures.room.inside

pub count-requires-clause-drives : goal.count-requires-clause-drives
count-requires-clause-drives g c =
    let i = c.self.inside in
    drives_small (view_of i.world i.origin (happened_in i.history) i.turns.items i.drives i.outlooks.items i.limit) c.self.invariant.0 c.in-Ok.ensures.room.inside

pub invariant_of-self-2 : goal.invariant_of-self-2
invariant_of-self-2 g c =
    let i = c.self.inside in
    let l = view_of i.world i.origin (happened_in i.history) i.turns.items i.drives i.outlooks.items i.limit in
    let n = c.in-Ok.note in
    let kept = noted_push l c.apply.new.self (event_of c.args.event) _ n _ c.self.invariant.0 c.in-Ok.ensures.room.inside c.in-Ok.ensures.note c.in_ok-apply.ensures.follows c.in_ok-apply.ensures.promises in
    let grown : happened_in c.keep.new.history ≡ happened_in i.history ++ n.happened ∷ [] = search rules in
    let same : length (counted i.turns.items n.happened.event) ≡ length i.turns.items = counted_length i.turns.items n.happened.event in (
      rw (grown, c.count.ensures.turns, c.count.ensures.drives) kept,
      rw grown (grind (arith, common_steps)),
      rw c.count.ensures.turns (omega (arith, same, c.self.invariant.2)),
    )

pub returns-in-Err-clause-err : goal.returns-in-Err-clause-err
returns-in-Err-clause-err g c =
    let i = c.self.inside in
    let l = view_of i.world i.origin (happened_in i.history) i.turns.items i.drives i.outlooks.items i.limit in
    let event = event_of c.args.event in
    let fault = earlier_fault (fault_of (step i.world event)) c.in-Err.fault in
    rw c.refused.ensures (subst (λ (x : LockedView). RefusesToKeep x event fault) c.self.view_is (refused_first l event c.in-Err.fault c.in-Err.ensures.room.err))
