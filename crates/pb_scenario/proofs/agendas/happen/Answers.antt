-- One block more has happened.
use Rattle.std.proofs.Common.{◌≡◌, ◌∙◌, ◌<◌, ◌++◌, ap, append_assoc, arith, get_or, length, map, take}
use Rattle.std.proofs.lemmas.List.{get_or_default, length-set}
use Rattle.std.proofs.lemmas.List.Elements.{All-set}
use Rattle.pb_scenario.specs.Rounds.{IsBlock, block_of, blocks_of, count_of, deeds_at}
use Rattle.pb_scenario.specs.Steps.{deed_of}
use Rattle.pb_scenario.proofs.Moves.{count-drop, count-set, done-more, from-one, left-more, moved-more, there-too}
use Rattle.pb_scenario.proofs.agendas.happen.Goals as goal

pub happen-requires-clause-from : goal.happen-requires-clause-from
happen-requires-clause-from c =
    let l = c.loop-place in
    let old = c.args.blocks.now in
    let there : l.place < length l.blocks = omega (arith, c.loop-place-test.true, l.invariant.length) in
    let x = get_or l.blocks l.place c.index-blocks-place.result in
    let is = there-too old l.blocks l.place x l.invariant.length l.invariant.left there (get_or_default l.blocks l.place c.index-blocks-place.result x there) in
    from-one block_of c.args.at old l.place x c.loop-place-test.true is c.requires.from

pub loop-place-preserved : goal.loop-place-preserved
loop-place-preserved c =
    let l = c.loop-place in
    let old = c.args.blocks.now in
    let i = l.place in
    let y = c.happen.new.self in
    let less : i < length old = c.loop-place-test.true in
    let there : i < length l.blocks = omega (arith, less, l.invariant.length) in
    let x = get_or l.blocks i c.index-blocks-place.result in
    let now = get_or_default l.blocks i c.index-blocks-place.result x there in
    let is = there-too old l.blocks i x l.invariant.length l.invariant.left there now in
    let rest = left-more old l.blocks i y there l.invariant.left in
    record {
      moved = moved-more block_of c.args.at old l.blocks i x y less is there l.invariant.moved c.happen.ensures.left;
      left = rest;
      today = c.happen.ensures.today ∙ ap (λ ds. ds ++ deeds_at c.args.at (block_of x)) l.invariant.today
          ∙ append_assoc (map (λ d. deed_of d.now) c.args.today.now.items) (deeds_at c.args.at (blocks_of (take i old))) (deeds_at c.args.at (block_of x))
          ∙ ap (λ ds. map (λ d. deed_of d.now) c.args.today.now.items ++ ds) (done-more block_of c.args.at old i x less is);
      kept = All-set IsBlock l.blocks i y c.happen.ensures.kept l.invariant.kept;
      length = length-set l.blocks i y ∙ l.invariant.length;
      count = count-set l.blocks i x y there now c.happen.ensures.count ∙ l.invariant.count;
      room = c.happen.ensures.room ∙ l.invariant.room;
      more = omega (arith, c.happen.ensures.more, c.happen.ensures.room, l.invariant.more, count-drop old i x less is, ap count_of l.invariant.left, ap count_of rest);
    }
