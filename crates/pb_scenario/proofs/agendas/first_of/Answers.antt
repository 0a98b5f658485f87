-- One block more is looked at.
use Rattle.std.proofs.Common.{◌∙◌, ◌+◌, ap, drop, sym, subst}
use Rattle.std.proofs.lemmas.List.Elements.{All-get_or}
use Rattle.law_turn.specs.Stations.{earlier}
use Rattle.pb_scenario.specs.Rounds.{IsBlock, block_of, blocks_of, soonest}
use Rattle.pb_scenario.proofs.Happenings.{earlier-assoc}
use Rattle.pb_scenario.proofs.Moves.{soonest-more}
use Rattle.pb_scenario.proofs.agendas.first_of.Goals as goal

pub loop-block-preserved : goal.loop-block-preserved
loop-block-preserved c =
    let blocks = c.args.blocks.now in
    let i = c.loop-block.block-index in
    let b = c.block-item.result in
    let rest = soonest (blocks_of (drop (i + 1) blocks)) in
    let kept : IsBlock b = subst IsBlock (sym c.block-item.is) (All-get_or IsBlock blocks i b c.loop-block-test.true c.requires) in
    ap (λ o. earlier o rest) (c.earlier-first.ensures ∙ ap (earlier c.loop-block.first) kept.next)
    ∙ sym (earlier-assoc c.loop-block.first (soonest (block_of b)) rest)
    ∙ ap (earlier c.loop-block.first) (sym (soonest-more block_of blocks i b c.loop-block-test.true c.block-item.is))
    ∙ c.loop-block.invariant
