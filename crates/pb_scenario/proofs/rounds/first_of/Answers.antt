-- One round more is looked at.
use Rattle.std.proofs.Common.{◌∙◌, ◌+◌, ap, drop, sym}
use Rattle.law_turn.specs.Stations.{earlier}
use Rattle.pb_scenario.specs.Rounds.{rounds_of, series_of, soonest}
use Rattle.pb_scenario.proofs.Happenings.{earlier-assoc}
use Rattle.pb_scenario.proofs.Moves.{soonest-more}
use Rattle.pb_scenario.proofs.rounds.first_of.Goals as goal

pub loop-round-preserved : goal.loop-round-preserved
loop-round-preserved c =
    let rounds = c.args.rounds.now in
    let i = c.loop-round.round-index in
    let r = c.round-item.result in
    let rest = soonest (rounds_of (drop (i + 1) rounds)) in
    ap (λ o. earlier o rest) (c.earlier-first.ensures ∙ ap (earlier c.loop-round.first) c.next.ensures)
    ∙ sym (earlier-assoc c.loop-round.first (soonest (series_of r)) rest)
    ∙ ap (earlier c.loop-round.first) (sym (soonest-more series_of rounds i r c.loop-round-test.true c.round-item.is))
    ∙ c.loop-round.invariant
