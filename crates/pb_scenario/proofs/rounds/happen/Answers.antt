-- One round more has happened.
use Rattle.std.proofs.Common.{◌≡◌, ◌∙◌, ◌<◌, ◌++◌, ap, append_assoc, arith, drop, get_or, length, map, sym, subst, take}
use Rattle.std.proofs.lemmas.List.{length-set}
use Rattle.std.proofs.lemmas.List.Elements.{All-set}
use Rattle.pb_scenario.specs.Rounds.{AreAllFrom, IsSteadyRound, deeds_at, rounds_of, series_of}
use Rattle.pb_scenario.specs.Steps.{deed_of}
use Rattle.pb_scenario.proofs.Moves.{done-more, from-one, left-more, moved-more, there-too}
use Rattle.pb_scenario.proofs.rounds.happen.Goals as goal

pub happen_once-requires-clause-from : goal.happen_once-requires-clause-from
happen_once-requires-clause-from c =
    let l = c.loop-place in
    let old = c.args.rounds.now in
    let x = c.index-rounds-place.result in
    let is = there-too old l.rounds l.place x l.invariant.count l.invariant.left (omega (arith, c.loop-place-test.true, l.invariant.count)) c.index-rounds-place.is in
    from-one series_of c.args.at old l.place x c.loop-place-test.true is c.requires.from

pub loop-place-preserved : goal.loop-place-preserved
loop-place-preserved c =
    let l = c.loop-place in
    let old = c.args.rounds.now in
    let i = l.place in
    let x = c.index-rounds-place.result in
    let y = c.happen_once.result in
    let less : i < length old = c.loop-place-test.true in
    let there : i < length l.rounds = omega (arith, less, l.invariant.count) in
    let is = there-too old l.rounds i x l.invariant.count l.invariant.left there c.index-rounds-place.is in
    record {
      moved = moved-more series_of c.args.at old l.rounds i x y less is there l.invariant.moved c.happen_once.ensures.left;
      left = left-more old l.rounds i y there l.invariant.left;
      today = c.happen_once.ensures.today ∙ ap (λ ds. ds ++ deeds_at c.args.at (series_of x)) l.invariant.today
          ∙ append_assoc (map (λ d. deed_of d.now) c.args.today.now.items) (deeds_at c.args.at (rounds_of (take i old))) (deeds_at c.args.at (series_of x))
          ∙ ap (λ ds. map (λ d. deed_of d.now) c.args.today.now.items ++ ds) (done-more series_of c.args.at old i x less is);
      steady = All-set IsSteadyRound l.rounds i y c.happen_once.ensures.steady l.invariant.steady;
      count = length-set l.rounds i y ∙ l.invariant.count;
      room = c.happen_once.ensures.room ∙ l.invariant.room;
      more = omega (arith, c.happen_once.ensures.more, l.invariant.more);
    }
