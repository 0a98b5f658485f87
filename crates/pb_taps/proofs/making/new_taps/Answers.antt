use Rattle.std.proofs.Common.{◌≡◌, ap, sym, subst, ◌∙◌, ◌++◌, ◌∷◌, [], ◌+◌, arith, map, length, length-append}
use Rattle.std.specs.Prelude.{take}
use Rattle.std.proofs.lemmas.List.{length-map, map-append}
use Rattle.law_turn.specs.Laws.{Fits}
use Rattle.law_model.specs.World.{stopped_tap}
use Rattle.pb_taps.specs.Taps.{spec_of, seat_of, tap_of, AreSeated}
use Rattle.pb_taps.proofs.Items.{passed-at, below-more}
use Rattle.pb_taps.proofs.Seats.{seated-more}
use Rattle.pb_taps.proofs.Specified.{all-fit}
use Rattle.pb_taps.proofs.making.new_taps.Goals as goal

pub loop-tap-preserved : goal.loop-tap-preserved
loop-tap-preserved c =
    let p = c.args.params.now in
    let specs = c.args.specs.now in
    let i = c.loop-tap.tap in
    let new = c.in_ok-new_tap.field-0 in
    let place : i ≡ 0 + length (map seat_of c.loop-tap.taps.items) = omega (arith, c.loop-tap.invariant.count, length-map c.loop-tap.taps.items seat_of) in
    record {
      taps = ap (map tap_of) c.push_reserved.ensures.items ∙ map-append tap_of c.loop-tap.taps.items (new ∷ [])
          ∙ ap (λ ts. ts ++ tap_of new ∷ []) c.loop-tap.invariant.taps
          ∙ ap (λ t. map (stopped_tap p) (take i (map spec_of specs)) ++ t ∷ []) c.in_ok-new_tap.ensures.tap
          ∙ sym (ap (map (stopped_tap p)) (passed-at spec_of specs i c.index-specs-tap.result c.loop-tap-test.true c.index-specs-tap.is)
          ∙ map-append (stopped_tap p) (take i (map spec_of specs)) (spec_of c.index-specs-tap.result ∷ []));
      seats = subst (AreSeated p 0) (sym (ap (map seat_of) c.push_reserved.ensures.items ∙ map-append seat_of c.loop-tap.taps.items (new ∷ [])))
          (seated-more p 0 (map seat_of c.loop-tap.taps.items) (seat_of new) c.loop-tap.invariant.seats
          (c.in_ok-new_tap.ensures.seat ∙ ap (λ n. record { tap = n; params = p }) place));
      fit = below-more (λ s. Fits s.reply.items) specs i c.index-specs-tap.result c.loop-tap-test.true c.index-specs-tap.is c.in_ok-new_tap.ensures.fits c.loop-tap.invariant.fit;
      count = ap length c.push_reserved.ensures.items ∙ length-append c.loop-tap.taps.items (new ∷ []) ∙ ap (λ n. n + 1) c.loop-tap.invariant.count;
      room = omega (arith, c.loop-tap.invariant.room, c.push_reserved.ensures.capacity);
    }

pub returns-clause-fit : goal.returns-clause-fit
returns-clause-fit c = all-fit c.args.specs.now c.loop-tap.tap (omega arith) c.loop-tap.invariant.fit
