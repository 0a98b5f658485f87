use Rattle.std.proofs.Common.{refl, sym, ◌∙◌, ◌≤◌, ◌+◌, map}
use Rattle.std.specs.Prelude.{drop}
use Rattle.pb_taps.specs.Taps.{spec_of}
use Rattle.pb_taps.proofs.Items.{left-at, below-more}
use Rattle.pb_taps.proofs.Specified.{first-bad, no-bad}
use Rattle.pb_taps.proofs.making.first_bad_address.Goals as goal

pub returns-then-has_bad_address-clause-first : goal.returns-then-has_bad_address-clause-first
returns-then-has_bad_address-clause-first c = λ p highest.
    let specs = c.args.specs.now in
    let i = c.loop-place.place in
    sym (
    c.loop-place.invariant.first p highest
    ∙ first-bad p i (spec_of c.index-specs-place.result) (drop i (map spec_of specs)) (drop (i + 1) (map spec_of specs))
    (left-at spec_of specs i c.index-specs-place.result c.loop-place-test.true c.index-specs-place.is) (sym (c.if-has_bad_address.ensures.bad p highest)))

pub loop-place-preserved : goal.loop-place-preserved
loop-place-preserved c =
    let specs = c.args.specs.now in
    let i = c.loop-place.place in
    let station = c.if-has_bad_address.ensures.station in
    record {
      first = λ p highest. c.loop-place.invariant.first p highest
          ∙ no-bad p i (spec_of c.index-specs-place.result) (drop i (map spec_of specs)) (drop (i + 1) (map spec_of specs))
          (left-at spec_of specs i c.index-specs-place.result c.loop-place-test.true c.index-specs-place.is) (sym (c.if-has_bad_address.ensures.bad p highest));
      stations = below-more (λ s. s.address ≤ 126) specs i c.index-specs-place.result c.loop-place-test.true c.index-specs-place.is (station refl) c.loop-place.invariant.stations;
    }
