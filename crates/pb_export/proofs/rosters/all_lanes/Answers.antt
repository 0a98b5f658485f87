use Rattle.std.proofs.Common.{◌≡◌, ◌∙◌, ◌++◌, ap, sym, refl, arith, ℕ, Bool, Some, length, map}
use Rattle.std.specs.Prelude.{slice_get}
use Rattle.std.proofs.lemmas.List.{length-map}
use Rattle.pb_medium.specs.Entries.{entry_of}
use Rattle.pb_taps.specs.Taps.{spec_of}
use Rattle.pb_taps.proofs.Items.{item-at}
use Rattle.pb_export.specs.Rosters.{has_lane, lane_if, lanes_from}
use Rattle.pb_export.proofs.Loops.{item-step, item-end}
use Rattle.pb_export.proofs.rosters.all_lanes.Goals as goal

pub loop-tap-preserved : goal.loop-tap-preserved
loop-tap-preserved c =
    let taps = c.args.taps.now in
    let es = map entry_of c.args.entries.now in
    let i = c.loop-tap.tap in
    let t = c.index-taps-tap.result in
    let before = c.loop-tap.lanes.items in
    let at : slice_get (map spec_of taps) i ≡ Some (spec_of t) = item-at spec_of taps i t (omega (arith, c.loop-tap-test.true)) c.index-taps-tap.is in
    item-step (lanes_from (length taps) es) (λ k spec. lane_if (has_lane (length taps) es k spec) k) (map spec_of taps) i (spec_of t) before c.push_if.new.lanes.items _
    (λ k y ys. refl) at (c.in_ok-push_if.ensures ∙ ap (λ (b : Bool). before ++ lane_if b i) c.has_lane-has_lane.ensures) c.loop-tap.invariant

pub returns : goal.returns
returns c =
    let taps = c.args.taps.now in
    let es = map entry_of c.args.entries.now in
    item-end (lanes_from (length taps) es) (map spec_of taps) c.loop-tap.tap c.loop-tap.lanes.items _
    (λ k. refl) (omega (arith, c.loop-tap-test.false, length-map taps spec_of)) c.loop-tap.invariant
    ∙ ap (λ (n : ℕ). lanes_from n es 0 (map spec_of taps)) (sym (length-map taps spec_of))
