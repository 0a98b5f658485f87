use Rattle.std.proofs.Common.{◌≡◌, ◌∙◌, ap, sym, subst, arith, ℕ, ◌<◌, List, length, map, Option, Some}
use Rattle.std.specs.Prelude.{get_or, slice_get, None}
use Rattle.std.proofs.lemmas.List.{length-map, length-set}
use Rattle.pb_world.specs.Buses.{world_of}
use Rattle.pb_taps.specs.Taps.{tap_of}
use Rattle.pb_taps.specs.declared.taps.Tap.{Tap}
use Rattle.pb_taps.proofs.Items.{item-at}
use Rattle.pb_world.specs.Liveness.{longer, stretch_of}
use Rattle.pb_world.specs.declared.stretches.Stretch.{Stretch}
use Rattle.pb_world.proofs.Measuring.{renewed-one, all-longer, not-renewed}
use Rattle.pb_world.proofs.stretches.lengthen.Goals as goal

pub loop-place-preserved : goal.loop-place-preserved
loop-place-preserved c =
    let w = world_of c.args.bus.now in
    let taps = c.args.bus.now.taps.items in
    let before = c.args.longest.now in
    let place = c.loop-place.place in
    let new : ℕ → Option Stretch = λ k. longer (get_or before k None) (stretch_of w c.args.calm (slice_get w.taps k)) in
    let same = c.deref-tap-items.ensures.value in
    let within : place < length c.deref-tap-items.result.now = omega (arith, c.loop-place-test.true) in
    let there : place < length taps = subst (λ (xs : List Tap). place < length xs) same within in
    let room : place < length c.loop-place.longest = omega (arith, there, c.requires.room, length-map taps tap_of, c.loop-place.invariant.count, c.told-longest) in
    let here : slice_get w.taps place ≡ Some (tap_of c.tap-item.result) = subst (λ (xs : List Tap). slice_get (map tap_of xs) place ≡ Some (tap_of c.tap-item.result)) same
    (item-at tap_of c.deref-tap-items.result.now place c.tap-item.result within c.tap-item.is) in
    record {
      count = length-set c.loop-place.longest place c.longer.result ∙ c.loop-place.invariant.count;
      so_far = renewed-one new c.loop-place.longest before place c.longer.result room
          (c.longer.ensures
          ∙ ap (λ (o : Option Stretch). longer o c.stretch_of.result) (not-renewed new c.loop-place.longest before place c.loop-place.invariant.so_far)
          ∙ ap (λ (o : Option Stretch). longer (get_or before place None) o) (c.stretch_of.ensures ∙ ap (stretch_of w c.args.calm) (sym here)))
          c.loop-place.invariant.so_far;
    }

pub returns : goal.returns
returns c =
    let taps = c.args.bus.now.taps.items in
    all-longer (world_of c.args.bus.now) c.args.calm c.loop-place.place c.args.longest.now c.loop-place.longest
    (omega (arith, c.loop-place-test.false, length-map taps tap_of, c.deref-tap-items.ensures.len, ap length c.deref-tap-items.ensures.value)) c.loop-place.invariant.so_far
