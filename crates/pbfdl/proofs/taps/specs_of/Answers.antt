-- One tap more is defined.
use Rattle.std.proofs.Common.{◌∙◌, ◌+◌, ◌++◌, ◌∷◌, [], false, ap, sym, arith, map, length, length-append}
use Rattle.std.specs.Prelude.{get_or, take}
use Rattle.std.proofs.lemmas.List.{map-append}
use Rattle.pb_taps.specs.Taps.{spec_of}
use Rattle.pb_taps.proofs.Items.{passed-at}
use Rattle.pbfdl.specs.Buses.{tap_spec_of}
use Rattle.pbfdl.specs.declared.taps.FdlTap.{FdlTap}
use Rattle.pbfdl.proofs.Told.{item-of}
use Rattle.pbfdl.proofs.taps.specs_of.Goals as goal

pub loop-tap-preserved : goal.loop-tap-preserved
loop-tap-preserved c =
    let taps = c.args.taps.now in
    let i = c.loop-tap.tap-index in
    let new = c.spec_of.result in
    let none : FdlTap = record { address = 0; master = false; count = 0; reply = [] } in
    let tap = get_or taps i none in
    record {
      specs = ap (map spec_of) c.push_reserved.ensures.items ∙ map-append spec_of c.loop-tap.specs.items (new ∷ [])
          ∙ ap (λ ts. ts ++ spec_of new ∷ []) c.loop-tap.invariant.specs
          ∙ ap (λ t. take i (map tap_spec_of taps) ++ t ∷ []) c.spec_of.ensures
          ∙ sym (passed-at tap_spec_of taps i tap c.loop-tap-test.true (item-of taps i none tap c.loop-tap-test.true));
      count = ap length c.push_reserved.ensures.items ∙ length-append c.loop-tap.specs.items (new ∷ []) ∙ ap (λ n. n + 1) c.loop-tap.invariant.count;
      room = omega (arith, c.loop-tap.invariant.room, c.push_reserved.ensures.capacity);
    }
