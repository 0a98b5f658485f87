use Rattle.std.proofs.Common.{◌∙◌, ap, sym, arith, map, ◌++◌, ◌∷◌, []}
use Rattle.std.proofs.lemmas.List.{take_all, length-map}
use Rattle.pb_taps.specs.declared.taps.TapSpec.{TapSpec}
use Rattle.pb_taps.proofs.Items.{passed-at}
use Rattle.pb_world.proofs.Hearing.{addresses-of}
use Rattle.pb_world.proofs.judge.addresses_of.Goals as goal

pub loop-tap-preserved : goal.loop-tap-preserved
loop-tap-preserved c =
    c.in_ok-push.ensures.items ∙ ap (λ xs. xs ++ c.tap-item.result.address ∷ []) c.loop-tap.invariant
    ∙ sym (passed-at (λ (t : TapSpec). t.address) c.args.taps.now c.loop-tap.tap-index c.tap-item.result c.loop-tap-test.true c.tap-item.is)

pub returns : goal.returns
returns c =
    c.loop-tap.invariant
    ∙ take_all c.loop-tap.tap-index (map (λ (t : TapSpec). t.address) c.args.taps.now) (omega (arith, length-map c.args.taps.now (λ (t : TapSpec). t.address), c.loop-tap-test.false))
    ∙ addresses-of c.args.taps.now
