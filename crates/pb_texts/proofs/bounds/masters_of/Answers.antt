use Rattle.std.proofs.Common.{◌≡◌, ◌∙◌, ap, sym, arith, ◌<◌, ◌+◌, ℕ, length, map}
use Rattle.std.specs.Prelude.{get_or}
use Rattle.std.proofs.lemmas.List.{length-map}
use Rattle.std.proofs.lemmas.List.Sums.{count_by_more_no, count_by_more_yes}
use Rattle.std.proofs.lemmas.Option.{get_or_from_slice_get}
use Rattle.pb_taps.specs.Taps.{spec_of}
use Rattle.pb_taps.proofs.Items.{item-at}
use Rattle.pb_texts.specs.Bounds.{is_master}
use Rattle.pb_texts.proofs.bounds.masters_of.Goals as goal
use Rattle.pb_texts.proofs.bounds.masters_of.Goals.{then-is_master, else-is_master}

pub loop-tap-preserved : goal.loop-tap-preserved
loop-tap-preserved c =
    let taps = c.args.taps.now in
    let specs = map spec_of taps in
    let i = c.loop-tap.tap-index in
    let t = c.tap-item.result in
    let within : i < length taps = omega (arith, c.loop-tap-test.true) in
    let there : i < length specs = omega (arith, within, length-map taps spec_of) in
    let item : get_or specs i (spec_of t) ≡ spec_of t = get_or_from_slice_get specs i (spec_of t) (spec_of t) (item-at spec_of taps i t within c.tap-item.is) in
    elim c.if-is_master.branch [
      | then-is_master v ↦ record {
        few = omega (arith, v.masters-is, c.loop-tap.invariant.few);
        so_far = v.masters-is ∙ ap (λ (n : ℕ). n + 1) c.loop-tap.invariant.so_far
            ∙ sym (count_by_more_yes is_master specs i (spec_of t) there (ap is_master item ∙ sym c.is_master.ensures ∙ v.if-is_master.true));
      }
      | else-is_master v ↦ record {
        few = omega (arith, v.masters-is, c.loop-tap.invariant.few);
        so_far = v.masters-is ∙ c.loop-tap.invariant.so_far
            ∙ sym (count_by_more_no is_master specs i (spec_of t) there (ap is_master item ∙ sym c.is_master.ensures ∙ v.if-is_master.false));
      }
    ]
