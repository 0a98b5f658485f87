use Rattle.std.proofs.Common.{◌≡◌, ◌∙◌, ap, subst, arith, ◌++◌, List, Some}
use Rattle.std.specs.Prelude.{slice_get}
use Rattle.law_model.specs.Medium.{TapSpec}
use Rattle.pb_timers.specs.Timers.{Params}
use Rattle.pb_taps.specs.Taps.{spec_of}
use Rattle.pb_taps.proofs.Items.{item-at}
use Rattle.pb_texts.specs.Texts.{tap_lines}
use Rattle.pb_texts.proofs.Taps.{lines-step}
use Rattle.pb_texts.proofs.texts.push_taps.Goals as goal

pub loop-tap-preserved : goal.loop-tap-preserved
loop-tap-preserved c =
    let s = c.args.scenario.now in
    let i = c.loop-tap.tap in
    let taps = c.taps-taps.result.now in
    let t = c.index-taps-tap.result in
    let name = c.name.result.now in
    let before = c.loop-tap.text.items in
    let at : slice_get s.scenario.taps i ≡ Some (spec_of t) =
    subst (λ (xs : List TapSpec). slice_get xs i ≡ Some (spec_of t)) c.taps-taps.ensures.specs (item-at spec_of taps i t (omega (arith, c.loop-tap-test.true)) c.index-taps-tap.is) in
    lines-step c.args.baud s.scenario.params s.names s.scenario.taps i name (spec_of t) before c.push_tap.new.text.items _ c.name.ensures at
    (c.in_ok-push_tap.ensures ∙ ap (λ (p : Params). before ++ tap_lines c.args.baud p name (spec_of t)) c.params.ensures) c.loop-tap.invariant
