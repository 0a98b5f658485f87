use Rattle.std.proofs.Common.{◌≡◌, ◌∙◌, ◌++◌, ◌∷◌, [], ℕ, Some, ap, map, refl, arith}
use Rattle.std.specs.Prelude.{slice_get, slice_index}
use Rattle.std.proofs.lemmas.Option.{slice_get-get_or}
use Rattle.pb_export.specs.Vcd.{underscored}
use Rattle.pb_export.proofs.Loops.{item-step}
use Rattle.pb_export.proofs.waves.push_underscored.Goals as goal

pub loop-byte-preserved : goal.loop-byte-preserved
loop-byte-preserved c =
    let xs = c.args.bytes.now in
    let i = c.loop-byte.byte-index in
    let before = c.loop-byte.text.items in
    let here : slice_get xs i ≡ Some (slice_index xs i) = slice_get-get_or xs i 0 (omega (arith, c.loop-byte-test.true)) in
    item-step (λ k ys. map underscored ys) (λ k y. underscored y ∷ []) xs i (slice_index xs i) before c.push.new.self.items _
    (λ k y ys. refl) here (c.in_ok-push.ensures.items ∙ ap (λ (n : ℕ). before ++ n ∷ []) c.underscored.ensures) c.loop-byte.invariant
