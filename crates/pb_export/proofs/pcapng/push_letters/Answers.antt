use Rattle.std.proofs.Common.{◌∙◌, ◌++◌, ℕ, List, ap, refl, arith}
use Rattle.pb_medium.specs.Entries.{heard_of}
use Rattle.pb_export.specs.Words.{heard_letter}
use Rattle.pb_export.specs.Pcapng.{letters}
use Rattle.pb_export.proofs.Loops.{item-step, item-end}
use Rattle.pb_export.proofs.pcapng.push_letters.Goals as goal

pub loop-tap-preserved : goal.loop-tap-preserved
loop-tap-preserved c =
    item-step (λ k hs. letters hs) (λ k h. heard_letter h) c.args.heard.now c.loop-tap.tap (heard_of c.at.result) c.loop-tap.text.items c.extend_from_slice.new.self.items _
    (λ k y ys. refl) c.at.ensures (c.in_ok-extend_from_slice.ensures.items ∙ ap (λ (xs : List ℕ). c.loop-tap.text.items ++ xs) c.heard_letter.ensures) c.loop-tap.invariant

pub returns : goal.returns
returns c =
    item-end (λ k hs. letters hs) c.args.heard.now c.loop-tap.tap c.loop-tap.text.items _
    (λ k. refl) (omega (arith, c.loop-tap-test.false, c.len-tap-end.ensures)) c.loop-tap.invariant
