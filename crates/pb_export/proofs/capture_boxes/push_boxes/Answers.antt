use Rattle.std.proofs.Common.{◌≡◌, ◌≤◌, ◌∙◌, ap, sym, refl, arith, ℕ, zero, suc, List, [], ◌∷◌, ◌++◌, length, drop}
use Rattle.std.specs.Prelude.{min}
use Rattle.std.proofs.lemmas.List.{append-nil, drop_all}
use Rattle.pb_monitor.specs.declared.heard_bursts.HeardBurst.{HeardBurst}
use Rattle.pb_export.specs.Sheets.{Sheet}
use Rattle.pb_export.specs.CaptureSvg.{boxes}
use Rattle.pb_export.proofs.capture_boxes.push_boxes.Goals as goal

-- no burst is left
no_burst : (sheet : Sheet) (lanes speakers : List ℕ) → boxes sheet lanes speakers [] ≡ []
no_burst sheet lanes [] = refl
no_burst sheet lanes (s ∷ speakers) = refl

none_left : (sheet : Sheet) (lanes speakers : List ℕ) (bursts : List HeardBurst) (i : ℕ) → min (length speakers) (length bursts) ≤ i
    → boxes sheet lanes (drop i speakers) (drop i bursts) ≡ []
none_left sheet lanes [] bursts i past = ap (λ (ss : List ℕ). boxes sheet lanes ss (drop i bursts)) (drop_all i [] (omega arith))
none_left sheet lanes (s ∷ speakers) [] zero past = refl
none_left sheet lanes (s ∷ speakers) [] (suc i) past = no_burst sheet lanes (drop i speakers)
none_left sheet lanes (s ∷ speakers) (b ∷ bursts) zero past = absurd (omega (arith, past))
none_left sheet lanes (s ∷ speakers) (b ∷ bursts) (suc i) past = none_left sheet lanes speakers bursts i (omega (arith, past))

pub returns : goal.returns
returns c =
    let text = c.loop-place.text.items in
    let none = none_left c.args.sheet c.args.lanes.now c.args.speakers.now c.args.bursts.now c.loop-place.place (omega arith) in
    sym (append-nil text) ∙ ap (λ (z : List ℕ). text ++ z) (sym none) ∙ c.loop-place.invariant
