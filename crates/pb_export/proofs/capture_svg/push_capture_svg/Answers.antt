use Rattle.std.proofs.Common.{◌≡◌, ◌∙◌, ap, ℕ, List}
use Rattle.pb_export.specs.Sheets.{Sheet}
use Rattle.pb_export.specs.CaptureSvg.{lanes_of, picture, sheet_of, speakers, svg_text}
use Rattle.pb_texts.proofs.Pieces.{last}
use Rattle.pb_export.proofs.capture_svg.push_capture_svg.Goals as goal

pub returns : goal.returns
unfolding svg_text
returns c =
    let bs = c.args.bursts.now in
    let those : List ℕ = speakers bs in
    let lanes : List ℕ = lanes_of those in
    let sheet : Sheet = sheet_of bs lanes in
    let lanes_are : c.in_ok-lanes.lanes.items ≡ lanes = c.in_ok-lanes.ensures.lanes ∙ ap lanes_of (c.deref.ensures.value ∙ c.in_ok-speakers.ensures) in
    let sheet_is : c.sheet_of-sheet.result ≡ sheet = c.sheet_of-sheet.ensures ∙ ap (sheet_of bs) (c.deref-2.ensures.value ∙ lanes_are) in
    last c.push_picture.result c.args.text.now.items c.push_picture.new.text.items
    (picture bs c.sheet_of-sheet.result c.deref-3.result.now c.deref-4.result.now)
    (picture bs sheet lanes those)
    (ap (λ (x : Sheet). picture bs x c.deref-3.result.now c.deref-4.result.now) sheet_is
    ∙ ap (λ (x : List ℕ). picture bs sheet x c.deref-4.result.now) (c.deref-3.ensures.value ∙ lanes_are)
    ∙ ap (λ (x : List ℕ). picture bs sheet lanes x) (c.deref-4.ensures.value ∙ c.in_ok-speakers.ensures))
    c.push_picture.ensures
