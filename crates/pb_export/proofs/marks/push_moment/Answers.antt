use Rattle.std.proofs.Common.{◌≡◌, ◌∙◌, ap, ◌++◌, ◌∷◌, [], ℕ, List}
use Rattle.std.specs.Prelude.{codes, decimal}
use Rattle.std.specs.Prelude.{◌+◌}
use Rattle.pb_export.specs.Pieces.{all_of}
use Rattle.pb_export.specs.Places.{across, lane_top, strip, text_at, top}
use Rattle.pb_export.specs.Marks.{title}
use Rattle.pb_texts.proofs.Pieces.{front, more}
use Rattle.pb_export.proofs.marks.push_moment.Goals as goal

pub returns : goal.returns
returns c =
    let sheet = c.args.sheet in
    let at = c.args.at in
    let lane = c.args.lane in
    let text = c.args.text.now.items in
    let p0 : List ℕ = title at c.args.name.now c.args.word.now in
    let p1 : List ℕ = all_of ((codes "<rect x=\"") ∷ (decimal ((across sheet at))) ∷ (codes "\" y=\"") ∷ (decimal (top sheet (strip sheet at) + (lane_top lane) + 2)) ∷ (codes "\" width=\"3\" height=\"24\"/>") ∷ []) in
    let p2 : List ℕ = text_at sheet at 6 (lane_top lane + 12) in
    let p3 : List ℕ = all_of (c.args.word.now ∷ codes "</text></g>\n" ∷ []) in
    let q0 : List ℕ = p0 in
    let q1 : List ℕ = q0 ++ p1 in
    let q2 : List ℕ = q1 ++ p2 in
    let q3 : List ℕ = q2 ++ p3 in
    let s0 : c.push_title.new.text.items ≡ text ++ q0 = c.in_ok-push_title.ensures in
    let s1 : c.push_pieces.new.text.items ≡ text ++ q1 = more text c.push_title.new.text.items c.push_pieces.new.text.items q0 p1 s0 (c.in_ok-push_pieces.ensures ∙ ap (λ (z : List ℕ). c.push_title.new.text.items ++ z) (ap (λ (v : ℕ). all_of ((codes "<rect x=\"") ∷ (decimal v) ∷ (codes "\" y=\"") ∷ (decimal (c.top.result + c.lane_top-below.result + 2)) ∷ (codes "\" width=\"3\" height=\"24\"/>") ∷ [])) (c.across.ensures.value)
    ∙ ap (λ (v : ℕ). all_of ((codes "<rect x=\"") ∷ (decimal ((across sheet at))) ∷ (codes "\" y=\"") ∷ (decimal (v + c.lane_top-below.result + 2)) ∷ (codes "\" width=\"3\" height=\"24\"/>") ∷ [])) (c.top.ensures.value ∙ ap (top sheet) c.strip.ensures.value)
    ∙ ap (λ (v : ℕ). all_of ((codes "<rect x=\"") ∷ (decimal ((across sheet at))) ∷ (codes "\" y=\"") ∷ (decimal (top sheet (strip sheet at) + v + 2)) ∷ (codes "\" width=\"3\" height=\"24\"/>") ∷ [])) c.lane_top-below.ensures.value)) in
    let s2 : c.push_text_at.new.text.items ≡ text ++ q2 = more text c.push_pieces.new.text.items c.push_text_at.new.text.items q1 p2 s1 (c.in_ok-push_text_at.ensures ∙ ap (λ (z : List ℕ). c.push_pieces.new.text.items ++ z) (ap (λ (v : ℕ). text_at sheet at 6 (v + 12)) (c.lane_top-below.ensures.value))) in
    front c.push_pieces-2.result text c.push_text_at.new.text.items c.push_pieces-2.new.text.items q2 p3 s2 (c.push_pieces-2.ensures)
