use Rattle.std.proofs.Common.{◌≡◌, ◌∙◌, ap, ◌++◌, ◌∷◌, [], ℕ, List}
use Rattle.std.specs.Prelude.{codes, decimal}
use Rattle.std.specs.Prelude.{◌+◌, ◌-◌}
use Rattle.pb_export.specs.Pieces.{all_of}
use Rattle.pb_export.specs.Places.{across, lane_top, text_at, top}
use Rattle.pb_texts.proofs.Pieces.{front, last, more}
use Rattle.pb_export.proofs.lanes.push_mark.Goals as goal

pub returns : goal.returns
returns c =
    let sheet = c.args.sheet in
    let strip = c.args.strip in
    let t = c.args.moment in
    let text = c.args.text.now.items in
    let p0 : List ℕ = all_of ((codes "<rect x=\"") ∷ (decimal ((across sheet t))) ∷ (codes "\" y=\"") ∷ (decimal ((top sheet strip) + 4)) ∷ (codes "\" width=\"1\" height=\"") ∷ (decimal ((lane_top sheet.lanes) - 4)) ∷ (codes "\"/>") ∷ []) in
    let p1 : List ℕ = text_at sheet t 4 13 in
    let p2 : List ℕ = all_of ((decimal (sheet.zero + t)) ∷ (codes "</text>\n") ∷ []) in
    let q0 : List ℕ = p0 in
    let q1 : List ℕ = q0 ++ p1 in
    let q2 : List ℕ = q1 ++ p2 in
    let s0 : c.push_pieces.new.text.items ≡ text ++ q0 = c.in_ok-push_pieces.ensures ∙ ap (λ (z : List ℕ). text ++ z) (ap (λ (v : ℕ). all_of ((codes "<rect x=\"") ∷ (decimal v) ∷ (codes "\" y=\"") ∷ (decimal (c.top.result + 4)) ∷ (codes "\" width=\"1\" height=\"") ∷ (decimal (c.lane_top.result - 4)) ∷ (codes "\"/>") ∷ [])) (c.across.ensures.value)
    ∙ ap (λ (v : ℕ). all_of ((codes "<rect x=\"") ∷ (decimal ((across sheet t))) ∷ (codes "\" y=\"") ∷ (decimal (v + 4)) ∷ (codes "\" width=\"1\" height=\"") ∷ (decimal (c.lane_top.result - 4)) ∷ (codes "\"/>") ∷ [])) (c.top.ensures.value)
    ∙ ap (λ (v : ℕ). all_of ((codes "<rect x=\"") ∷ (decimal ((across sheet t))) ∷ (codes "\" y=\"") ∷ (decimal ((top sheet strip) + 4)) ∷ (codes "\" width=\"1\" height=\"") ∷ (decimal (v - 4)) ∷ (codes "\"/>") ∷ [])) (c.lane_top.ensures.value ∙ ap lane_top c.lanes.ensures.value)) in
    let s1 : c.push_text_at.new.text.items ≡ text ++ q1 = more text c.push_pieces.new.text.items c.push_text_at.new.text.items q0 p1 s0 (c.in_ok-push_text_at.ensures) in
    front c.push_pieces-2.result text c.push_text_at.new.text.items c.push_pieces-2.new.text.items q1 p2 s1 (last c.push_pieces-2.result c.push_text_at.new.text.items c.push_pieces-2.new.text.items _ p2 (ap (λ (v : ℕ). all_of ((decimal v) ∷ (codes "</text>\n") ∷ [])) c.number.ensures) c.push_pieces-2.ensures)
