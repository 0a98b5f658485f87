use Rattle.std.proofs.Common.{◌≡◌, ◌++◌, ℕ, List, ◌∙◌, ap, ◌∷◌, []}
use Rattle.std.specs.Prelude.{codes, decimal, ◌+◌}
use Rattle.pb_export.specs.Pieces.{all_of}
use Rattle.pb_export.specs.Places.{lane_top, top}
use Rattle.pb_export.specs.Lanes.{label}
use Rattle.pb_texts.proofs.Pieces.{front, last}
use Rattle.pb_export.proofs.capture_svg.push_station.Goals as goal

pub returns : goal.returns
returns c =
    let sheet = c.args.sheet in
    let strip = c.args.strip in
    let lane = c.args.lane in
    let address = c.args.address in
    let text = c.args.text.now.items in
    let p0 : List ℕ = label (top sheet strip + lane_top lane + 18) in
    let p1 : List ℕ = all_of (codes "station <tspan>" ∷ decimal address ∷ codes "</tspan></text>\n" ∷ []) in
    let q0 : List ℕ = p0 in
    let q1 : List ℕ = q0 ++ p1 in
    let s0 : c.push_label.new.text.items ≡ text ++ q0 = (c.in_ok-push_label.ensures ∙ ap (λ (z : List ℕ). text ++ z) (ap (λ (v : ℕ). label (v + c.lane_top.result + 18)) (c.top.ensures.value) ∙ ap (λ (v : ℕ). label (top sheet strip + v + 18)) (c.lane_top.ensures.value))) in
    front c.push_pieces.result text c.push_label.new.text.items c.push_pieces.new.text.items q0 p1 s0 (last c.push_pieces.result c.push_label.new.text.items c.push_pieces.new.text.items _ p1 (ap (λ (v : ℕ). all_of (codes "station <tspan>" ∷ decimal v ∷ codes "</tspan></text>\n" ∷ [])) c.from.ensures) (c.push_pieces.ensures))
