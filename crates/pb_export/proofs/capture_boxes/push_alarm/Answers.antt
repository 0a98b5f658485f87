use Rattle.std.proofs.Common.{◌≡◌, ◌++◌, ℕ, List, ◌∙◌, ap, ◌∷◌, []}
use Rattle.std.specs.Prelude.{codes, ◌+◌}
use Rattle.pb_export.specs.declared.places.Bar.{Bar}
use Rattle.pb_export.specs.Boxes.{heard_bar, in_lane}
use Rattle.pb_export.specs.Pieces.{all_of}
use Rattle.pb_export.specs.Places.{bars, lane_top, text_at}
use Rattle.pb_texts.proofs.Pieces.{front, more}
use Rattle.pb_export.proofs.capture_boxes.push_alarm.Goals as goal

pub returns : goal.returns
returns c =
    let sheet = c.args.sheet in
    let x = c.args.stretch in
    let lane = c.args.lane in
    let name = c.args.name.now in
    let text = c.args.text.now.items in
    let p0 : List ℕ = all_of (codes "<g class=\"hearer\"><title>alarm: " ∷ name ∷ codes "</title>" ∷ []) in
    let p1 : List ℕ = bars sheet (in_lane heard_bar lane) x in
    let p2 : List ℕ = text_at sheet x.begin 1 (lane_top lane + 3) in
    let p3 : List ℕ = all_of (name ∷ codes "</text></g>\n" ∷ []) in
    let q0 : List ℕ = p0 in
    let q1 : List ℕ = q0 ++ p1 in
    let q2 : List ℕ = q1 ++ p2 in
    let q3 : List ℕ = q2 ++ p3 in
    let s0 : c.push_pieces.new.text.items ≡ text ++ q0 = c.in_ok-push_pieces.ensures in
    let s1 : c.push_bars.new.text.items ≡ text ++ q1 = more text c.push_pieces.new.text.items c.push_bars.new.text.items q0 p1 s0 (c.in_ok-push_bars.ensures ∙ ap (λ (z : List ℕ). c.push_pieces.new.text.items ++ z) (ap (λ (b : Bar). bars sheet b x) c.in_lane.ensures.bar)) in
    let s2 : c.push_text_at.new.text.items ≡ text ++ q2 = more text c.push_bars.new.text.items c.push_text_at.new.text.items q1 p2 s1 (c.in_ok-push_text_at.ensures ∙ ap (λ (z : List ℕ). c.push_bars.new.text.items ++ z) (ap (λ (v : ℕ). text_at sheet x.begin 1 (v + 3)) c.lane_top.ensures.value)) in
    front c.push_pieces-2.result text c.push_text_at.new.text.items c.push_pieces-2.new.text.items q2 p3 s2 (c.push_pieces-2.ensures)
