use Rattle.std.proofs.Common.{◌≡◌, ◌∙◌, ap, ◌++◌, ℕ, List}
use Rattle.std.specs.Prelude.{◌-◌}
use Rattle.std.proofs.Common.{length, map}
use Rattle.pb_medium.specs.Entries.{entry_of}
use Rattle.pb_export.specs.Svg.{band, boxes, head, left_out}
use Rattle.pb_export.specs.Lanes.{lanes_text}
use Rattle.pb_texts.proofs.Pieces.{front, more}
use Rattle.pb_export.proofs.svg.push_trace.Goals as goal

pub returns : goal.returns
returns c =
    let w = c.args.window in
    let s = c.args.scenario.now in
    let es = map entry_of c.args.entries.now in
    let sheet = c.args.sheet in
    let lanes = c.args.lanes.now in
    let text = c.args.text.now.items in
    let p0 : List ℕ = head sheet in
    let p1 : List ℕ = left_out (length s.scenario.taps - length lanes) in
    let p2 : List ℕ = lanes_text s sheet lanes in
    let p3 : List ℕ = band s sheet es in
    let p4 : List ℕ = boxes w s sheet lanes es in
    let q0 : List ℕ = p0 in
    let q1 : List ℕ = q0 ++ p1 in
    let q2 : List ℕ = q1 ++ p2 in
    let q3 : List ℕ = q2 ++ p3 in
    let s0 : c.push_head.new.text.items ≡ text ++ q0 = c.in_ok-push_head.ensures in
    let s1 : c.push_left_out.new.text.items ≡ text ++ q1 = more text c.push_head.new.text.items c.push_left_out.new.text.items q0 p1 s0 (c.in_ok-push_left_out.ensures ∙ ap (λ (z : List ℕ). c.push_head.new.text.items ++ z) (ap left_out c.left_out.ensures)) in
    let s2 : c.push_lanes.new.text.items ≡ text ++ q2 = more text c.push_left_out.new.text.items c.push_lanes.new.text.items q1 p2 s1 (c.in_ok-push_lanes.ensures) in
    let s3 : c.push_band.new.text.items ≡ text ++ q3 = more text c.push_lanes.new.text.items c.push_band.new.text.items q2 p3 s2 (c.in_ok-push_band.ensures) in
    front c.push_boxes.result text c.push_band.new.text.items c.push_boxes.new.text.items q3 p4 s3 c.push_boxes.ensures
