use Rattle.std.proofs.Common.{◌≡◌, ◌++◌, ℕ, List, ◌∙◌, ap}
use Rattle.std.specs.Prelude.{codes}
use Rattle.std.specs.List.{flat_map}
use Rattle.pb_export.specs.Styles.{capture_legend}
use Rattle.pb_export.specs.Svg.{head_with}
use Rattle.pb_export.specs.Lanes.{lines}
use Rattle.pb_export.specs.Places.{rows}
use Rattle.pb_export.specs.CaptureSvg.{boxes, rows_from, turn_box, turns_of}
use Rattle.pb_texts.proofs.Pieces.{front, more, octets}
use Rattle.pb_export.proofs.capture_svg.push_picture.Goals as goal

pub returns : goal.returns
returns c =
    let bs = c.args.bursts.now in
    let sheet = c.args.sheet in
    let lanes = c.args.lanes.now in
    let speakers = c.args.speakers.now in
    let text = c.args.text.now.items in
    let p0 : List ℕ = head_with sheet capture_legend in
    let p1 : List ℕ = lines sheet in
    let p2 : List ℕ = rows_from sheet lanes 0 (rows sheet) in
    let p3 : List ℕ = flat_map (turn_box sheet) (turns_of bs) in
    let p4 : List ℕ = boxes sheet lanes speakers bs in
    let p5 : List ℕ = codes "</svg>\n" in
    let q0 : List ℕ = p0 in
    let q1 : List ℕ = q0 ++ p1 in
    let q2 : List ℕ = q1 ++ p2 in
    let q3 : List ℕ = q2 ++ p3 in
    let q4 : List ℕ = q3 ++ p4 in
    let q5 : List ℕ = q4 ++ p5 in
    let s0 : c.push_head_with.new.text.items ≡ text ++ q0 = (c.in_ok-push_head_with.ensures ∙ ap (λ (z : List ℕ). text ++ z) (ap (head_with sheet) c.capture_legend.ensures)) in
    let s1 : c.push_lines.new.text.items ≡ text ++ q1 = more text c.push_head_with.new.text.items c.push_lines.new.text.items q0 p1 s0 (c.in_ok-push_lines.ensures) in
    let s2 : c.push_rows.new.text.items ≡ text ++ q2 = more text c.push_lines.new.text.items c.push_rows.new.text.items q1 p2 s1 (c.in_ok-push_rows.ensures) in
    let s3 : c.push_band.new.text.items ≡ text ++ q3 = more text c.push_rows.new.text.items c.push_band.new.text.items q2 p3 s2 (c.in_ok-push_band.ensures) in
    let s4 : c.push_boxes.new.text.items ≡ text ++ q4 = more text c.push_band.new.text.items c.push_boxes.new.text.items q3 p4 s3 (c.in_ok-push_boxes.ensures) in
    front c.extend_from_slice.result text c.push_boxes.new.text.items c.extend_from_slice.new.self.items q4 p5 s4 (octets c.extend_from_slice.result c.push_boxes.new.text.items c.extend_from_slice.new.self.items p5 c.extend_from_slice.ensures.items)
