use Rattle.std.proofs.Common.{◌≡◌, ◌∙◌, ap, ◌++◌, ℕ, List}
use Rattle.std.specs.Prelude.{codes}
use Rattle.std.specs.Prelude.{◌+◌}
use Rattle.pb_export.specs.Places.{top}
use Rattle.pb_export.specs.Lanes.{label}
use Rattle.pb_export.specs.CaptureSvg.{stations_from}
use Rattle.pb_texts.proofs.Pieces.{front, more, octets}
use Rattle.pb_export.proofs.capture_svg.push_stations.Goals as goal

pub returns : goal.returns
returns c =
    let text = c.args.text.now.items in
    let p0 : List ℕ = codes "<g class=\"name\">\n" in
    let p1 : List ℕ = label (top c.args.sheet c.args.strip + 34) in
    let p2 : List ℕ = codes "holder</text>\n" in
    let p3 : List ℕ = stations_from c.args.sheet c.args.strip 0 c.args.lanes.now in
    let p4 : List ℕ = codes "</g>\n" in
    let q0 : List ℕ = p0 in
    let q1 : List ℕ = q0 ++ p1 in
    let q2 : List ℕ = q1 ++ p2 in
    let q3 : List ℕ = q2 ++ p3 in
    let q4 : List ℕ = q3 ++ p4 in
    let s0 : c.extend_from_slice.new.self.items ≡ text ++ q0 = c.in_ok-extend_from_slice.ensures.items in
    let s1 : c.push_label.new.text.items ≡ text ++ q1 = more text c.extend_from_slice.new.self.items c.push_label.new.text.items q0 p1 s0 (c.in_ok-push_label.ensures ∙ ap (λ (z : List ℕ). c.extend_from_slice.new.self.items ++ z) (ap (λ (v : ℕ). label (v + 34)) (c.top.ensures.value))) in
    let s2 : c.extend_from_slice-2.new.self.items ≡ text ++ q2 = more text c.push_label.new.text.items c.extend_from_slice-2.new.self.items q1 p2 s1 (c.in_ok-extend_from_slice-2.ensures.items) in
    let s3 : c.push_each_station.new.text.items ≡ text ++ q3 = more text c.extend_from_slice-2.new.self.items c.push_each_station.new.text.items q2 p3 s2 (c.in_ok-push_each_station.ensures) in
    front c.extend_from_slice-3.result text c.push_each_station.new.text.items c.extend_from_slice-3.new.self.items q3 p4 s3 (octets c.extend_from_slice-3.result c.push_each_station.new.text.items c.extend_from_slice-3.new.self.items p4 c.extend_from_slice-3.ensures.items)
