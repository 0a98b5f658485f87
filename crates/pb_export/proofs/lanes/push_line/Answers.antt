use Rattle.std.proofs.Common.{◌≡◌, ◌∙◌, ap, ◌++◌, ℕ, List}
use Rattle.std.specs.Prelude.{codes}
use Rattle.std.specs.Prelude.{◌+◌}
use Rattle.pb_export.specs.Places.{bars, lane_top}
use Rattle.pb_texts.proofs.Pieces.{front, octets}
use Rattle.pb_export.proofs.lanes.push_line.Goals as goal

pub returns : goal.returns
returns c =
    let sheet = c.args.sheet in
    let lane = c.args.lane in
    let text = c.args.text.now.items in
    let p0 : List ℕ = bars sheet (record { below = lane_top lane + 14; height = 1 }) (record { begin = sheet.from; end = sheet.last }) in
    let p1 : List ℕ = codes "\n" in
    let q0 : List ℕ = p0 in
    let q1 : List ℕ = q0 ++ p1 in
    let s0 : c.push_bars.new.text.items ≡ text ++ q0 = c.in_ok-push_bars.ensures ∙ ap (λ (z : List ℕ). text ++ z) (ap (λ (v : ℕ). bars sheet (record { below = v + 14; height = 1 }) (record { begin = c.from.result; end = c.last.result })) (c.lane_top.ensures.value) ∙ ap (λ (v : ℕ). bars sheet (record { below = lane_top lane + 14; height = 1 }) (record { begin = v; end = c.last.result })) (c.from.ensures.value) ∙ ap (λ (v : ℕ). bars sheet (record { below = lane_top lane + 14; height = 1 }) (record { begin = sheet.from; end = v })) (c.last.ensures.value)) in
    front c.extend_from_slice.result text c.push_bars.new.text.items c.extend_from_slice.new.self.items q0 p1 s0 (octets c.extend_from_slice.result c.push_bars.new.text.items c.extend_from_slice.new.self.items p1 c.extend_from_slice.ensures.items)
