use Rattle.std.proofs.Common.{◌≡◌, ◌∙◌, ap, ◌++◌, ℕ, List}
use Rattle.std.specs.Prelude.{codes}
use Rattle.std.specs.Prelude.{◌+◌, ◌*◌}
use Rattle.pb_export.specs.Places.{bars, lane_top, text_at}
use Rattle.pb_texts.proofs.Pieces.{front, more, octets}
use Rattle.pb_export.proofs.boxes.push_noise.Goals as goal

pub returns : goal.returns
returns c =
    let sheet = c.args.sheet in
    let x = c.args.stretch in
    let text = c.args.text.now.items in
    let p0 : List ℕ = bars sheet (record { below = lane_top 0; height = 28 * sheet.lanes }) x in
    let p1 : List ℕ = text_at sheet x.begin 3 (lane_top 0 + 10) in
    let p2 : List ℕ = codes "noise</text></g>\n" in
    let q0 : List ℕ = p0 in
    let q1 : List ℕ = q0 ++ p1 in
    let q2 : List ℕ = q1 ++ p2 in
    let s0 : c.push_bars.new.text.items ≡ text ++ q0 = c.in_ok-push_bars.ensures ∙ ap (λ (z : List ℕ). text ++ z) (ap (λ (v : ℕ). bars sheet (record { below = v; height = 28 * c.lanes.result }) x) (c.lane_top.ensures.value) ∙ ap (λ (v : ℕ). bars sheet (record { below = (lane_top 0); height = 28 * v }) x) (c.lanes.ensures.value)) in
    let s1 : c.push_text_at.new.text.items ≡ text ++ q1 = more text c.push_bars.new.text.items c.push_text_at.new.text.items q0 p1 s0 (c.in_ok-push_text_at.ensures ∙ ap (λ (z : List ℕ). c.push_bars.new.text.items ++ z) (ap (λ (v : ℕ). text_at sheet x.begin 3 (v + 10)) (c.lane_top-2.ensures.value))) in
    front c.extend_from_slice.result text c.push_text_at.new.text.items c.extend_from_slice.new.self.items q1 p2 s1 (octets c.extend_from_slice.result c.push_text_at.new.text.items c.extend_from_slice.new.self.items p2 c.extend_from_slice.ensures.items)
