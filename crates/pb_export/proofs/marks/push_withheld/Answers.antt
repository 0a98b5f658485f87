use Rattle.std.proofs.Common.{◌≡◌, ◌∙◌, ap, ◌++◌, ℕ, List}
use Rattle.std.specs.Prelude.{codes}
use Rattle.std.specs.Prelude.{◌+◌}
use Rattle.pb_export.specs.declared.places.Stretch.{Stretch}
use Rattle.pb_export.specs.Places.{bars, clip, lane_top, text_at}
use Rattle.pb_export.specs.Marks.{title}
use Rattle.pb_texts.proofs.Pieces.{front, more, octets}
use Rattle.pb_export.proofs.marks.push_withheld.Goals as goal

pub returns : goal.returns
returns c =
    let sheet = c.args.sheet in
    let x = c.args.stretch in
    let lane = c.args.lane in
    let text = c.args.text.now.items in
    let p0 : List ℕ = title x.begin c.args.name.now (codes "withhold") in
    let p1 : List ℕ = bars sheet (record { below = lane_top lane + 25; height = 3 }) (clip sheet x) in
    let p2 : List ℕ = text_at sheet x.begin 1 (lane_top lane + 22) in
    let p3 : List ℕ = codes "withheld</text></g>\n" in
    let q0 : List ℕ = p0 in
    let q1 : List ℕ = q0 ++ p1 in
    let q2 : List ℕ = q1 ++ p2 in
    let q3 : List ℕ = q2 ++ p3 in
    let s0 : c.push_title.new.text.items ≡ text ++ q0 = c.in_ok-push_title.ensures in
    let s1 : c.push_bars.new.text.items ≡ text ++ q1 = more text c.push_title.new.text.items c.push_bars.new.text.items q0 p1 s0 (c.in_ok-push_bars.ensures ∙ ap (λ (z : List ℕ). c.push_title.new.text.items ++ z) (ap (λ (v : ℕ). bars sheet (record { below = v + 25; height = 3 }) c.clip.result) c.lane_top-below.ensures.value ∙ ap (λ (y : Stretch). bars sheet (record { below = lane_top lane + 25; height = 3 }) y) c.clip.ensures.value)) in
    let s2 : c.push_text_at.new.text.items ≡ text ++ q2 = more text c.push_bars.new.text.items c.push_text_at.new.text.items q1 p2 s1 (c.in_ok-push_text_at.ensures ∙ ap (λ (z : List ℕ). c.push_bars.new.text.items ++ z) (ap (λ (v : ℕ). text_at sheet x.begin 1 (v + 22)) (c.lane_top-below.ensures.value))) in
    front c.extend_from_slice.result text c.push_text_at.new.text.items c.extend_from_slice.new.self.items q2 p3 s2 (octets c.extend_from_slice.result c.push_text_at.new.text.items c.extend_from_slice.new.self.items p3 c.extend_from_slice.ensures.items)
