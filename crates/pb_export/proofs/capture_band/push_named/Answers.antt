use Rattle.std.proofs.Common.{◌≡◌, ◌++◌, ℕ, List, ◌∙◌, ap, ◌∷◌, []}
use Rattle.std.specs.Prelude.{codes, decimal}
use Rattle.pb_export.specs.declared.places.Stretch.{Stretch}
use Rattle.pb_export.specs.Boxes.{band_bar, holders}
use Rattle.pb_export.specs.Pieces.{all_of}
use Rattle.pb_export.specs.Places.{bars, clip}
use Rattle.pb_texts.proofs.Pieces.{front, more, octets}
use Rattle.pb_export.proofs.capture_band.push_named.Goals as goal

pub returns : goal.returns
returns c =
    let sheet = c.args.sheet in
    let turn = c.args.turn in
    let class = c.args.class.now in
    let name = c.args.name.now in
    let x = clip sheet (record { begin = turn.begin; end = turn.end }) in
    let text = c.args.text.now.items in
    let p0 : List ℕ = all_of (codes "<g class=\"" ∷ class ∷ codes "\"><title>token: " ∷ name ∷ codes ", " ∷ decimal turn.begin ∷ codes " to " ∷ decimal turn.end ∷ codes "</title>" ∷ []) in
    let p1 : List ℕ = bars sheet band_bar x in
    let p2 : List ℕ = holders sheet x name in
    let p3 : List ℕ = codes "</g>\n" in
    let q0 : List ℕ = p0 in
    let q1 : List ℕ = q0 ++ p1 in
    let q2 : List ℕ = q1 ++ p2 in
    let q3 : List ℕ = q2 ++ p3 in
    let s0 : c.push_pieces.new.text.items ≡ text ++ q0 = c.in_ok-push_pieces.ensures in
    let s1 : c.push_bars.new.text.items ≡ text ++ q1 = more text c.push_pieces.new.text.items c.push_bars.new.text.items q0 p1 s0 (c.in_ok-push_bars.ensures ∙ ap (λ (z : List ℕ). c.push_pieces.new.text.items ++ z) (ap (bars sheet band_bar) c.clip-stretch.ensures.value)) in
    let s2 : c.push_holders.new.text.items ≡ text ++ q2 = more text c.push_bars.new.text.items c.push_holders.new.text.items q1 p2 s1 (c.in_ok-push_holders.ensures ∙ ap (λ (z : List ℕ). c.push_bars.new.text.items ++ z) (ap (λ (y : Stretch). holders sheet y name) c.clip-stretch.ensures.value)) in
    front c.extend_from_slice.result text c.push_holders.new.text.items c.extend_from_slice.new.self.items q2 p3 s2 (octets c.extend_from_slice.result c.push_holders.new.text.items c.extend_from_slice.new.self.items p3 c.extend_from_slice.ensures.items)
