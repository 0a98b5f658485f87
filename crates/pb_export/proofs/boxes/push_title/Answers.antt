use Rattle.std.proofs.Common.{◌≡◌, ◌∙◌, ap, ◌++◌, ◌∷◌, [], ℕ, List}
use Rattle.std.specs.Prelude.{codes}
use Rattle.std.proofs.Common.{map}
use Rattle.pb_telegram.specs.declared.chars.RxChar.TheVariants.{Good}
use Rattle.law_turn.specs.Arrivals.{arrival_of}
use Rattle.pb_medium.specs.Entries.{record_of}
use Rattle.law_model.specs.Trace.{Entry, Sent}
use Rattle.pb_scenario.specs.Texts.{entry_text}
use Rattle.pb_export.specs.Pieces.{all_of}
use Rattle.pb_export.specs.Saying.{kind_of}
use Rattle.pb_export.specs.Boxes.{class_of, decoded}
use Rattle.pb_texts.proofs.Pieces.{front, more, octets}
use Rattle.pb_export.proofs.boxes.push_title.Goals as goal

pub returns : goal.returns
returns c =
    let s = c.args.scenario.now in
    let r = record_of c.args.telegram.now in
    let text = c.args.text.now.items in
    let p0 : List ℕ = all_of (codes "<g class=\"" ∷ class_of (kind_of (arrival_of (map Good r.octets))) ∷ codes "\"><title>" ∷ []) in
    let p1 : List ℕ = entry_text s.names (Sent r) in
    let p2 : List ℕ = decoded r.octets in
    let p3 : List ℕ = codes "</title>" in
    let q0 : List ℕ = p0 in
    let q1 : List ℕ = q0 ++ p1 in
    let q2 : List ℕ = q1 ++ p2 in
    let q3 : List ℕ = q2 ++ p3 in
    let s0 : c.push_pieces.new.text.items ≡ text ++ q0 = c.in_ok-push_pieces.ensures ∙ ap (λ (z : List ℕ). text ++ z) (ap (λ (v : List ℕ). all_of (codes "<g class=\"" ∷ v ∷ codes "\"><title>" ∷ [])) (c.class_of.ensures ∙ ap class_of (c.kind_of.ensures ∙ ap (λ (xs : List ℕ). kind_of (arrival_of (map Good xs))) c.deref.ensures.0))) in
    let s1 : c.push_entry_line.new.text.items ≡ text ++ q1 = more text c.push_pieces.new.text.items c.push_entry_line.new.text.items q0 p1 s0 (c.in_ok-push_entry_line.ensures ∙ ap (λ (z : List ℕ). c.push_pieces.new.text.items ++ z) (ap (λ (e : Entry). entry_text s.names e) c.requires)) in
    let s2 : c.push_decoded.new.text.items ≡ text ++ q2 = more text c.push_entry_line.new.text.items c.push_decoded.new.text.items q1 p2 s1 (c.in_ok-push_decoded.ensures ∙ ap (λ (z : List ℕ). c.push_entry_line.new.text.items ++ z) (ap decoded c.deref-2.ensures.0)) in
    front c.extend_from_slice.result text c.push_decoded.new.text.items c.extend_from_slice.new.self.items q2 p3 s2 (octets c.extend_from_slice.result c.push_decoded.new.text.items c.extend_from_slice.new.self.items p3 c.extend_from_slice.ensures.items)
