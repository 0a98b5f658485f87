use Rattle.std.proofs.Common.{◌≡◌, ◌∙◌, ap, ◌++◌, ℕ, List}
use Rattle.std.specs.Prelude.{codes}
use Rattle.std.proofs.Common.{map}
use Rattle.pb_telegram.specs.declared.chars.RxChar.TheVariants.{Good}
use Rattle.law_turn.specs.Arrivals.{arrival_of}
use Rattle.pb_medium.specs.Entries.{record_of}
use Rattle.pb_export.specs.Json.{span_text, speaker_text, said_text, heard_text}
use Rattle.pb_texts.proofs.Pieces.{front, more, octets}
use Rattle.pb_export.proofs.json.push_record.Goals as goal

pub returns : goal.returns
returns c =
    let s = c.args.scenario.now in
    let r = record_of c.args.telegram.now in
    let text = c.args.text.now.items in
    let p0 : List ℕ = span_text c.args.telegram.now.begin c.args.telegram.now.end in
    let p1 : List ℕ = speaker_text s r in
    let p2 : List ℕ = said_text (arrival_of (map Good r.octets)) in
    let p3 : List ℕ = codes ",\"heard\":{" in
    let p4 : List ℕ = heard_text s 0 r.heard in
    let p5 : List ℕ = codes "}}\n" in
    let q0 : List ℕ = p0 in
    let q1 : List ℕ = q0 ++ p1 in
    let q2 : List ℕ = q1 ++ p2 in
    let q3 : List ℕ = q2 ++ p3 in
    let q4 : List ℕ = q3 ++ p4 in
    let q5 : List ℕ = q4 ++ p5 in
    let s0 : c.push_span.new.text.items ≡ text ++ q0 = c.in_ok-push_span.ensures in
    let s1 : c.push_speaker.new.text.items ≡ text ++ q1 = more text c.push_span.new.text.items c.push_speaker.new.text.items q0 p1 s0 (c.in_ok-push_speaker.ensures) in
    let s2 : c.push_said.new.text.items ≡ text ++ q2 = more text c.push_speaker.new.text.items c.push_said.new.text.items q1 p2 s1 (c.in_ok-push_said.ensures ∙ ap (λ (z : List ℕ). c.push_speaker.new.text.items ++ z) (ap (λ (xs : List ℕ). said_text (arrival_of (map Good xs))) c.deref.ensures.0)) in
    let s3 : c.extend_from_slice.new.self.items ≡ text ++ q3 = more text c.push_said.new.text.items c.extend_from_slice.new.self.items q2 p3 s2 (c.in_ok-extend_from_slice.ensures.items) in
    let s4 : c.push_heard.new.text.items ≡ text ++ q4 = more text c.extend_from_slice.new.self.items c.push_heard.new.text.items q3 p4 s3 (c.in_ok-push_heard.ensures) in
    front c.extend_from_slice-2.result text c.push_heard.new.text.items c.extend_from_slice-2.new.self.items q4 p5 s4 (octets c.extend_from_slice-2.result c.push_heard.new.text.items c.extend_from_slice-2.new.self.items p5 c.extend_from_slice-2.ensures.items)
