use Rattle.std.proofs.Common.{◌≡◌, ◌++◌, ℕ, List, ◌∙◌, ap}
use Rattle.std.specs.Prelude.{codes}
use Rattle.std.specs.List.{flat_map}
use Rattle.law_turn.specs.Arrivals.{arrival_of}
use Rattle.pb_telegram.specs.declared.chars.RxChar.{RxChar}
use Rattle.pb_export.specs.BurstJson.{alarm_text, char_hex, holder_text, state_text}
use Rattle.pb_export.specs.Json.{said_text, span_text}
use Rattle.pb_texts.proofs.Pieces.{front, more, octets}
use Rattle.pb_export.proofs.burst_json.push_burst_line.Goals as goal

pub returns : goal.returns
returns c =
    let b = c.args.burst.now in
    let text = c.args.text.now.items in
    let p0 : List ℕ = span_text b.begin b.end in
    let p1 : List ℕ = codes ",\"octets\":\"" in
    let p2 : List ℕ = flat_map char_hex b.chars.items in
    let p3 : List ℕ = state_text b in
    let p4 : List ℕ = said_text (arrival_of b.chars.items) in
    let p5 : List ℕ = holder_text b.holder in
    let p6 : List ℕ = alarm_text b.alarm in
    let p7 : List ℕ = codes "}\n" in
    let q0 : List ℕ = p0 in
    let q1 : List ℕ = q0 ++ p1 in
    let q2 : List ℕ = q1 ++ p2 in
    let q3 : List ℕ = q2 ++ p3 in
    let q4 : List ℕ = q3 ++ p4 in
    let q5 : List ℕ = q4 ++ p5 in
    let q6 : List ℕ = q5 ++ p6 in
    let q7 : List ℕ = q6 ++ p7 in
    let s0 : c.push_span.new.text.items ≡ text ++ q0 = c.in_ok-push_span.ensures in
    let s1 : c.extend_from_slice.new.self.items ≡ text ++ q1 = more text c.push_span.new.text.items c.extend_from_slice.new.self.items q0 p1 s0 (c.in_ok-extend_from_slice.ensures.items) in
    let s2 : c.push_chars.new.text.items ≡ text ++ q2 = more text c.extend_from_slice.new.self.items c.push_chars.new.text.items q1 p2 s1 (c.in_ok-push_chars.ensures ∙ ap (λ (z : List ℕ). c.extend_from_slice.new.self.items ++ z) (ap (λ (xs : List RxChar). flat_map char_hex xs) c.deref.ensures.0)) in
    let s3 : c.push_state.new.text.items ≡ text ++ q3 = more text c.push_chars.new.text.items c.push_state.new.text.items q2 p3 s2 (c.in_ok-push_state.ensures) in
    let s4 : c.push_telegram.new.text.items ≡ text ++ q4 = more text c.push_state.new.text.items c.push_telegram.new.text.items q3 p4 s3 (c.in_ok-push_telegram.ensures ∙ ap (λ (z : List ℕ). c.push_state.new.text.items ++ z) (ap said_text (c.whole_telegram.ensures ∙ ap arrival_of c.deref-2.ensures.0))) in
    let s5 : c.push_holder.new.text.items ≡ text ++ q5 = more text c.push_telegram.new.text.items c.push_holder.new.text.items q4 p5 s4 (c.in_ok-push_holder.ensures) in
    let s6 : c.push_alarm.new.text.items ≡ text ++ q6 = more text c.push_holder.new.text.items c.push_alarm.new.text.items q5 p6 s5 (c.in_ok-push_alarm.ensures) in
    front c.extend_from_slice-2.result text c.push_alarm.new.text.items c.extend_from_slice-2.new.self.items q6 p7 s6 (octets c.extend_from_slice-2.result c.push_alarm.new.text.items c.extend_from_slice-2.new.self.items p7 c.extend_from_slice-2.ensures.items)
