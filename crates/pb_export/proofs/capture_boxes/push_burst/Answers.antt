use Rattle.std.proofs.Common.{◌≡◌, ◌++◌, ℕ, List, ◌∙◌, ap}
use Rattle.std.specs.Prelude.{codes, ◌+◌}
use Rattle.std.proofs.Common.{Bool}
use Rattle.law_turn.specs.Arrivals.{arrival_of}
use Rattle.pb_telegram.specs.declared.chars.RxChar.{RxChar}
use Rattle.pb_monitor.specs.Meanings.{is_none}
use Rattle.pb_export.specs.Boxes.{hatched_if}
use Rattle.pb_export.specs.Bursts.{is_damaged}
use Rattle.pb_export.specs.Places.{bars, text_at, word_moment}
use Rattle.pb_export.specs.Saying.{word_text}
use Rattle.pb_texts.proofs.Pieces.{front, more, octets}
use Rattle.pb_export.proofs.capture_boxes.push_burst.Goals as goal

pub returns : goal.returns
returns c =
    let sheet = c.args.sheet in
    let x = c.args.stretch in
    let bar = c.args.bar in
    let b = c.args.burst.now in
    let text = c.args.text.now.items in
    let p0 : List ℕ = bars sheet bar x in
    let p1 : List ℕ = hatched_if (is_damaged b) sheet bar x in
    let p2 : List ℕ = text_at sheet (word_moment sheet x) 3 (bar.below + 14) in
    let p3 : List ℕ = word_text (arrival_of b.chars.items) in
    let p4 : List ℕ = codes "</text></g>\n" in
    let q0 : List ℕ = p0 in
    let q1 : List ℕ = q0 ++ p1 in
    let q2 : List ℕ = q1 ++ p2 in
    let q3 : List ℕ = q2 ++ p3 in
    let q4 : List ℕ = q3 ++ p4 in
    let s0 : c.push_bars.new.text.items ≡ text ++ q0 = c.in_ok-push_bars.ensures in
    let s1 : c.push_hatched_if.new.text.items ≡ text ++ q1 = more text c.push_bars.new.text.items c.push_hatched_if.new.text.items q0 p1 s0 (c.in_ok-push_hatched_if.ensures ∙ ap (λ (z : List ℕ). c.push_bars.new.text.items ++ z) (ap (λ (t : Bool). hatched_if t sheet bar x) (c.is_damaged.ensures ∙ ap (λ (xs : List RxChar). is_none (arrival_of xs)) c.deref.ensures.0))) in
    let s2 : c.push_text_at.new.text.items ≡ text ++ q2 = more text c.push_hatched_if.new.text.items c.push_text_at.new.text.items q1 p2 s1 (c.in_ok-push_text_at.ensures ∙ ap (λ (z : List ℕ). c.push_hatched_if.new.text.items ++ z) (ap (λ (t : ℕ). text_at sheet t 3 (bar.below + 14)) c.word_moment-at.ensures.value)) in
    let s3 : c.push_word_of.new.text.items ≡ text ++ q3 = more text c.push_text_at.new.text.items c.push_word_of.new.text.items q2 p3 s2 (c.in_ok-push_word_of.ensures ∙ ap (λ (z : List ℕ). c.push_text_at.new.text.items ++ z) (ap word_text (c.whole_telegram.ensures ∙ ap arrival_of c.deref-2.ensures.0))) in
    front c.extend_from_slice.result text c.push_word_of.new.text.items c.extend_from_slice.new.self.items q3 p4 s3 (octets c.extend_from_slice.result c.push_word_of.new.text.items c.extend_from_slice.new.self.items p4 c.extend_from_slice.ensures.items)
