use Rattle.std.proofs.Common.{◌≡◌, ◌∙◌, ap, ◌++◌, List, ℕ}
use Rattle.std.specs.Prelude.{codes}
use Rattle.pb_texts.proofs.Pieces.{front, more, octets}
use Rattle.pb_texts.specs.Bounds.{silence_bound}
use Rattle.pb_timers.specs.Timers.{tto}
use Rattle.law_live.specs.NeverDead.{longest_without}
use Rattle.pb_texts.specs.declared.numbers.Rounding.TheVariants.{Up}
use Rattle.pb_texts.specs.Texts.{member}
use Rattle.pb_texts.proofs.json.push_master.Goals as goal

pub returns : goal.returns
returns c =
    let baud = c.args.baud in
    let p0 : List ℕ = codes "{\"name\":\"" in
    let p1 : List ℕ = c.args.name.now in
    let p2 : List ℕ = codes "\"" in
    let p3 : List ℕ = member Up baud (codes ",\"time_out\":") (tto c.args.params.now c.args.address) in
    let p4 : List ℕ = member Up baud (codes ",\"silence_bound\":") (silence_bound c.args.params.now c.args.address) in
    let p5 : List ℕ = member Up baud (codes ",\"never_dead_bound\":") (longest_without c.args.params.now c.args.address) in
    let p6 : List ℕ = codes "}" in
    let q0 : List ℕ = p0 in
    let q1 : List ℕ = q0 ++ p1 in
    let q2 : List ℕ = q1 ++ p2 in
    let q3 : List ℕ = q2 ++ p3 in
    let q4 : List ℕ = q3 ++ p4 in
    let q5 : List ℕ = q4 ++ p5 in
    let q6 : List ℕ = q5 ++ p6 in
    let s0 : c.extend_from_slice.new.self.items ≡ c.args.text.now.items ++ q0 = c.in_ok-extend_from_slice.ensures.items in
    let s1 : c.extend_from_slice-2.new.self.items ≡ c.args.text.now.items ++ q1 = more c.args.text.now.items c.extend_from_slice.new.self.items c.extend_from_slice-2.new.self.items q0 p1 s0 (c.in_ok-extend_from_slice-2.ensures.items ∙ ap (λ (xs : List ℕ). c.extend_from_slice.new.self.items ++ xs) c.as_bytes.ensures.value) in
    let s2 : c.extend_from_slice-3.new.self.items ≡ c.args.text.now.items ++ q2 = more c.args.text.now.items c.extend_from_slice-2.new.self.items c.extend_from_slice-3.new.self.items q1 p2 s1 (c.in_ok-extend_from_slice-3.ensures.items) in
    let s3 : c.push_member.new.text.items ≡ c.args.text.now.items ++ q3 = more c.args.text.now.items c.extend_from_slice-3.new.self.items c.push_member.new.text.items q2 p3 s2 (c.in_ok-push_member.ensures ∙ ap (λ (n : ℕ). c.extend_from_slice-3.new.self.items ++ member Up baud (codes ",\"time_out\":") (n)) c.tto.ensures.value) in
    let s4 : c.push_member-2.new.text.items ≡ c.args.text.now.items ++ q4 = more c.args.text.now.items c.push_member.new.text.items c.push_member-2.new.text.items q3 p4 s3 (c.in_ok-push_member-2.ensures ∙ ap (λ (n : ℕ). c.push_member.new.text.items ++ member Up baud (codes ",\"silence_bound\":") (n)) c.silence_bound.ensures) in
    let s5 : c.push_member-3.new.text.items ≡ c.args.text.now.items ++ q5 = more c.args.text.now.items c.push_member-2.new.text.items c.push_member-3.new.text.items q4 p5 s4 (c.in_ok-push_member-3.ensures ∙ ap (λ (n : ℕ). c.push_member-2.new.text.items ++ member Up baud (codes ",\"never_dead_bound\":") (n)) c.longest_without.ensures) in
    front c.extend_from_slice-4.result c.args.text.now.items c.push_member-3.new.text.items c.extend_from_slice-4.new.self.items q5 p6 s5 (octets c.extend_from_slice-4.result c.push_member-3.new.text.items c.extend_from_slice-4.new.self.items p6 c.extend_from_slice-4.ensures.items)
