use Rattle.std.proofs.Common.{◌≡◌, ◌∙◌, ap, ◌++◌, List, ℕ}
use Rattle.std.specs.Prelude.{codes}
use Rattle.pb_texts.proofs.Pieces.{front, last, more}
use Rattle.pb_texts.specs.Bounds.{silence_bound}
use Rattle.pb_timers.specs.Timers.{tto}
use Rattle.law_live.specs.NeverDead.{longest_without}
use Rattle.pb_texts.specs.declared.numbers.Rounding.TheVariants.{Up}
use Rattle.pb_texts.specs.Texts.{number_line}
use Rattle.pb_texts.proofs.texts.push_master.Goals as goal

pub returns : goal.returns
returns c =
    let baud = c.args.baud in
    let p0 : List ℕ = c.args.name.now in
    let p1 : List ℕ = number_line Up baud (codes ": time-out ") (tto c.args.params.now c.args.address) (codes "a_claim_waits_for_a_time_out") in
    let p2 : List ℕ = c.args.name.now in
    let p3 : List ℕ = number_line Up baud (codes ": silence bound ") (silence_bound c.args.params.now c.args.address) (codes "no_master_is_left_in_silence") in
    let p4 : List ℕ = c.args.name.now in
    let p5 : List ℕ = number_line Up baud (codes ": never-dead bound ") (longest_without c.args.params.now c.args.address) (codes "the_bus_is_never_dead") in
    let q0 : List ℕ = p0 in
    let q1 : List ℕ = q0 ++ p1 in
    let q2 : List ℕ = q1 ++ p2 in
    let q3 : List ℕ = q2 ++ p3 in
    let q4 : List ℕ = q3 ++ p4 in
    let q5 : List ℕ = q4 ++ p5 in
    let s0 : c.extend_from_slice.new.self.items ≡ c.args.text.now.items ++ q0 = c.in_ok-extend_from_slice.ensures.items ∙ ap (λ (xs : List ℕ). c.args.text.now.items ++ xs) c.as_bytes.ensures.value in
    let s1 : c.push_line.new.text.items ≡ c.args.text.now.items ++ q1 = more c.args.text.now.items c.extend_from_slice.new.self.items c.push_line.new.text.items q0 p1 s0 (c.in_ok-push_line.ensures ∙ ap (λ (n : ℕ). c.extend_from_slice.new.self.items ++ number_line Up baud (codes ": time-out ") (n) (codes "a_claim_waits_for_a_time_out")) c.tto.ensures.value) in
    let s2 : c.extend_from_slice-2.new.self.items ≡ c.args.text.now.items ++ q2 = more c.args.text.now.items c.push_line.new.text.items c.extend_from_slice-2.new.self.items q1 p2 s1 (c.in_ok-extend_from_slice-2.ensures.items ∙ ap (λ (xs : List ℕ). c.push_line.new.text.items ++ xs) c.as_bytes-2.ensures.value) in
    let s3 : c.push_line-2.new.text.items ≡ c.args.text.now.items ++ q3 = more c.args.text.now.items c.extend_from_slice-2.new.self.items c.push_line-2.new.text.items q2 p3 s2 (c.in_ok-push_line-2.ensures ∙ ap (λ (n : ℕ). c.extend_from_slice-2.new.self.items ++ number_line Up baud (codes ": silence bound ") (n) (codes "no_master_is_left_in_silence")) c.silence_bound.ensures) in
    let s4 : c.extend_from_slice-3.new.self.items ≡ c.args.text.now.items ++ q4 = more c.args.text.now.items c.push_line-2.new.text.items c.extend_from_slice-3.new.self.items q3 p4 s3 (c.in_ok-extend_from_slice-3.ensures.items ∙ ap (λ (xs : List ℕ). c.push_line-2.new.text.items ++ xs) c.as_bytes-3.ensures.value) in
    front c.push_line-3.result c.args.text.now.items c.extend_from_slice-3.new.self.items c.push_line-3.new.text.items q4 p5 s4 (last c.push_line-3.result c.extend_from_slice-3.new.self.items c.push_line-3.new.text.items (number_line Up baud (codes ": never-dead bound ") (c.longest_without.result) (codes "the_bus_is_never_dead")) p5 (ap (λ (n : ℕ). number_line Up baud (codes ": never-dead bound ") (n) (codes "the_bus_is_never_dead")) c.longest_without.ensures) c.push_line-3.ensures)
