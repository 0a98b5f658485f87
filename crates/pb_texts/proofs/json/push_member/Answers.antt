use Rattle.std.proofs.Common.{◌≡◌, ◌++◌, List, ℕ}
use Rattle.std.specs.Prelude.{codes, decimal}
use Rattle.pb_texts.proofs.Pieces.{front, more, octets}
use Rattle.pb_texts.specs.Texts.{member, millis}
use Rattle.pb_texts.proofs.json.push_member.Goals as goal

pub returns : goal.returns
unfolding member
returns c =
    let baud = c.args.baud in
    let p0 : List ℕ = c.args.key.now in
    let p1 : List ℕ = codes "{\"bit_times\":" in
    let p2 : List ℕ = decimal c.args.bits in
    let p3 : List ℕ = codes ",\"ms\":" in
    let p4 : List ℕ = millis c.args.rounding baud c.args.bits in
    let p5 : List ℕ = codes "}" in
    let q0 : List ℕ = p0 in
    let q1 : List ℕ = q0 ++ p1 in
    let q2 : List ℕ = q1 ++ p2 in
    let q3 : List ℕ = q2 ++ p3 in
    let q4 : List ℕ = q3 ++ p4 in
    let q5 : List ℕ = q4 ++ p5 in
    let s0 : c.extend_from_slice.new.self.items ≡ c.args.text.now.items ++ q0 = c.in_ok-extend_from_slice.ensures.items in
    let s1 : c.extend_from_slice-2.new.self.items ≡ c.args.text.now.items ++ q1 = more c.args.text.now.items c.extend_from_slice.new.self.items c.extend_from_slice-2.new.self.items q0 p1 s0 (c.in_ok-extend_from_slice-2.ensures.items) in
    let s2 : c.push_number.new.text.items ≡ c.args.text.now.items ++ q2 = more c.args.text.now.items c.extend_from_slice-2.new.self.items c.push_number.new.text.items q1 p2 s1 (c.in_ok-push_number.ensures) in
    let s3 : c.extend_from_slice-3.new.self.items ≡ c.args.text.now.items ++ q3 = more c.args.text.now.items c.push_number.new.text.items c.extend_from_slice-3.new.self.items q2 p3 s2 (c.in_ok-extend_from_slice-3.ensures.items) in
    let s4 : c.push_millis.new.text.items ≡ c.args.text.now.items ++ q4 = more c.args.text.now.items c.extend_from_slice-3.new.self.items c.push_millis.new.text.items q3 p4 s3 (c.in_ok-push_millis.ensures) in
    front c.extend_from_slice-4.result c.args.text.now.items c.push_millis.new.text.items c.extend_from_slice-4.new.self.items q4 p5 s4 (octets c.extend_from_slice-4.result c.push_millis.new.text.items c.extend_from_slice-4.new.self.items p5 c.extend_from_slice-4.ensures.items)
