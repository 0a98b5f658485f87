use Rattle.std.proofs.Common.{◌≡◌, ◌∙◌, ap, ◌++◌, ℕ, List}
use Rattle.std.specs.Prelude.{codes}
use Rattle.pb_export.specs.Vcd.{idle_string, idle_lines}
use Rattle.pb_texts.proofs.Pieces.{front, more, octets}
use Rattle.pb_export.proofs.vcd.push_idle.Goals as goal

pub returns : goal.returns
returns c =
    let text = c.args.text.now.items in
    let p0 : List ℕ = codes "$dumpvars\n1b\n" in
    let p1 : List ℕ = idle_string c.args.strings in
    let p2 : List ℕ = idle_lines 0 c.args.taps in
    let p3 : List ℕ = codes "$end\n" in
    let q0 : List ℕ = p0 in
    let q1 : List ℕ = q0 ++ p1 in
    let q2 : List ℕ = q1 ++ p2 in
    let q3 : List ℕ = q2 ++ p3 in
    let s0 : c.extend_from_slice.new.self.items ≡ text ++ q0 = c.in_ok-extend_from_slice.ensures.items in
    let s1 : c.extend_from_slice-2.new.self.items ≡ text ++ q1 = more text c.extend_from_slice.new.self.items c.extend_from_slice-2.new.self.items q0 p1 s0 (c.in_ok-extend_from_slice-2.ensures.items ∙ ap (λ (z : List ℕ). c.extend_from_slice.new.self.items ++ z) (c.idle_string.ensures)) in
    let s2 : c.push_idle_lines.new.text.items ≡ text ++ q2 = more text c.extend_from_slice-2.new.self.items c.push_idle_lines.new.text.items q1 p2 s1 (c.in_ok-push_idle_lines.ensures) in
    front c.extend_from_slice-3.result text c.push_idle_lines.new.text.items c.extend_from_slice-3.new.self.items q2 p3 s2 (octets c.extend_from_slice-3.result c.push_idle_lines.new.text.items c.extend_from_slice-3.new.self.items p3 c.extend_from_slice-3.ensures.items)
