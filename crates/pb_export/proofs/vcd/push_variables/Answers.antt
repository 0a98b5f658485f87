use Rattle.std.proofs.Common.{◌≡◌, ◌∙◌, ap, ◌++◌, ℕ, List}
use Rattle.std.specs.Prelude.{codes}
use Rattle.pb_export.specs.Vcd.{string_variable, line_variables}
use Rattle.pb_texts.proofs.Pieces.{front, more, octets}
use Rattle.pb_export.proofs.vcd.push_variables.Goals as goal

pub returns : goal.returns
returns c =
    let text = c.args.text.now.items in
    let p0 : List ℕ = codes "$version ringplay $end\n$timescale 1 ns $end\n" in
    let p1 : List ℕ = codes "$scope module ringplay $end\n$var wire 1 b bus $end\n" in
    let p2 : List ℕ = string_variable c.args.strings in
    let p3 : List ℕ = codes "$scope module stations $end\n" in
    let p4 : List ℕ = line_variables 0 c.args.scenario.now.names in
    let p5 : List ℕ = codes "$upscope $end\n$upscope $end\n$enddefinitions $end\n" in
    let q0 : List ℕ = p0 in
    let q1 : List ℕ = q0 ++ p1 in
    let q2 : List ℕ = q1 ++ p2 in
    let q3 : List ℕ = q2 ++ p3 in
    let q4 : List ℕ = q3 ++ p4 in
    let q5 : List ℕ = q4 ++ p5 in
    let s0 : c.extend_from_slice.new.self.items ≡ text ++ q0 = c.in_ok-extend_from_slice.ensures.items in
    let s1 : c.extend_from_slice-2.new.self.items ≡ text ++ q1 = more text c.extend_from_slice.new.self.items c.extend_from_slice-2.new.self.items q0 p1 s0 (c.in_ok-extend_from_slice-2.ensures.items) in
    let s2 : c.extend_from_slice-3.new.self.items ≡ text ++ q2 = more text c.extend_from_slice-2.new.self.items c.extend_from_slice-3.new.self.items q1 p2 s1 (c.in_ok-extend_from_slice-3.ensures.items ∙ ap (λ (z : List ℕ). c.extend_from_slice-2.new.self.items ++ z) (c.string_variable.ensures)) in
    let s3 : c.extend_from_slice-4.new.self.items ≡ text ++ q3 = more text c.extend_from_slice-3.new.self.items c.extend_from_slice-4.new.self.items q2 p3 s2 (c.in_ok-extend_from_slice-4.ensures.items) in
    let s4 : c.push_lines.new.text.items ≡ text ++ q4 = more text c.extend_from_slice-4.new.self.items c.push_lines.new.text.items q3 p4 s3 (c.in_ok-push_lines.ensures) in
    front c.extend_from_slice-5.result text c.push_lines.new.text.items c.extend_from_slice-5.new.self.items q4 p5 s4 (octets c.extend_from_slice-5.result c.push_lines.new.text.items c.extend_from_slice-5.new.self.items p5 c.extend_from_slice-5.ensures.items)
