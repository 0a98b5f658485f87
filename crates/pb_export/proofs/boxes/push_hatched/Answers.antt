use Rattle.std.proofs.Common.{◌≡◌, ◌++◌, ℕ, List}
use Rattle.std.specs.Prelude.{codes}
use Rattle.pb_export.specs.Places.{bars}
use Rattle.pb_texts.proofs.Pieces.{front, more, octets}
use Rattle.pb_export.proofs.boxes.push_hatched.Goals as goal

pub returns : goal.returns
returns c =
    let text = c.args.text.now.items in
    let p0 : List ℕ = codes "<g class=\"hatched\">" in
    let p1 : List ℕ = bars c.args.sheet c.args.bar c.args.stretch in
    let p2 : List ℕ = codes "</g>" in
    let q0 : List ℕ = p0 in
    let q1 : List ℕ = q0 ++ p1 in
    let q2 : List ℕ = q1 ++ p2 in
    let s0 : c.extend_from_slice.new.self.items ≡ text ++ q0 = c.in_ok-extend_from_slice.ensures.items in
    let s1 : c.push_bars.new.text.items ≡ text ++ q1 = more text c.extend_from_slice.new.self.items c.push_bars.new.text.items q0 p1 s0 (c.in_ok-push_bars.ensures) in
    front c.extend_from_slice-2.result text c.push_bars.new.text.items c.extend_from_slice-2.new.self.items q1 p2 s1 (octets c.extend_from_slice-2.result c.push_bars.new.text.items c.extend_from_slice-2.new.self.items p2 c.extend_from_slice-2.ensures.items)
