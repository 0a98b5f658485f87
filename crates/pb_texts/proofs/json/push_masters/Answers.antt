use Rattle.std.proofs.Common.{◌≡◌, ◌++◌, List, ℕ}
use Rattle.std.specs.Prelude.{codes}
use Rattle.pb_texts.proofs.Pieces.{front, more, octets}
use Rattle.std.proofs.Common.{false}
use Rattle.pb_texts.specs.Texts.{masters_member, master_objects}
use Rattle.pb_texts.proofs.json.push_masters.Goals as goal

pub returns : goal.returns
unfolding masters_member
returns c =
    let baud = c.args.baud in
    let p0 : List ℕ = codes ",\"masters\":[" in
    let p1 : List ℕ = master_objects baud c.args.scenario.now.scenario.params false c.args.scenario.now.names c.args.scenario.now.scenario.taps in
    let p2 : List ℕ = codes "]" in
    let q0 : List ℕ = p0 in
    let q1 : List ℕ = q0 ++ p1 in
    let q2 : List ℕ = q1 ++ p2 in
    let s0 : c.extend_from_slice.new.self.items ≡ c.args.text.now.items ++ q0 = c.in_ok-extend_from_slice.ensures.items in
    let s1 : c.push_objects.new.text.items ≡ c.args.text.now.items ++ q1 = more c.args.text.now.items c.extend_from_slice.new.self.items c.push_objects.new.text.items q0 p1 s0 (c.in_ok-push_objects.ensures) in
    front c.extend_from_slice-2.result c.args.text.now.items c.push_objects.new.text.items c.extend_from_slice-2.new.self.items q1 p2 s1 (octets c.extend_from_slice-2.result c.push_objects.new.text.items c.extend_from_slice-2.new.self.items p2 c.extend_from_slice-2.ensures.items)
