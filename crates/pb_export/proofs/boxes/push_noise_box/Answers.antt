use Rattle.std.proofs.Common.{◌≡◌, ap, ◌++◌, ℕ, List}
use Rattle.std.specs.Prelude.{codes}
use Rattle.pb_medium.specs.Entries.{entry_of}
use Rattle.pb_scenario.specs.Texts.{entry_text}
use Rattle.pb_export.specs.Places.{clip}
use Rattle.pb_export.specs.Boxes.{noise_bars}
use Rattle.pb_texts.proofs.Pieces.{front, last, more}
use Rattle.pb_export.proofs.boxes.push_noise_box.Goals as goal

pub returns : goal.returns
returns c =
    let text = c.args.text.now.items in
    let p0 : List ℕ = codes "<g class=\"noise\"><title>" in
    let p1 : List ℕ = entry_text c.args.scenario.now.names (entry_of c.args.entry.now) in
    let p2 : List ℕ = codes "</title>" in
    let p3 : List ℕ = noise_bars c.args.sheet (clip c.args.sheet c.args.stretch) in
    let q0 : List ℕ = p0 in
    let q1 : List ℕ = q0 ++ p1 in
    let q2 : List ℕ = q1 ++ p2 in
    let q3 : List ℕ = q2 ++ p3 in
    let s0 : c.extend_from_slice.new.self.items ≡ text ++ q0 = c.in_ok-extend_from_slice.ensures.items in
    let s1 : c.push_entry_line.new.text.items ≡ text ++ q1 = more text c.extend_from_slice.new.self.items c.push_entry_line.new.text.items q0 p1 s0 (c.in_ok-push_entry_line.ensures) in
    let s2 : c.extend_from_slice-2.new.self.items ≡ text ++ q2 = more text c.push_entry_line.new.text.items c.extend_from_slice-2.new.self.items q1 p2 s1 (c.in_ok-extend_from_slice-2.ensures.items) in
    front c.push_noise.result text c.extend_from_slice-2.new.self.items c.push_noise.new.text.items q2 p3 s2 (last c.push_noise.result c.extend_from_slice-2.new.self.items c.push_noise.new.text.items _ p3 (ap (noise_bars c.args.sheet) c.clip.ensures.value) (c.push_noise.ensures))
