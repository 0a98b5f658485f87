use Rattle.std.proofs.Common.{◌≡◌, ◌∙◌, ◌++◌, ℕ, List, ap, sym, length}
use Rattle.std.proofs.lemmas.List.{length-map}
use Rattle.pb_taps.specs.Taps.{spec_of}
use Rattle.pb_texts.proofs.Pieces.{front, last, more}
use Rattle.pb_export.specs.Vcd.{idle, stamp, variables}
use Rattle.pb_export.proofs.vcd.push_head.Goals as goal

pub returns : goal.returns
returns c =
    let s = c.args.scenario.now in
    let x = c.args.dump in
    let text = c.args.text.now.items in
    let taps : length c.taps.result.now ≡ length s.scenario.taps = sym (length-map c.taps.result.now spec_of) ∙ ap length c.taps.ensures.specs in
    let q0 : List ℕ = variables x.strings s in
    let q1 : List ℕ = q0 ++ stamp x.baud x.window.from in
    let s1 : c.push_stamp.new.text.items ≡ text ++ q1 =
    more text c.push_variables.new.text.items c.push_stamp.new.text.items q0 (stamp x.baud x.window.from) c.in_ok-push_variables.ensures c.in_ok-push_stamp.ensures in
    front c.push_idle.result text c.push_stamp.new.text.items c.push_idle.new.text.items q1 (idle x.strings (length s.scenario.taps)) s1
    (last c.push_idle.result c.push_stamp.new.text.items c.push_idle.new.text.items (idle x.strings (length c.taps.result.now)) (idle x.strings (length s.scenario.taps))
    (ap (idle x.strings) taps) c.push_idle.ensures)
