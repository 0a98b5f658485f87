use Rattle.std.proofs.Common.{◌≡◌, ◌∙◌, ◌+◌, ◌-◌, ◌++◌, ap, arith, ℕ, map}
use Rattle.std.specs.Prelude.{min}
use Rattle.pb_medium.specs.Entries.{entry_of}
use Rattle.pb_texts.proofs.Pieces.{front, last}
use Rattle.pb_export.specs.Times.{end_of_time, last_end}
use Rattle.pb_export.specs.Vcd.{moments, stamp}
use Rattle.pb_export.proofs.waves.push_rest.Goals as goal

pub returns : goal.returns
returns c =
    let es = map entry_of c.args.entries.now in
    let x = c.args.dump in
    let d = c.args.waves in
    let text = c.args.text.now.items in
    let end = min end_of_time (last_end x.window d.last es) in
    let is : c.min-last.result ≡ end = omega (arith, c.min-last.ensures, c.last_end.ensures) in
    let waved = moments x.baud x.strings x.window d.gone es d.level d.named d.next (end + 1 - d.next) in
    front c.push_stamp.result text c.push_moments.new.text.items c.push_stamp.new.text.items waved (stamp x.baud end)
    (c.in_ok-push_moments.ensures.text ∙ ap (λ (n : ℕ). text ++ moments x.baud x.strings x.window d.gone es d.level d.named d.next (n + 1 - d.next)) is)
    (last c.push_stamp.result c.push_moments.new.text.items c.push_stamp.new.text.items (stamp x.baud c.min-last.result) (stamp x.baud end) (ap (stamp x.baud) is) c.push_stamp.ensures)
