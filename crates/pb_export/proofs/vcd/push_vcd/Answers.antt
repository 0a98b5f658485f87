use Rattle.std.proofs.Common.{subst, map}
use Rattle.pb_medium.specs.Entries.{entry_of}
use Rattle.pb_texts.proofs.Pieces.{front, last}
use Rattle.pb_export.specs.declared.dumps.Dump.{Dump}
use Rattle.pb_export.specs.Vcd.{vcd_body, vcd_head}
use Rattle.pb_export.specs.Waves.{IsBegun, waves_from}
use Rattle.pb_export.proofs.InPieces.{begun-waves}
use Rattle.pb_export.proofs.vcd.push_vcd.Goals as goal

pub returns : goal.returns
returns c =
    let s = c.args.scenario.now in
    let w = c.args.window in
    let baud = c.args.baud in
    let strings = c.args.strings in
    let es = map entry_of c.args.entries.now in
    let x : Dump = record { window = w; baud = baud; strings = strings } in
    let text = c.args.text.now.items in
    let until = s.scenario.until in
    let same = begun-waves x until c.begun.result es (subst (λ u. IsBegun w u c.begun.result) c.until.ensures.until c.begun.ensures) in
    front c.push_rest.result text c.push_head.new.text.items c.push_rest.new.text.items (vcd_head baud strings w s) (vcd_body baud strings w until es)
    c.in_ok-push_head.ensures
    (last c.push_rest.result c.push_head.new.text.items c.push_rest.new.text.items (waves_from x c.begun.result es) (vcd_body baud strings w until es) same c.push_rest.ensures)
