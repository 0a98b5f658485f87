use Rattle.std.proofs.Common.{map, refl, arith}
use Rattle.pb_medium.specs.Entries.{entry_of}
use Rattle.pb_export.specs.Windows.{if_shown, shown_in}
use Rattle.pb_export.specs.Pcapng.{entry_block}
use Rattle.pb_taps.proofs.Items.{found-at}
use Rattle.pb_export.proofs.Loops.{item-step}
use Rattle.pb_export.proofs.pcapng.push_entries.Goals as goal

pub loop-entry-preserved : goal.loop-entry-preserved
loop-entry-preserved c =
    let xs = c.args.entries.now in
    let i = c.loop-entry.entry-index in
    let x = c.entry-item.result in
    let here = found-at xs i x (omega (arith, c.loop-entry-test.true)) c.entry-item.is in
    item-step (λ k ys. shown_in c.args.window (entry_block c.args.baud c.args.scenario.now) (map entry_of ys)) (λ k y. if_shown c.args.window (entry_block c.args.baud c.args.scenario.now) (entry_of y)) xs i x c.loop-entry.file.items c.push_shown.new.file.items _
    (λ k y ys. refl) here c.in_ok-push_shown.ensures c.loop-entry.invariant
