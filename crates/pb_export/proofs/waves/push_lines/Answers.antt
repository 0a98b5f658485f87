use Rattle.std.proofs.Common.{map, refl, arith}
use Rattle.std.specs.List.{flat_map}
use Rattle.pb_medium.specs.Entries.{entry_of}
use Rattle.pb_export.specs.Vcd.{entry_change}
use Rattle.pb_taps.proofs.Items.{found-at}
use Rattle.pb_export.proofs.Loops.{item-step}
use Rattle.pb_export.proofs.waves.push_lines.Goals as goal

pub loop-entry-preserved : goal.loop-entry-preserved
loop-entry-preserved c =
    let xs = c.args.entries.now in
    let i = c.loop-entry.entry-index in
    let x = c.entry-item.result in
    let here = found-at xs i x (omega (arith, c.loop-entry-test.true)) c.entry-item.is in
    item-step (λ k ys. flat_map (entry_change c.args.window c.args.now) (map entry_of ys)) (λ k y. entry_change c.args.window c.args.now (entry_of y)) xs i x c.loop-entry.changes.items c.push_entry.new.changes.items _
    (λ k y ys. refl) here c.in_ok-push_entry.ensures c.loop-entry.invariant
