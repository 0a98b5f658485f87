use Rattle.std.proofs.Common.{refl, arith}
use Rattle.pb_export.specs.Places.{rows}
use Rattle.pb_export.specs.Lanes.{row_text, rows_from}
use Rattle.pb_export.proofs.Loops.{count-step}
use Rattle.pb_export.proofs.lanes.push_rows.Goals as goal

pub loop-strip-preserved : goal.loop-strip-preserved
loop-strip-preserved c =
    count-step (rows_from c.args.scenario.now c.args.sheet c.args.taps.now) (row_text c.args.scenario.now c.args.sheet c.args.taps.now) c.loop-strip.strip (rows c.args.sheet)
    c.loop-strip.text.items c.push_row.new.text.items _ (λ k n. refl) (omega (arith, c.loop-strip-test.true, c.rows-strip-end.ensures.value)) c.in_ok-push_row.ensures c.loop-strip.invariant
