use Rattle.std.proofs.Common.{refl, arith}
use Rattle.pb_export.specs.Places.{rows}
use Rattle.pb_export.specs.CaptureSvg.{row_text, rows_from}
use Rattle.pb_export.proofs.Loops.{count-step}
use Rattle.pb_export.proofs.capture_svg.push_rows.Goals as goal

pub loop-strip-preserved : goal.loop-strip-preserved
loop-strip-preserved c =
    count-step (rows_from c.args.sheet c.args.lanes.now) (row_text c.args.sheet c.args.lanes.now) c.loop-strip.strip (rows c.args.sheet)
    c.loop-strip.text.items c.push_row.new.text.items _ (λ k n. refl) (omega (arith, c.loop-strip-test.true, c.rows-strip-end.ensures.value)) c.in_ok-push_row.ensures c.loop-strip.invariant
