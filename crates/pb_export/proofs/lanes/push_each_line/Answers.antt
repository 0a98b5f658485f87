use Rattle.std.proofs.Common.{refl, arith}
use Rattle.pb_export.specs.Lanes.{line, lines_from}
use Rattle.pb_export.proofs.Loops.{count-step}
use Rattle.pb_export.proofs.lanes.push_each_line.Goals as goal

pub loop-lane-preserved : goal.loop-lane-preserved
loop-lane-preserved c =
    count-step (lines_from c.args.sheet) (line c.args.sheet) c.loop-lane.lane c.args.sheet.lanes
    c.loop-lane.text.items c.push_line.new.text.items _ (λ k n. refl) (omega (arith, c.loop-lane-test.true, c.lanes-lane-end.ensures.value)) c.in_ok-push_line.ensures c.loop-lane.invariant
