use Rattle.std.proofs.Common.{◌∙◌, length, ap, sym}
use Rattle.pb_segment.proofs.segments.SharedSegment.close_beside.Goals as goal

pub returns-in-Ok-clause-closed : goal.returns-in-Ok-clause-closed
returns-in-Ok-clause-closed g c =
    let told = c.into_report.ensures in
    let can = c.in-Ok.ensures.can in
    record {
      report = told.report;
      origin = told.origin ∙ can.1.1.origin;
      conductor = rw told.history can.1.1.conductor;
      outlooks = told.outlooks ∙ can.1.0;
      seats = rw told.history can.1.1.seats;
      taps = ap length told.turns ∙ sym can.0;
      all = told.all;
    }
