use Rattle.pb_segment.proofs.segments.SharedSegment.close.Goals as goal

pub returns-in-None-clause-seats : goal.returns-in-None-clause-seats
returns-in-None-clause-seats g c = rw c.into_report.ensures.history c.in-None.ensures.1.1.seats
