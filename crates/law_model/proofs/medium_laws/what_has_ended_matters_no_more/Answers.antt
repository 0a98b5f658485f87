use Rattle.law_model.proofs.Past.{marks_between-skip, next_end_of-skip, trace_at-skip}
use Rattle.law_model.proofs.medium_laws.what_has_ended_matters_no_more.Goals as goal

pub returns-clause-ends : goal.returns-clause-ends
returns-clause-ends c = next_end_of-skip

pub returns-clause-telegrams : goal.returns-clause-telegrams
returns-clause-telegrams c = trace_at-skip

pub returns-clause-marks : goal.returns-clause-marks
returns-clause-marks c = marks_between-skip
