use Rattle.law_streams.proofs.Judgement.{judged-as-heard, judged-in-pieces, keeps-few}
use Rattle.law_streams.proofs.laws.a_judge_needs_no_trace.Goals as goal

pub returns-clause-judged : goal.returns-clause-judged
returns-clause-judged c = judged-as-heard

pub returns-clause-pieces : goal.returns-clause-pieces
returns-clause-pieces c = judged-in-pieces

pub returns-clause-few : goal.returns-clause-few
returns-clause-few c = keeps-few
