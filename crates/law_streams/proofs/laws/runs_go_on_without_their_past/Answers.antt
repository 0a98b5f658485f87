use Rattle.law_streams.proofs.Followed.{run-behind, stream-behind}
use Rattle.law_streams.proofs.laws.runs_go_on_without_their_past.Goals as goal

pub returns-clause-run : goal.returns-clause-run
returns-clause-run c = λ old w k now p past. run-behind old w k now p past

pub returns-clause-stream : goal.returns-clause-stream
returns-clause-stream c = λ old w k now p past. stream-behind old w k now p past
