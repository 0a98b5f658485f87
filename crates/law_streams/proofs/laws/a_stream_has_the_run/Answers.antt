use Rattle.law_streams.proofs.Followed.{stream-is-run}
use Rattle.law_streams.proofs.laws.a_stream_has_the_run.Goals as goal

pub returns : goal.returns
returns c = stream-is-run
