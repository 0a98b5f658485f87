use Rattle.std.proofs.Common.{arith}
use Rattle.law_token.proofs.whole.ReplyData.{turn-data}
use Rattle.law_token.proofs.whole.JoinedRuns.{settled_after}
use Rattle.law_token.proofs.runs.the_data_to_reply_stays.Goals as goal

pub returns-clause-turn : goal.returns-clause-turn
returns-clause-turn c = turn-data

pub returns-clause-run : goal.returns-clause-run
returns-clause-run c = λ p specs events tap t is. ((settled_after p specs events is.new is.w (let h = is.highest in omega (arith, h)) is.run).stays tap t is.here).replies
