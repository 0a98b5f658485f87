use Rattle.std.proofs.Common.{arith}
use Rattle.law_token.proofs.whole.JoinedRuns.{settled_after}
use Rattle.law_token.proofs.runs.a_stopped_station_is_offline.Goals as goal

pub returns : goal.returns
returns c = λ p specs events tap t is off. ((settled_after p specs events is.new is.w (let h = is.highest in omega (arith, h)) is.run).stays tap t is.here).stopped off
