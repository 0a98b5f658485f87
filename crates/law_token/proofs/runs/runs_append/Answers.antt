use Rattle.law_token.proofs.whole.JoinedRuns.{runs_join, runs_part}
use Rattle.law_token.proofs.runs.runs_append.Goals as goal

pub returns-clause-joined : goal.returns-clause-joined
returns-clause-joined c = λ w next xs ys both. runs_join xs ys w next both

pub returns-clause-parted : goal.returns-clause-parted
returns-clause-parted c = λ w next xs ys runs. runs_part xs ys w next runs
