use Rattle.std.proofs.Common.{◌∙◌}
use Rattle.law_streams.proofs.Judgement.{judged-as-heard}
use Rattle.pb_world.proofs.judge.Judge.illegal.Goals as goal

pub returns : goal.returns
returns c = λ p specs entries heard ordered. heard.illegal ∙ judged-as-heard p specs entries ordered
