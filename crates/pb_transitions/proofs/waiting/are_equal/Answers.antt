use Rattle.std.proofs.Common.{rules}
use Rattle.pb_transitions.proofs.Equal.{requests_agree}
use Rattle.pb_transitions.proofs.waiting.are_equal.Goals as goal

pub returns : goal.returns
returns c = requests_agree c.args.one.now c.args.other.now c.eq.result c.eq.ensures (λ a b. (search rules, search rules))
