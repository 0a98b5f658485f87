use Rattle.pb_medium.proofs.Receiving.{heard-by-all}
use Rattle.pb_medium.proofs.receptions.Reception.is_heard_by_all.Goals as goal

pub returns : goal.returns
returns c = λ is. heard-by-all c.self.inside c.args.self.now c.self.view_is (c.is_empty.ensures is)
