use Rattle.std.proofs.Common.{sym}
use Rattle.pb_medium.proofs.Receiving.{list-length}
use Rattle.pb_medium.proofs.receptions.Reception.len.Goals as goal

pub returns : goal.returns
returns c = sym (list-length c.self.inside c.args.self.now c.self.view_is)
