use Rattle.pb_world.proofs.Coming.{watched-followed}
use Rattle.pb_world.proofs.causes.Inquiry.follow.Goals as goal

pub follow-requires : goal.follow-requires
follow-requires c = watched-followed c.args.self.now.watched c.requires
