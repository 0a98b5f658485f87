use Rattle.pb_world.proofs.Coming.{watched-followed}
use Rattle.pb_world.proofs.causes.Inquiry.follow_in_time.Goals as goal

pub follow_in_time-requires-clause-followed : goal.follow_in_time-requires-clause-followed
follow_in_time-requires-clause-followed c = watched-followed c.args.self.now.watched c.requires.watched
