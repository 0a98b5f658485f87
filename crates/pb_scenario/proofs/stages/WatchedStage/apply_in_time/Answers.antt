use Rattle.pb_world.proofs.Coming.{watched-followed}
use Rattle.pb_scenario.proofs.stages.WatchedStage.apply_in_time.Goals as goal

pub follow_in_time-requires-clause-followed : goal.follow_in_time-requires-clause-followed
follow_in_time-requires-clause-followed c =
    let (start, events, came) = c.requires.ready in
    watched-followed c.args.self.now came.watched
