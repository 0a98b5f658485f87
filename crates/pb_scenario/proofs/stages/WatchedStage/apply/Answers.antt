use Rattle.pb_world.proofs.Coming.{watched-followed}
use Rattle.pb_scenario.proofs.stages.WatchedStage.apply.Goals as goal

pub follow-requires : goal.follow-requires
follow-requires c =
    let (start, events, came) = c.requires in
    watched-followed c.args.self.now came.watched
