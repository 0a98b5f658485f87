use Rattle.pb_taps.specs.Events.{event_of}
use Rattle.pb_stream.proofs.Staging.{watched-counts, watched-plays}
use Rattle.pb_stream.proofs.stages.WatchedStage.apply.Goals as goal

pub returns-clause-taps : goal.returns-clause-taps
returns-clause-taps c = watched-counts c.args.self.now c.follow.new.self (event_of c.args.event.now) c.follow.result c.follow.ensures.steps

pub returns-clause-plays : goal.returns-clause-plays
returns-clause-plays c =
    watched-plays c.args.self.now c.follow.new.self (event_of c.args.event.now) c.follow.result c.follow.ensures.kept c.follow.ensures.event c.follow.ensures.leads c.follow.ensures.steps c.follow.ensures.err c.follow.ensures.found
