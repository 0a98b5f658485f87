use Rattle.pb_taps.specs.Events.{event_of}
use Rattle.pb_stream.proofs.Staging.{bus-counts, bus-plays}
use Rattle.pb_stream.proofs.stages.BusStage.apply.Goals as goal

pub returns-clause-taps : goal.returns-clause-taps
returns-clause-taps c = bus-counts c.args.self.now c.apply.new.self (event_of c.args.event.now) c.apply.result c.apply.ensures.follows

pub returns-clause-plays : goal.returns-clause-plays
returns-clause-plays c = bus-plays c.args.self.now c.apply.new.self (event_of c.args.event.now) c.apply.result c.apply.ensures.follows c.apply.ensures.kept
