-- The event that was found is this one.
use Rattle.std.proofs.Common.{◌∙◌, sym}
use Rattle.pb_taps.specs.Events.{event_of}
use Rattle.pb_scenario.proofs.Joined.{reads-one}
use Rattle.pb_scenario.proofs.reading.read_event.Goals as goal

pub returns-then-is_event : goal.returns-then-is_event
returns-then-is_event g c =
    reads-one (g.R.Report.events c.args.report.now) c.args.place (event_of c.args.event.now) (sym c.event.ensures ∙ c.is_event.ensures c.if-is_event.true)
