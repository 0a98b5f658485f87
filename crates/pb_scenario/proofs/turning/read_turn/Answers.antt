-- The tap wants its turn.
use Rattle.std.proofs.Common.{rules, ◌≡◌, ◌∙◌, sym, true}
use Rattle.pb_scenario.proofs.Joined.{turns-taken}
use Rattle.pb_scenario.proofs.turning.read_turn.Goals as goal

pub returns-else-not-take : goal.returns-else-not-take
returns-else-not-take g c =
    let taken : c.take.result ≡ true = search rules in
    turns-taken (g.R.Report.events c.args.report.now) c.args.place c.in-Some.tap c.args.want.now.items c.take.new.want.items c.take.result
    (sym c.event.ensures ∙ c.in-Some.ensures) c.take.ensures taken
