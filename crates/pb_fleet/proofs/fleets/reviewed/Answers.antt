use Rattle.pb_fleet.proofs.Telling.{is_the_run, is_played}
use Rattle.pb_fleet.proofs.fleets.reviewed.Goals as goal

pub returns-then-is_run-clause-run : goal.returns-then-is_run-clause-run
returns-then-is_run-clause-run c =
    let args = c.before.args in
    let told = c.before.requires in
    is_the_run args.scenario.now.scenario args.report told.origin told.report (told.review c.if-is_run.true)

pub returns-then-is_run-clause-played : goal.returns-then-is_run-clause-played
returns-then-is_run-clause-played c =
    let told = c.before.requires in is_played c.before.args.scenario.now.scenario c.before.args.report told.origin told.report
