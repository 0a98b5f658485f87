use Rattle.std.proofs.Common.{ℕ, Option, Result, sym, subst}
use Rattle.std.specs.Prelude.{IfOk}
use Rattle.pb_texts.specs.Fields.{Fault}
use Rattle.pb_texts.specs.Scenarios.{ScenarioView}
use Rattle.pb_cli.specs.Fleets.{IsRun, IsRunOrFault}
use Rattle.pb_texts.specs.Shown.{shown_of}
use Rattle.pb_cli.proofs.playing.played.Goals as goal

pub returns-in-Ok : goal.returns-in-Ok
returns-in-Ok g c =
    subst (λ (r : Result ScenarioView (Option Fault)). IfOk c.played_scenario.result (λ shown. IsRunOrFault r c.args.workers c.args.last (shown_of shown)))
    (sym c.in-Ok.ensures.scenario)
    (subst (λ (crew : ℕ). IfOk c.played_scenario.result (λ shown. IsRun c.in-Ok.scenario crew c.args.last (shown_of shown)))
    c.crew_of.ensures.count c.played_scenario.ensures)
