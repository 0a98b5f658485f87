use Rattle.std.proofs.Common.{◌≡◌, Option, Result, refl, sym, subst}
use Rattle.std.specs.Prelude.{IfOk}
use Rattle.pb_scenario.specs.Fields.{Fault}
use Rattle.pb_scenario.specs.Scenarios.{ScenarioView}
use Rattle.pb_texts.specs.Files.{audit_or_fault}
use Rattle.pb_texts.specs.Shown.{Shown, shown_of}
use Rattle.pb_texts.proofs.Tellings.{refused-shown}
use Rattle.pb_texts.proofs.files.audited.Goals as goal

pub returns-in-Ok : goal.returns-in-Ok
returns-in-Ok c =
    subst (λ (r : Result ScenarioView (Option Fault)). IfOk c.audited_scenario.result (λ shown. shown_of shown ≡ audit_or_fault r))
    (sym c.in-Ok.ensures.scenario) c.audited_scenario.ensures

pub returns-in-Err : goal.returns-in-Err
returns-in-Err c =
    let is_audit : Result ScenarioView (Option Fault) → Shown → Type 0 = λ r shown. shown ≡ audit_or_fault r in
    refused-shown c.args.file.now c.in-Err.fault c.refused_file.result is_audit
    c.in-Err.ensures.fault c.refused_file.ensures.told c.refused_file.ensures.shown (λ why. refl)
