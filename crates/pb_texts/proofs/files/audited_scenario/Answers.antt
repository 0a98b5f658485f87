use Rattle.std.proofs.Common.{◌≡◌, sym, subst}
use Rattle.std.specs.Prelude.{IfOk}
use Rattle.pb_texts.specs.Audits.{audit_of_scenario, broken_of, found}
use Rattle.pb_texts.specs.Shown.{Shown, shown_of}
use Rattle.pb_texts.proofs.Outcomes.{audit-found}
use Rattle.pb_texts.proofs.files.audited_scenario.Goals as goal

pub returns-in-Ok : goal.returns-in-Ok
returns-in-Ok c =
    let s = c.args.scenario.now.scenario in
    let a = c.in-Ok.why.found in
    let (events, run, finds, legal) = c.in-Ok.ensures.ok in
    let is : audit_of_scenario s ≡ found (broken_of a) a.illegal = audit-found s events a c.the_events_of_a_run_lead_to_its_end.ensures run finds in
    subst (λ (x : Shown). IfOk c.findings.result (λ shown. shown_of shown ≡ x)) (sym is) c.findings.ensures
