use Rattle.std.proofs.Common.{◌≡◌, Result, Ok, Err, ap, sym, subst, ◌∙◌, map}
use Rattle.pb_medium.specs.Entries.{entry_of}
use Rattle.std.specs.Prelude.{IfOk, OnOk}
use Rattle.pb_texts.specs.declared.shown.Shown as code
use Rattle.pb_texts.specs.Shown.{Shown, refusal, shown_of}
use Rattle.pb_texts.specs.Faults.{IsTold, line_of_run}
use Rattle.pb_export.specs.Exports.{export_of_run, export_of_scenario, export_of_trace}
use Rattle.pb_export.proofs.Outcomes.{export-refused}
use Rattle.pb_export.proofs.files.exported_scenario.Goals as goal

-- what is shown, where it is the line of a fault that is told
told_shown : {E : Type 0} (r : Result code.Shown E) (told : Type 0) (line wanted : Shown) → IfOk r (λ shown. shown_of shown ≡ line)
    → OnOk r told → (told → wanted ≡ line) → IfOk r (λ shown. shown_of shown ≡ wanted)
told_shown (Ok shown) told line wanted is tells same = is ∙ sym (same tells)
told_shown (Err fault) told line wanted is tells same = is

pub returns-in-Ok : goal.returns-in-Ok
returns-in-Ok c =
    let x = c.args.export.now in
    let s = c.args.scenario.now in
    let is = ap (export_of_run x s) c.in-Ok.ensures.trace in
    subst (λ (wanted : Shown). IfOk c.exported_trace.result (λ shown. shown_of shown ≡ wanted)) (sym is)
    (subst (λ es. IfOk c.exported_trace.result (λ shown. shown_of shown ≡ export_of_trace x s (map entry_of es))) c.deref.ensures.value c.exported_trace.ensures)

pub returns-in-Err : goal.returns-in-Err
returns-in-Err c =
    let f = c.in-Err.fault in
    told_shown c.refused_run.result (IsTold f) (refusal (line_of_run f)) (export_of_scenario c.args.export.now c.args.scenario.now)
    c.refused_run.ensures.shown c.refused_run.ensures.told (λ told. export-refused c.args.export.now c.args.scenario.now f c.in-Err.ensures.fault told)
