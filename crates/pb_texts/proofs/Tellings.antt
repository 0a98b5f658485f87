-- What is written for a refused file is what is asked of a refusal.
use Rattle.std.proofs.Common.{◌≡◌, ◌≢◌, ℕ, List, Option, Result, Ok, Err, sym, subst}
use Rattle.std.specs.Prelude.{IfOk, OnOk}
use Rattle.pb_scenario.specs.Fields.{Fault}
use Rattle.pb_scenario.specs.Scenarios.{ScenarioView}
use Rattle.pb_scenario.specs.declared.faults.ScenarioFault.{ScenarioFault}
use Rattle.pb_scenario.specs.declared.faults.ScenarioFault.TheVariants as fault
use Rattle.pb_texts.specs.declared.shown.Shown as code
use Rattle.pb_texts.specs.Faults.{scenario_line, table_fault}
use Rattle.pb_texts.specs.Files.{Refuses, scenario_of}
use Rattle.pb_texts.specs.Shown.{Shown, refusal, shown_of}

pub refused-shown : {E : Type 0} (file : List ℕ) (f : ScenarioFault) (r : Result code.Shown E)
    (IsAsked : Result ScenarioView (Option Fault) → Shown → Type 0)
    → Refuses file f → OnOk r (f ≢ fault.NoMemory) → IfOk r (λ s. shown_of s ≡ refusal (scenario_line (table_fault f)))
    → ((why : Option Fault) → IsAsked (Err why) (refusal (scenario_line why)))
    → IfOk r (λ s. IsAsked (scenario_of file) (shown_of s))
refused-shown file f (Err e) IsAsked refuses told shown asked = told
refused-shown file f (Ok s) IsAsked refuses told shown asked =
    subst (λ (x : Result ScenarioView (Option Fault)). IsAsked x (shown_of s)) (sym (refuses told))
    (subst (IsAsked (Err (table_fault f))) (sym shown) (asked (table_fault f)))
