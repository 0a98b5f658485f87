-- What is written for the audit of a scenario, by what an audit of its events found, and by the fault of its run.
use Rattle.std.proofs.Common.{◌≡◌, ◌≢◌, ◌∙◌, ℕ, List, Option, Some, None, Result, Ok, Err, refl, ap, sym, subst}
use Rattle.std.specs.Prelude.{IfSome}
use Rattle.law_model.specs.World as model
use Rattle.law_model.specs.World.{World, Event, new_world}
use Rattle.law_runs.specs.Premises.{Broken, first_broken}
use Rattle.law_runs.specs.Histories.{Leads}
use Rattle.law_runs.specs.Bus.{bus}
use Rattle.law_runs.specs.Laws.{EventsLead}
use Rattle.law_runs.specs.Scenarios.{Scenario, RunFault, At, run_of, run_from, with_end, events_of}
use Rattle.pb_taps.specs.Faults.{RefusesNew, world_fault}
use Rattle.pb_taps.specs.declared.faults.NewFault as taps
use Rattle.pb_taps.specs.declared.faults.NewFault.TheVariants as new
use Rattle.pb_taps.specs.declared.faults.WorldFault.{WorldFault}
use Rattle.pb_taps.specs.declared.faults.WorldFault.TheVariants as fault
use Rattle.pb_world.specs.Auditing.{Finds}
use Rattle.pb_world.specs.declared.findings.Audit.{Audit}
use Rattle.pb_scenario.specs.Faults.{EndsBy, model_fault}
use Rattle.pb_scenario.specs.declared.faults.RunFault as code
use Rattle.pb_scenario.specs.declared.faults.RunFault.TheVariants as run
use Rattle.pb_scenario.proofs.RunEnds.{one_end}
use Rattle.pb_texts.specs.Shown.{refusal}
use Rattle.pb_texts.specs.Faults.{IsTold, line_of_run, new_line, refused_line}
use Rattle.pb_texts.specs.Audits.{audit_of_run, audit_of_scenario, broken_from, broken_of, found, illegal_in}

-- ---- what an audit found

found_in : (s : Scenario) (events : List Event) (a : Audit) (r : Option (Result (World × List Event) RunFault)) → EventsLead
    → run_of s ≡ r → with_end (λ (end : World × List Event). end.1) r ≡ Some (Ok events) → Finds s.params s.taps events a
    → audit_of_run (new_world s.params s.taps) r ≡ found (broken_of a) a.illegal
found_in s events a None law is end f = absurd cc
found_in s events a (Some (Err fault)) law is end f = absurd cc
found_in s events a (Some (Ok last)) law is end f =
    let same : last.1 ≡ events = cc end in
    let leads : Leads bus f.0 last.1 last.0 = law s f.0 last.0 last.1 f.2 is in
    let world : f.1 ≡ last.0 = one_end f.0 f.1 last.0 events f.3 (subst (λ (es : List Event). Leads bus f.0 es last.0) same leads) in
    let broken : broken_from (new_world s.params s.taps) last.1 ≡ broken_of a =
    ap (λ (w : Result World model.NewFault). broken_from w last.1) f.2 ∙ ap (first_broken f.0) same ∙ sym f.4 in
    let illegal : illegal_in last.0 ≡ a.illegal = ap illegal_in (sym world) ∙ sym f.5 in
    ap (λ (b : Option Broken). found b (illegal_in last.0)) broken ∙ ap (found (broken_of a)) illegal

pub audit-found : (s : Scenario) (events : List Event) (a : Audit) → EventsLead → events_of s ≡ Some (Ok events)
    → Finds s.params s.taps events a → audit_of_scenario s ≡ found (broken_of a) a.illegal
audit-found s events a law is f = found_in s events a (run_of s) law refl is f

-- ---- the fault of a run

no_world : (s : Scenario) (r : Result World model.NewFault) (f : taps.NewFault) → new_world s.params s.taps ≡ r → RefusesNew r f → f ≢ new.NoMemory
    → audit_of_run (new_world s.params s.taps) (run_from s r) ≡ refusal (new_line f)
no_world s (Ok w) f is refuses told = absurd (told refuses)
no_world s (Err g) f is refuses told = ap (λ (x : taps.NewFault). refusal (new_line x)) (sym refuses)

refused_in : (new : Result World model.NewFault) (r : Option (Result (World × List Event) RunFault)) (clock : ℕ) (g : model.Fault)
    → with_end (λ (end : World × List Event). end.1) r ≡ Some (Err (At clock g)) → audit_of_run new r ≡ refusal (refused_line (world_fault g) clock)
refused_in new None clock g end = absurd cc
refused_in new (Some (Ok last)) clock g end = absurd cc
refused_in new (Some (Err fault)) clock g end =
    let same : fault ≡ At clock g = cc end in
    ap (λ (f : RunFault). audit_of_run new (Some (Err f))) same

-- the line of a fault of a world is that of the model's
pub world_fault-of : (f : WorldFault) (P : WorldFault → Type 0) → IfSome (model_fault f) (λ g. P (world_fault g)) → f ≢ fault.NoMemory → P f
world_fault-of fault.NoSuchTap P p told = p
world_fault-of fault.Running P p told = p
world_fault-of fault.NotRunning P p told = p
world_fault-of fault.NothingInAir P p told = p
world_fault-of fault.ZeroTime P p told = p
world_fault-of (fault.TooFar furthest) P p told = p
world_fault-of fault.ClockFull P p told = p
world_fault-of fault.QueueFull P p told = p
world_fault-of (fault.InboxFull tap) P p told = p
world_fault-of fault.TraceFull P p told = p
world_fault-of fault.NoMemory P p told = absurd (told refl)

refused_each : (s : Scenario) (clock : ℕ) (g : Option model.Fault) → IfSome g (λ g. events_of s ≡ Some (Err (At clock g)))
    → IfSome g (λ g. audit_of_scenario s ≡ refusal (refused_line (world_fault g) clock))
refused_each s clock None end = end
refused_each s clock (Some g) end = refused_in (new_world s.params s.taps) (run_of s) clock g end

pub audit-refused : (s : Scenario) (f : code.RunFault) → EndsBy s f → IsTold f → audit_of_scenario s ≡ refusal (line_of_run f)
audit-refused s (run.New f) ends told = no_world s (new_world s.params s.taps) f refl ends told
audit-refused s (run.At clock f) ends told =
    world_fault-of f (λ (x : WorldFault). audit_of_scenario s ≡ refusal (refused_line x clock)) (refused_each s clock (model_fault f) ends) told
