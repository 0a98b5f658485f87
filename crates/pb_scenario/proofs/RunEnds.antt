-- What a run ends with, by the events that led to its end.
use Rattle.std.proofs.Common.{◌≡◌, ◌∙◌, List, [], ◌∷◌, ◌++◌, Option, Some, None, Result, Ok, Err, refl, ap, sym, subst}
use Rattle.law_model.specs.World as model
use Rattle.law_model.specs.World.{World, Event, Reply, new_world}
use Rattle.law_model.specs.Step.{RunsTo, step}
use Rattle.law_model.specs.Trace.{Entry}
use Rattle.law_runs.specs.Histories.{Leads}
use Rattle.law_runs.specs.Bus.{bus}
use Rattle.law_runs.specs.Laws.{EventsLead}
use Rattle.law_runs.specs.Scenarios.{Scenario, RunFault, run_of, with_end, events_of, trace_of}

-- ---- one end

same_world : (r : Result (World × Reply) model.Fault) (a b : World) (x y : Reply) → r ≡ Ok (a, x) → r ≡ Ok (b, y) → a ≡ b
same_world r a b x y one other =
    let same : Ok (a, x) ≡ Ok (b, y) = sym one ∙ other in
    let pair : (a, x) ≡ (b, y) = cc same in
    ap (λ (p : World × Reply). p.0) pair

pub one_end : (w a b : World) (es : List Event) → RunsTo w es a → Leads bus w es b → a ≡ b
unfolding Leads
one_end w a b [] runs leads = sym runs ∙ leads
one_end w a b (e ∷ es) runs leads =
    let between : runs.0 ≡ leads.0 = same_world (step w e) runs.0 leads.0 runs.1 leads.1 runs.2 leads.2 in
    one_end runs.0 a b es runs.3 (subst (λ (v : World). Leads bus v es b) (sym between) leads.3)

-- one more event leads on
pub runs-on : (start w next : World) (reply : Reply) (es : List Event) (e : Event) → RunsTo start es w → step w e ≡ Ok (next, reply) → RunsTo start (es ++ e ∷ []) next
runs-on start w next reply [] e runs is = (next, reply, subst (λ (v : World). step v e ≡ Ok (next, reply)) (sym runs) is, refl)
runs-on start w next reply (x ∷ es) e (between, told, done, leads) is = (between, told, done, runs-on between w next reply es e leads is)

-- ---- the trace

traced_in : (s : Scenario) (r : Option (Result (World × List Event) RunFault)) (first end : World) (events : List Event) → EventsLead
    → new_world s.params s.taps ≡ Ok first → run_of s ≡ r → with_end (λ (last : World × List Event). last.1) r ≡ Some (Ok events)
    → RunsTo first events end → with_end (λ (last : World × List Event). last.0.trace) r ≡ Some (Ok end.trace)
traced_in s None first end events law new is ends runs = absurd cc
traced_in s (Some (Err fault)) first end events law new is ends runs = absurd cc
traced_in s (Some (Ok last)) first end events law new is ends runs =
    let same : last.1 ≡ events = cc ends in
    let leads : Leads bus first last.1 last.0 = law s first last.0 last.1 new is in
    let world : end ≡ last.0 = one_end first end last.0 events runs (subst (λ (es : List Event). Leads bus first es last.0) same leads) in
    let trace : last.0.trace ≡ end.trace = ap (λ (w : World). w.trace) (sym world) in
    ap (λ (es : List Entry). Some (Ok es)) trace

pub traced : (s : Scenario) (first end : World) (events : List Event) → EventsLead → new_world s.params s.taps ≡ Ok first
    → events_of s ≡ Some (Ok events) → RunsTo first events end → trace_of s ≡ Some (Ok end.trace)
traced s first end events law new ends runs = traced_in s (run_of s) first end events law new refl ends runs
