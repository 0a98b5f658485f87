-- The laws of runs, for the bus.
use Rattle.std.proofs.Common.{◌≡◌, ◌∙◌, ℕ, zero, suc, ◌+◌, List, [], ◌∷◌, map, Option, Some, None, Ok, Err, Result, refl, ap, sym, arith, if◌then◌else◌}
use Rattle.std.specs.Prelude.{slice_get}
use Rattle.pb_faults.specs.FirstFault.{first_fault}
use Rattle.pb_timers.specs.Timers.{Params}
use Rattle.law_turn.specs.Stations.{due_of}
use Rattle.law_model.specs.Medium.{TapSpec, Tap}
use Rattle.law_model.specs.World.{trace_limit, World, Event, Fault, NewFault, unless_fault, new_world, new_faults, stopped_tap}
use Rattle.law_runs.proofs.Commuting.{turns-commute}
use Rattle.law_runs.specs.Runs.{run}
use Rattle.law_runs.specs.Histories.{Leads, AreTrue, Commutes}
use Rattle.law_runs.specs.Bus.{bus}
use Rattle.law_runs.specs.Scenarios.{plan_of, run_from, outcome_of, with_end}
use Rattle.law_runs.specs.Laws.{Look, Shows, AreLooks, HistoryIsRun, RunEnds, EventsLead, RunIsHistory, TurnsOnce, TurnsLeaveOthers, TurnsOneByOne, StepsHappen}
use Rattle.law_runs.proofs.Accepting.{turn-leaves, get-other}
use Rattle.law_runs.proofs.Following.{is_the_run}
use Rattle.law_runs.proofs.Ending.{run-ends}
use Rattle.law_runs.proofs.Leading.{run-leads}
use Rattle.law_runs.proofs.Cutting.{run-is-history, turns-once}
use Rattle.law_runs.proofs.Timed.{outside-scenario}
use Rattle.law_runs.proofs.OneByOne.{turns-one-by-one}

-- ---- histories

turns-of-the-bus : Commutes bus
turns-of-the-bus w u v i j r q other one two = turns-commute w v i j r q other (u, one, two)

looks-true : (first : World) (history : List Event) (looks : List Look) → AreLooks first history looks → AreTrue bus first history (Shows looks)
looks-true first history looks are place due change (k, at) = are k (record { place = place; dues = due; change = change }) at

pub history-is-run : HistoryIsRun
unfolding Leads
history-is-run s looks first last history new leads are is =
    let end = is_the_run (s.until + 1) bus (plan_of s.steps s.until) (Shows looks) first history turns-of-the-bus (looks-true first history looks are) 0 0 [] history first last refl refl refl is leads in
    ap (λ w. with_end (λ e. e.0.trace) (run_from s w)) new ∙ ap (λ o. with_end (λ e. e.0.trace) (outcome_of o)) end.1

-- ---- the run itself

no-outcome : (o : Option (Result (World × List Event) (ℕ × Fault))) → outcome_of o ≡ None → o ≡ None
no-outcome None none = refl
no-outcome (Some (Ok end)) none = absurd cc
no-outcome (Some (Err fault)) none = absurd cc

pub the-run-ends : RunEnds
the-run-ends s none = by (new_world s.params s.taps) none
  where
    by : (o : Result World NewFault) → run_from s o ≡ None → ⊥
    by (Ok w) none = run-ends (s.until + 1) bus (plan_of s.steps s.until) 0 w (omega arith) (omega arith) (no-outcome (run (s.until + 1) bus (plan_of s.steps s.until) 0 w) none)
    by (Err fault) none = absurd cc

good : (o : Option (Result (World × List Event) (ℕ × Fault))) (end : World × List Event) → outcome_of o ≡ Some (Ok end) → o ≡ Some (Ok end)
good None end some = absurd cc
good (Some (Ok x)) end some = let same : x ≡ end = cc in ap (λ y. Some (Ok y)) same
good (Some (Err fault)) end some = absurd cc

pub the-events-lead : EventsLead
the-events-lead s first last events new some =
    run-leads (s.until + 1) bus (plan_of s.steps s.until) 0 first last events
    (good (run (s.until + 1) bus (plan_of s.steps s.until) 0 first) (last, events) (ap (run_from s) (sym new) ∙ some))

pub run-is-history-of : RunIsHistory
unfolding Leads
run-is-history-of s first last events new some =
    run-is-history (s.until + 1) bus (plan_of s.steps s.until) first events 0 0 [] events first last refl refl refl
    (good (run (s.until + 1) bus (plan_of s.steps s.until) 0 first) (last, events) (ap (run_from s) (sym new) ∙ some))

-- ---- turns

pub turns-of-an-instant-once : TurnsOnce
turns-of-an-instant-once p now due taps picks tap = turns-once p now due taps picks tap

abbrev due_of_found : Params → Option Tap → Option (Option ℕ)
due_of_found p None = None
due_of_found p (Some t) = Some (if t.running then due_of p t.station t.marks else None)

dues-get : (p : Params) (ts : List Tap) (j : ℕ) → slice_get (map (λ t. if t.running then due_of p t.station t.marks else None) ts) j ≡ due_of_found p (slice_get ts j)
dues-get p [] j = refl
dues-get p (t ∷ ts) zero = refl
dues-get p (t ∷ ts) (suc j) = dues-get p ts j

pub turns-leave-others : TurnsLeaveOthers
turns-leave-others w u i j r other ok =
    let left = turn-leaves w u i r ok in
    dues-get u.params u.taps j ∙ ap (λ p. due_of_found p (slice_get u.taps j)) left.params ∙ ap (λ ts. due_of_found w.params (slice_get ts j)) left.taps
    ∙ ap (due_of_found w.params) (get-other w.taps i j left.tap other) ∙ sym (dues-get w.params w.taps j)

pub turns-of-the-bus-one-by-one : TurnsOneByOne
turns-of-the-bus-one-by-one p now w = turns-one-by-one bus turns-leave-others p now w

-- ---- steps

new-now : (p : Params) (specs : List TapSpec) (w : World) → new_world p specs ≡ Ok w → w.now ≡ 0
new-now p specs w = by (first_fault (new_faults p specs))
  where
    made : World
    made = record { params = p; now = 0; trace = []; taps = map (stopped_tap p) specs; limit = trace_limit }

    by : (o : Option NewFault) → unless_fault o made ≡ Ok w → w.now ≡ 0
    by None ok = let same : made ≡ w = cc in ap (λ (x : World). x.now) (sym same)
    by (Some fault) ok = absurd cc

pub steps-happen : StepsHappen
steps-happen s first last events new some outside m =
    outside-scenario (s.until + 1) s.steps s.until outside first last events (new-now s.params s.taps first new)
    (good (run (s.until + 1) bus (plan_of s.steps s.until) 0 first) (last, events) (ap (run_from s) (sym new) ∙ some)) m
