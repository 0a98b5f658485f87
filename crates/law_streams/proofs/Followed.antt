-- Buses that follow a bus: with entries in front, within a greater limit, and without saying where they refuse.
use Rattle.std.proofs.Common.{◌≡◌, ◌∙◌, ap, sym, refl, arith, ℕ, ◌+◌, ◌≤◌, false, List, [], map, Option, Some, None, Ok, Err, Result}
use Rattle.pb_faults.specs.FirstFault.{first_fault}
use Rattle.pb_timers.specs.Timers.{Params}
use Rattle.law_model.specs.Trace.{Entry}
use Rattle.law_model.specs.Medium.{TapSpec}
use Rattle.law_model.specs.World.{World, Event, Reply, Fault, NewFault, new_faults, new_world_within, stopped_tap, unless_fault}
use Rattle.law_model.specs.Step.{step}
use Rattle.law_model.specs.Behind.{behind, all_behind, IsPast}
use Rattle.law_runs.specs.Runs.{Plan, run}
use Rattle.law_runs.specs.Bus.{bus}
use Rattle.law_runs.specs.Scenarios.{Scenario, outcome_of, plan_of, run_from, with_end}
use Rattle.law_streams.specs.Streams.{in_world, telling_bus, streamed_of, stream_from, stream_within, trace_within}
use Rattle.law_streams.specs.Limits.{ends_full, is_full, run_behind, run_of_stream, stream_behind, stream_ends_full}
use Rattle.law_streams.proofs.Following.{Follows, of_run, of_step, run_is, run-follows, step_is}
use Rattle.law_streams.proofs.PastStays.{past-stays}
use Rattle.law_streams.proofs.PastSteps.{change-behind, step-behind}
use Rattle.law_streams.proofs.RaisedLimits.{limit-same, raised, step-raised}

-- ---- what a telling bus accepts, and where it refuses

pub told-ok : (w next : World) (reply : Reply) (o : Result (World × Reply) Fault) → in_world w o ≡ Ok (next, reply) → o ≡ Ok (next, reply)
told-ok w next reply (Ok x) ok = cc
told-ok w next reply (Err fault) ok = absurd cc

-- a world and a fault, the world changed
abbrev pub elsewhere : (World → World) → World × Fault → World × Fault
elsewhere f stop = (f stop.0, stop.1)

none-stops : {X F : Type 0} (o : Option (Result X (ℕ × F))) → run_is (λ fault. false) o ≡ false
none-stops None = refl
none-stops (Some (Ok end)) = refl
none-stops (Some (Err stop)) = refl

-- ---- with entries in front

all-behind-is : (old : List Entry) (o : Result (World × Reply) Fault) → all_behind old o ≡ of_step (behind old) (λ (fault : Fault). fault) o
all-behind-is old (Ok next) = refl
all-behind-is old (Err fault) = refl

told-behind : (old : List Entry) (w : World) (o : Result (World × Reply) Fault) → in_world (behind old w) (all_behind old o) ≡ of_step (behind old) (elsewhere (behind old)) (in_world w o)
told-behind old w (Ok next) = refl
told-behind old w (Err fault) = refl

behind-follows : (old : List Entry) → Follows bus bus (behind old) (λ (fault : Fault). fault) (λ fault. false) (IsPast old)
behind-follows old = record {
  step = λ w e past calm. step-behind old w e past ∙ all-behind-is old (step w e);
  keeps = λ w next e reply past ok. past-stays old w next e reply past ok;
  due = λ w past. refl;
  change = λ w past. change-behind old w past;
  turn = refl;
  pass = refl;
}

telling-behind : (old : List Entry) → Follows telling_bus telling_bus (behind old) (elsewhere (behind old)) (λ stop. false) (IsPast old)
telling-behind old = record {
  step = λ w e past calm. ap (in_world (behind old w)) (step-behind old w e past) ∙ told-behind old w (step w e);
  keeps = λ w next e reply past ok. past-stays old w next e reply past (told-ok w next reply (step w e) ok);
  due = λ w past. refl;
  change = λ w past. change-behind old w past;
  turn = refl;
  pass = refl;
}

pub run-behind : (old : List Entry) (w : World) (k now : ℕ) (p : Plan Event) → IsPast old w → run k bus p now (behind old w) ≡ run_behind old (run k bus p now w)
run-behind old w k now p past =
    run-follows bus bus (behind old) (λ (fault : Fault). fault) (λ fault. false) (IsPast old) (behind-follows old) k p now w past (none-stops (run k bus p now w))
    ∙ by (run k bus p now w)
  where
    by : (o : Option (Result (World × List Event) (ℕ × Fault))) → of_run (behind old) (λ (fault : Fault). fault) o ≡ run_behind old o
    by None = refl
    by (Some (Ok end)) = refl
    by (Some (Err stop)) = refl

pub stream-behind : (old : List Entry) (w : World) (k now : ℕ) (p : Plan Event) → IsPast old w
    → streamed_of (run k telling_bus p now (behind old w)) ≡ stream_behind old (streamed_of (run k telling_bus p now w))
stream-behind old w k now p past =
    ap streamed_of
    (run-follows telling_bus telling_bus (behind old) (elsewhere (behind old)) (λ stop. false) (IsPast old) (telling-behind old) k p now w past (none-stops (run k telling_bus p now w)))
    ∙ by (run k telling_bus p now w)
  where
    by : (o : Option (Result (World × List Event) (ℕ × (World × Fault)))) → streamed_of (of_run (behind old) (elsewhere (behind old)) o) ≡ stream_behind old (streamed_of o)
    by None = refl
    by (Some (Ok end)) = refl
    by (Some (Err stop)) = refl

-- ---- within a greater limit

abbrev pub IsBelow : ℕ → World → Type 0
IsBelow limit w = w.limit ≤ limit

below-stays : (limit : ℕ) (w next : World) (e : Event) (reply : Reply) → w.limit ≤ limit → step w e ≡ Ok (next, reply) → next.limit ≤ limit
below-stays limit w next e reply less ok = omega (arith, limit-same w next e reply ok, less)

told-raised : (limit : ℕ) (w : World) (o : Result (World × Reply) Fault) → in_world (raised limit w) (of_step (raised limit) (λ (fault : Fault). fault) o) ≡ of_step (raised limit) (elsewhere (raised limit)) (in_world w o)
told-raised limit w (Ok next) = refl
told-raised limit w (Err fault) = refl

told-calm : (w : World) (o : Result (World × Reply) Fault) → step_is (λ (stop : World × Fault). is_full stop.1) (in_world w o) ≡ step_is is_full o
told-calm w (Ok next) = refl
told-calm w (Err fault) = refl

raised-follows : (limit : ℕ) → Follows bus bus (raised limit) (λ (fault : Fault). fault) is_full (IsBelow limit)
raised-follows limit = record {
  step = λ w e less calm. step-raised limit w e less calm;
  keeps = λ w next e reply less ok. below-stays limit w next e reply less ok;
  due = λ w less. refl;
  change = λ w less. refl;
  turn = refl;
  pass = refl;
}

telling-raised : (limit : ℕ) → Follows telling_bus telling_bus (raised limit) (elsewhere (raised limit)) (λ (stop : World × Fault). is_full stop.1) (IsBelow limit)
telling-raised limit = record {
  step = λ w e less calm. ap (in_world (raised limit w)) (step-raised limit w e less (sym (told-calm w (step w e)) ∙ calm)) ∙ told-raised limit w (step w e);
  keeps = λ w next e reply less ok. below-stays limit w next e reply less (told-ok w next reply (step w e) ok);
  due = λ w less. refl;
  change = λ w less. refl;
  turn = refl;
  pass = refl;
}

-- a new world
abbrev pub made : ℕ → Params → List TapSpec → World
made limit p specs = record { params = p; now = 0; trace = []; taps = map (stopped_tap p) specs; limit = limit }

pub more-trace : (s : Scenario) (few many : ℕ) → few ≤ many → ends_full (trace_within few s) ≡ false → trace_within many s ≡ trace_within few s
more-trace s few many less calm = by (first_fault (new_faults s.params s.taps)) calm
  where
    same : (o : Option (Result (World × List Event) (ℕ × Fault)))
        → with_end (λ (end : World × List Event). end.0.trace) (outcome_of (of_run (raised many) (λ (fault : Fault). fault) o)) ≡ with_end (λ (end : World × List Event). end.0.trace) (outcome_of o)
    same None = refl
    same (Some (Ok end)) = refl
    same (Some (Err stop)) = refl

    still : (o : Option (Result (World × List Event) (ℕ × Fault))) → ends_full (with_end (λ (end : World × List Event). end.0.trace) (outcome_of o)) ≡ run_is is_full o
    still None = refl
    still (Some (Ok end)) = refl
    still (Some (Err stop)) = refl

    by : (o : Option NewFault) → ends_full (with_end (λ (end : World × List Event). end.0.trace) (run_from s (unless_fault o (made few s.params s.taps)))) ≡ false
        → with_end (λ (end : World × List Event). end.0.trace) (run_from s (unless_fault o (made many s.params s.taps)))
        ≡ with_end (λ (end : World × List Event). end.0.trace) (run_from s (unless_fault o (made few s.params s.taps)))
    by None calm =
        let p = plan_of s.steps s.until in
        let w = made few s.params s.taps in
        ap (λ o. with_end (λ (end : World × List Event). end.0.trace) (outcome_of o))
        (run-follows bus bus (raised many) (λ (fault : Fault). fault) is_full (IsBelow many) (raised-follows many) (s.until + 1) p 0 w less
        (sym (still (run (s.until + 1) bus p 0 w)) ∙ calm))
        ∙ same (run (s.until + 1) bus p 0 w)
    by (Some fault) calm = refl

pub more-stream : (s : Scenario) (few many : ℕ) → few ≤ many → stream_ends_full (stream_within few s) ≡ false → stream_within many s ≡ stream_within few s
more-stream s few many less calm = by (first_fault (new_faults s.params s.taps)) calm
  where
    same : (o : Option (Result (World × List Event) (ℕ × (World × Fault)))) → streamed_of (of_run (raised many) (elsewhere (raised many)) o) ≡ streamed_of o
    same None = refl
    same (Some (Ok end)) = refl
    same (Some (Err stop)) = refl

    still : (o : Option (Result (World × List Event) (ℕ × (World × Fault)))) → stream_ends_full (streamed_of o) ≡ run_is (λ (stop : World × Fault). is_full stop.1) o
    still None = refl
    still (Some (Ok end)) = refl
    still (Some (Err stop)) = refl

    by : (o : Option NewFault) → stream_ends_full (stream_from s (unless_fault o (made few s.params s.taps))) ≡ false
        → stream_from s (unless_fault o (made many s.params s.taps)) ≡ stream_from s (unless_fault o (made few s.params s.taps))
    by None calm =
        let p = plan_of s.steps s.until in
        let w = made few s.params s.taps in
        ap streamed_of
        (run-follows telling_bus telling_bus (raised many) (elsewhere (raised many)) (λ (stop : World × Fault). is_full stop.1) (IsBelow many) (telling-raised many) (s.until + 1) p 0 w less
        (sym (still (run (s.until + 1) telling_bus p 0 w)) ∙ calm))
        ∙ same (run (s.until + 1) telling_bus p 0 w)
    by (Some fault) calm = refl

-- ---- without saying where it refuses

untold : (w : World) (o : Result (World × Reply) Fault) → o ≡ of_step (λ (w : World). w) (λ (stop : World × Fault). stop.1) (in_world w o)
untold w (Ok next) = refl
untold w (Err fault) = refl

bus-follows : Follows telling_bus bus (λ (w : World). w) (λ (stop : World × Fault). stop.1) (λ stop. false) (λ w. Unit {0})
bus-follows = record {
  step = λ w e any calm. untold w (step w e);
  keeps = λ w next e reply any ok. tt;
  due = λ w any. refl;
  change = λ w any. refl;
  turn = refl;
  pass = refl;
}

pub run-untold : (k now : ℕ) (p : Plan Event) (w : World) → run k bus p now w ≡ of_run (λ (w : World). w) (λ (stop : World × Fault). stop.1) (run k telling_bus p now w)
run-untold k now p w = run-follows telling_bus bus (λ (w : World). w) (λ (stop : World × Fault). stop.1) (λ stop. false) (λ w. Unit {0}) bus-follows k p now w tt (none-stops (run k telling_bus p now w))

pub stream-is-run : (s : Scenario) (limit : ℕ) → trace_within limit s ≡ run_of_stream (stream_within limit s)
stream-is-run s limit = by (new_world_within limit s.params s.taps)
  where
    same : (o : Option (Result (World × List Event) (ℕ × (World × Fault))))
        → with_end (λ (end : World × List Event). end.0.trace) (outcome_of (of_run (λ (w : World). w) (λ (stop : World × Fault). stop.1) o)) ≡ run_of_stream (streamed_of o)
    same None = refl
    same (Some (Ok end)) = refl
    same (Some (Err stop)) = refl

    by : (o : Result World NewFault) → with_end (λ (end : World × List Event). end.0.trace) (run_from s o) ≡ run_of_stream (stream_from s o)
    by (Ok w) =
        ap (λ o. with_end (λ (end : World × List Event). end.0.trace) (outcome_of o)) (run-untold (s.until + 1) 0 (plan_of s.steps s.until) w)
        ∙ same (run (s.until + 1) telling_bus (plan_of s.steps s.until) 0 w)
    by (Err fault) = refl
