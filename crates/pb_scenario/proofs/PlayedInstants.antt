-- A walk whose instants are played is the run of its scenario.
use Rattle.std.proofs.Common.{◌≡◌, ◌∙◌, ℕ, zero, suc, ◌+◌, ◌<◌, ◌≤◌, List, [], ◌++◌, length, Option, Some, None, Result, Ok, Err, refl, ap, sym, subst, arith}
use Rattle.std.specs.Prelude.{IfSome}
use Rattle.std.proofs.lemmas.List.{length-map}
use Rattle.law_model.specs.World.{World, Event, Fault, new_world}
use Rattle.law_runs.specs.Runs.{all, next, passing, with_front, turns, run}
use Rattle.law_runs.specs.Bus.{bus, due_in, dues, next_change}
use Rattle.law_runs.specs.Scenarios as runs
use Rattle.law_runs.specs.Scenarios.{Scenario, outcome_of, run_from, with_end}
use Rattle.pb_scenario.specs.Walks.{WalkView, plan_in}
use Rattle.pb_scenario.specs.declared.faults.RunFault.{RunFault}
use Rattle.pb_scenario.specs.declared.faults.RunFault.TheVariants.{New, At}
use Rattle.pb_scenario.specs.Faults.{EndsBy}
use Rattle.pb_scenario.specs.Scenarios.{ScenarioView, walk_of}
use Rattle.pb_scenario.specs.Stages.{StageView, IsReady}
use Rattle.pb_scenario.specs.Plays.{Happened, Stops, EndsIn, GoesOn, IsPlayed, run_with}
use Rattle.pb_world.proofs.Counting.{count-all}
use Rattle.pb_world.proofs.Instants.{no-front}
use Rattle.pb_scenario.proofs.Playing.{instant-is, run-stops, stops-too, from-early, to_turns, to_late, to_passing, from_turns, from_late, from_passing, regroup}

-- ---- an instant

pub count-dues : (w : World) → length (dues w) ≡ length w.taps
count-dues w = length-map w.taps (due_in w)

pub goes-on : (walk : WalkView) (old a b c d : StageView) (t : Option ℕ)
    → Happened walk.clock old ((plan_in walk).early walk.clock) a
    → Happened walk.clock a (turns bus (plan_in walk) walk.clock a.world) b
    → Happened walk.clock b ((plan_in walk).late walk.clock) c
    → t ≡ next (plan_in walk) walk.clock (dues c.world) (next_change c.world)
    → IfSome t (λ moment. (walk.clock < moment) × (moment ≤ walk.until))
    → Happened walk.clock c (passing bus (plan_in walk) walk.clock t) d
    → GoesOn walk old t d
goes-on walk old a b c d t one two three next_is later four =
    let p = plan_in walk in
    let now = walk.clock in
    let early = p.early now in
    let turned = turns bus p now a.world in
    let late = p.late now in
    let passed = passing bus p now t in
    let same : (before : List Event) → (((before ++ early) ++ turned) ++ late) ++ passed ≡ before ++ (early ++ (turned ++ (late ++ passed))) = λ before. regroup before early turned late passed in
    record {
      events = early ++ (turned ++ (late ++ passed));
      comes = λ start before came. subst (d.comes start) (same before)
          (four.comes start (((before ++ early) ++ turned) ++ late) (three.comes start ((before ++ early) ++ turned) (two.comes start (before ++ early) (one.comes start before came))));
      rest = λ before left. instant-is left p now old.world a.world b.world c.world d.world before (before ++ early) ((before ++ early) ++ turned) (((before ++ early) ++ turned) ++ late)
          ((((before ++ early) ++ turned) ++ late) ++ passed) t one.world refl two.world refl three.world refl next_is four.world refl
          ∙ ap (λ es. run_with es p left t d.world) (same before);
      later = later;
      taps = count-all now passed c.world d.world four.world ∙ count-all now late b.world c.world three.world
          ∙ count-all now turned a.world b.world two.world ∙ count-all now early old.world a.world one.world;
    }

pub ends-early : (walk : WalkView) (old : StageView) (fault : RunFault) → Stops Err fault (all bus walk.clock ((plan_in walk).early walk.clock) old.world) → EndsIn walk old fault
ends-early walk old fault stops = λ before left.
    let p = plan_in walk in
    let now = walk.clock in
    run-stops fault before (all bus now (p.early now) old.world) (from_turns left p now) (run (suc left) bus p now old.world) (from-early left p now old.world) stops

pub ends-turns : (walk : WalkView) (old a : StageView) (fault : RunFault) → Happened walk.clock old ((plan_in walk).early walk.clock) a
    → Stops Err fault (all bus walk.clock (turns bus (plan_in walk) walk.clock a.world) a.world) → EndsIn walk old fault
ends-turns walk old a fault one stops = λ before left.
    let p = plan_in walk in
    let now = walk.clock in
    run-stops fault before (all bus now (turns bus p now a.world) a.world) (from_late left p now a.world) (run (suc left) bus p now old.world)
    (to_turns left p now old.world a.world one.world) stops

pub ends-late : (walk : WalkView) (old a b : StageView) (fault : RunFault) → Happened walk.clock old ((plan_in walk).early walk.clock) a
    → Happened walk.clock a (turns bus (plan_in walk) walk.clock a.world) b
    → Stops Err fault (all bus walk.clock ((plan_in walk).late walk.clock) b.world) → EndsIn walk old fault
ends-late walk old a b fault one two stops = λ before left.
    let p = plan_in walk in
    let now = walk.clock in
    run-stops fault before (all bus now (p.late now) b.world) (from_passing left p now a.world) (run (suc left) bus p now old.world)
    (to_late left p now old.world a.world b.world one.world two.world) stops

pub ends-passing : (walk : WalkView) (old a b c : StageView) (t : Option ℕ) (fault : RunFault) → Happened walk.clock old ((plan_in walk).early walk.clock) a
    → Happened walk.clock a (turns bus (plan_in walk) walk.clock a.world) b
    → Happened walk.clock b ((plan_in walk).late walk.clock) c
    → t ≡ next (plan_in walk) walk.clock (dues c.world) (next_change c.world)
    → Stops Err fault (all bus walk.clock (passing bus (plan_in walk) walk.clock t) c.world) → EndsIn walk old fault
ends-passing walk old a b c t fault one two three next_is stops = λ before left.
    let p = plan_in walk in
    let now = walk.clock in
    let nx = next p now (dues c.world) (next_change c.world) in
    run-stops fault before (all bus now (passing bus p now nx) c.world) _ (run (suc left) bus p now old.world)
    (to_passing left p now old.world a.world b.world c.world one.world two.world three.world)
    (subst (λ o. Stops Err fault (all bus now (passing bus p now o) c.world)) next_is stops)

-- ---- the walk

-- how the run of a scenario begins
abbrev pub run_of_walk : ScenarioView → World → Option (Result (World × List Event) (ℕ × Fault))
run_of_walk s first = run ((walk_of s).until + 1) bus (plan_in (walk_of s)) 0 first

-- and that it goes on so, with instants enough, behind the events by which a stage has come
pub record IsRest (s : ScenarioView) (first : World) (walk : WalkView) (stage : StageView) : Type 0 where
  pub events : List Event
  pub came : stage.comes first events
  pub left : ℕ
  pub enough : walk.until < walk.clock + left
  pub rest : run_of_walk s first ≡ run_with events (plan_in walk) left (Some walk.clock) stage.world

pub rest-begins : (s : ScenarioView) (walk : WalkView) (stage : StageView) → walk ≡ walk_of s → stage.comes stage.world [] → IsRest s stage.world walk stage
rest-begins s walk stage same came =
    subst (λ (v : WalkView). IsRest s stage.world v stage) (sym same) (record {
      events = [];
      came = came;
      left = (walk_of s).until + 1;
      enough = omega arith;
      rest = sym (no-front (run_of_walk s stage.world));
    })

pub rest-ready : (s : ScenarioView) (first : World) (walk : WalkView) (stage : StageView) → IsRest s first walk stage → IsReady stage
rest-ready s first walk stage rest = (first, rest.events, rest.came)

-- some instants are left
one-left : (s : ScenarioView) (first : World) (walk : WalkView) (stage : StageView) → walk.clock ≤ walk.until → (rest : IsRest s first walk stage) → (k : ℕ) × (rest.left ≡ suc k)
one-left s first walk stage in_time rest = by rest.left rest.enough
  where
    by : (n : ℕ) → walk.until < walk.clock + n → (k : ℕ) × (n ≡ suc k)
    by zero enough = absurd (omega (arith, in_time, enough))
    by (suc k) enough = (k, refl)

-- behind an instant the run goes on
after-instant : (s : ScenarioView) (first : World) (walk : WalkView) (old new : StageView) (t : Option ℕ) → walk.clock ≤ walk.until → (goes : GoesOn walk old t new) (rest : IsRest s first walk old)
    → (k : ℕ) × (rest.left ≡ suc k) × (run_of_walk s first ≡ run_with (rest.events ++ goes.events) (plan_in walk) k t new.world)
after-instant s first walk old new t in_time goes rest =
    let (k, is) = one-left s first walk old in_time rest in
    (k, is, rest.rest ∙ ap (λ n. run_with rest.events (plan_in walk) n (Some walk.clock) old.world) is ∙ goes.rest rest.events k)

pub rest-goes : (s : ScenarioView) (first : World) (walk after : WalkView) (old new : StageView) (t : Option ℕ) (at : ℕ) → after ≡ record walk { clock = at } → t ≡ Some at → walk.clock ≤ walk.until
    → GoesOn walk old t new → IsRest s first walk old → IsRest s first after new
rest-goes s first walk after old new t at moved some in_time one rest =
    let goes : GoesOn walk old (Some at) new = subst (λ o. GoesOn walk old o new) some one in
    let (k, is, run_is) = after-instant s first walk old new (Some at) in_time goes rest in
    subst (λ (v : WalkView). IsRest s first v new) (sym moved) (record {
      events = rest.events ++ goes.events;
      came = goes.comes first rest.events rest.came;
      left = k;
      enough = omega (arith, rest.enough, is, goes.later.0);
      rest = run_is;
    })

-- the events of a run that has begun so
run-events : (s : Scenario) (first : World) → new_world s.params s.taps ≡ Ok first
    → runs.events_of s ≡ with_end (λ end. end.1) (outcome_of (run (s.until + 1) bus (runs.plan_of s.steps s.until) 0 first))
run-events s first new = ap (λ o. with_end (λ end. end.1) (run_from s o)) new

-- where the walk ends, the stage has come by the events of the run
pub rest-ends : (s : ScenarioView) (first : World) (walk : WalkView) (old new : StageView) (t : Option ℕ) → new_world s.scenario.params s.scenario.taps ≡ Ok first → t ≡ None → walk.clock ≤ walk.until
    → GoesOn walk old t new → IsRest s first walk old → IsPlayed s.scenario first new
rest-ends s first walk old new t made none in_time one rest =
    let goes : GoesOn walk old None new = subst (λ o. GoesOn walk old o new) none one in
    let (k, is, run_is) = after-instant s first walk old new None in_time goes rest in (
      rest.events ++ goes.events,
      run-events s.scenario first made ∙ ap (λ o. with_end (λ end. end.1) (outcome_of o)) run_is,
      goes.comes first rest.events rest.came,
    )

-- where an instant is refused, the run ends so
pub rest-stops : (s : ScenarioView) (first : World) (walk : WalkView) (old : StageView) (fault : RunFault) → new_world s.scenario.params s.scenario.taps ≡ Ok first → walk.clock ≤ walk.until
    → EndsIn walk old fault → IsRest s first walk old → EndsBy s.scenario fault
rest-stops s first walk old fault made in_time ends rest =
    let (k, is) = one-left s first walk old in_time rest in
    ends-by fault
    (stops-too fault (λ r. Some (Err r)) (λ r. Some (Err (runs.At r.0 r.1))) (run_with rest.events (plan_in walk) (suc k) (Some walk.clock) old.world) (runs.events_of s.scenario)
    (λ r err. run-events s.scenario first made
    ∙ ap (λ o. with_end (λ end. end.1) (outcome_of o)) (rest.rest ∙ ap (λ n. run_with rest.events (plan_in walk) n (Some walk.clock) old.world) is ∙ err)) (ends rest.events k))
  where
    ends-by : (f : RunFault) → Stops (λ r. Some (Err (runs.At r.0 r.1))) f (runs.events_of s.scenario) → EndsBy s.scenario f
    ends-by (New n) wrong = absurd wrong
    ends-by (At moment f) stops = stops
