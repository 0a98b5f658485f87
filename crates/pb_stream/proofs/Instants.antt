-- What is played at a moment is an instant of the run.
use Rattle.std.proofs.Common.{◌≡◌, ◌∙◌, ap, refl, sym, subst, arith, ℕ, ◌<◌, ◌≤◌, Bool, true, false, min, List, ◌++◌, Option, Some, None}
use Rattle.std.specs.Prelude.{IfSome, nat_lt, nat_le, ◌&&◌, if◌then◌else◌}
use Rattle.law_turn.specs.Stations.{earlier}
use Rattle.law_model.specs.Trace.{Entry}
use Rattle.law_model.specs.World.{World, Event}
use Rattle.pb_taps.specs.declared.faults.WorldFault.{WorldFault}
use Rattle.law_runs.specs.Premises.{Course}
use Rattle.law_runs.specs.Runs.{instant, next, onward, passing, turns}
use Rattle.law_runs.specs.Bus.{bus, dues, next_change}
use Rattle.law_streams.specs.Audits.{watched_bus}
use Rattle.law_streams.proofs.Following.{same-passing}
use Rattle.law_streams.proofs.PastSteps.{change-behind}
use Rattle.pb_world.specs.Buses.{world_of}
use Rattle.pb_scenario.specs.Faults.{model_fault}
use Rattle.pb_scenario.specs.Walks.{WalkView, plan_in}
use Rattle.pb_stream.specs.Plays.{GoesOn, HappenedAt, IsNext, StoppedAt, StopsIn}
use Rattle.pb_stream.specs.Stages.{StageView, GoesFrom, IsAt}
use Rattle.pb_stream.proofs.AnyInstants.{all-append, run-goes-on, run-stops-early, run-stops-late, run-stops-passing, run-stops-turns}
use Rattle.pb_stream.proofs.Courses.{all-reaches, stop-reaches}
use Rattle.pb_stream.proofs.Playing.{stops-so}

-- a pass on a bus is one on a watched bus
pub pass-watched : (walk : WalkView) (t : Option ℕ) → passing bus (plan_in walk) walk.clock t ≡ passing watched_bus (plan_in walk) walk.clock t
pass-watched walk t = same-passing watched_bus bus refl (plan_in walk) walk.clock t

-- the next instant is not past the next step
onward-not-past : (walk : WalkView) (other t : Option ℕ) → t ≡ onward (plan_in walk) walk.clock (earlier ((plan_in walk).later walk.clock) other)
    → IfSome t (λ moment. IfSome ((plan_in walk).later walk.clock) (λ step. moment ≤ step))
onward-not-past walk other t is = subst (λ o. IfSome o (λ moment. IfSome ((plan_in walk).later walk.clock) (λ step. moment ≤ step))) (sym is) (by ((plan_in walk).later walk.clock) other)
  where
    of : (o : Option ℕ) (m : ℕ) → IfSome o (λ step. m ≤ step) → IfSome (onward (plan_in walk) walk.clock (Some m)) (λ moment. IfSome o (λ step. moment ≤ step))
    of o m le = cut (nat_lt walk.clock m && nat_le m walk.until)
      where
        cut : (b : Bool) → IfSome (if b then Some m else None) (λ moment. IfSome o (λ step. moment ≤ step))
        cut true = le
        cut false = tt

    by : (step other : Option ℕ) → IfSome (onward (plan_in walk) walk.clock (earlier step other)) (λ moment. IfSome step (λ s. moment ≤ s))
    by None None = tt
    by None (Some m) = of None m tt
    by (Some s) None = of (Some s) s (omega arith)
    by (Some s) (Some m) = of (Some s) (min s m) (omega arith)

pub is-next : (walk : WalkView) (other t : Option ℕ) → t ≡ onward (plan_in walk) walk.clock (earlier ((plan_in walk).later walk.clock) other)
    → IfSome t (λ at. (walk.clock < at) × (at ≤ walk.until)) → IfSome t (IsNext walk)
is-next walk other t is bounds = by t bounds (onward-not-past walk other t is)
  where
    by : (t : Option ℕ) → IfSome t (λ at. (walk.clock < at) × (at ≤ walk.until)) → IfSome t (λ moment. IfSome ((plan_in walk).later walk.clock) (λ step. moment ≤ step))
        → IfSome t (IsNext walk)
    by None bounds step = tt
    by (Some at) bounds step = record { later = bounds.0; in_time = bounds.1; not_past = step }

-- the next instant, after the course that has led to a stage
next-here : (walk : WalkView) (old : List Entry) (c : Course) (v : StageView) (t : Option ℕ) → IsAt v old c
    → t ≡ next (plan_in walk) walk.clock (dues (world_of v.bus)) (next_change (world_of v.bus)) → t ≡ next (plan_in walk) walk.clock (dues c.world) (next_change c.world)
next-here walk old c v t at is =
    is ∙ ap (next (plan_in walk) walk.clock (dues (world_of v.bus))) (sym (change-behind old (world_of v.bus) at.past))
    ∙ ap (λ (w : World). next (plan_in walk) walk.clock (dues w) (next_change w)) (sym at.here)

-- ---- the stages of an instant

-- what happens next, after whatever course
abbrev pub Then : WalkView → List Entry → StageView → (Course → List Event) → StageView → Type 0
Then walk old v es new = (c : Course) → GoesFrom v old c → HappenedAt walk.clock old c (es c) new

abbrev pub ThenStops : WalkView → List Entry → StageView → (Course → List Event) → WorldFault → StageView → Type 0
ThenStops walk old v es fault new = (c : Course) → GoesFrom v old c → IfSome (model_fault fault) (λ f. StoppedAt walk.clock old c (es c) f new)

module _ (walk : WalkView) (old : List Entry) (c : Course) (v0 v1 v2 v3 : StageView) (from : GoesFrom v0 old c)
    (one : Then walk old v0 (λ c. (plan_in walk).early walk.clock) v1)
    (two : Then walk old v1 (λ c. turns watched_bus (plan_in walk) walk.clock c) v2)
    (three : Then walk old v2 (λ c. (plan_in walk).late walk.clock) v3) where
  pub goes-on : (t : Option ℕ) (new : StageView) → t ≡ next (plan_in walk) walk.clock (dues (world_of v3.bus)) (next_change (world_of v3.bus))
      → Then walk old v3 (λ c. passing watched_bus (plan_in walk) walk.clock t) new → GoesOn walk old c t new
  goes-on t new is four =
      let p = plan_in walk in
      let now = walk.clock in
      let (c1, f1, e1) = one c from in
      let (c2, f2, e2) = two c1 f1 in
      let (c3, f3, e3) = three c2 f2 in
      let (c4, f4, e4) = four c3 f3 in
      let here = next-here walk old c3 v3 t f3.at is in
      let early = p.early now in
      let turn = turns watched_bus p now c1 in
      let late = p.late now in
      let pass = passing watched_bus p now t in
      record {
        after = c4;
        from = f4;
        reached = all-reaches now (early ++ (turn ++ (late ++ pass))) c c4
            (all-append watched_bus now early (turn ++ (late ++ pass)) c c1 e1 ∙ all-append watched_bus now turn (late ++ pass) c1 c2 e2 ∙ all-append watched_bus now late pass c2 c3 e3 ∙ e4);
        events = instant watched_bus p now c1 c3;
        rest = λ left. run-goes-on watched_bus left p now c c1 c2 c3 c4 t e1 e2 e3 here e4;
      }

  pub ends-passing : (t : Option ℕ) (new : StageView) (fault : WorldFault) → t ≡ next (plan_in walk) walk.clock (dues (world_of v3.bus)) (next_change (world_of v3.bus))
      → ThenStops walk old v3 (λ c. passing watched_bus (plan_in walk) walk.clock t) fault new → IfSome (model_fault fault) (λ f. StopsIn walk old c f new)
  ends-passing t new fault is stops =
      let p = plan_in walk in
      let now = walk.clock in
      let (c1, f1, e1) = one c from in
      let (c2, f2, e2) = two c1 f1 in
      let (c3, f3, e3) = three c2 f2 in
      let here = next-here walk old c3 v3 t f3.at is in
      let early = p.early now in
      let turn = turns watched_bus p now c1 in
      let late = p.late now in
      let pass = passing watched_bus p now t in
      stops-so fault (λ f. StoppedAt now old c3 pass f new) (λ f. StopsIn walk old c f new)
      (λ f s. record {
        after = s.0;
        at = s.1;
        reached = stop-reaches now now (early ++ (turn ++ (late ++ pass))) c s.0 f
            (all-append watched_bus now early (turn ++ (late ++ pass)) c c1 e1 ∙ all-append watched_bus now turn (late ++ pass) c1 c2 e2 ∙ all-append watched_bus now late pass c2 c3 e3 ∙ s.2);
        rest = λ left. run-stops-passing watched_bus left p now c c1 c2 c3 t (now, (s.0, f)) e1 e2 e3 here s.2;
      }) (stops c3 f3)

pub ends-late : (walk : WalkView) (old : List Entry) (c : Course) (v0 v1 v2 new : StageView) (fault : WorldFault) → GoesFrom v0 old c
    → Then walk old v0 (λ c. (plan_in walk).early walk.clock) v1 → Then walk old v1 (λ c. turns watched_bus (plan_in walk) walk.clock c) v2
    → ThenStops walk old v2 (λ c. (plan_in walk).late walk.clock) fault new → IfSome (model_fault fault) (λ f. StopsIn walk old c f new)
ends-late walk old c v0 v1 v2 new fault from one two stops =
    let p = plan_in walk in
    let now = walk.clock in
    let (c1, f1, e1) = one c from in
    let (c2, f2, e2) = two c1 f1 in
    let early = p.early now in
    let turn = turns watched_bus p now c1 in
    let late = p.late now in
    stops-so fault (λ f. StoppedAt now old c2 late f new) (λ f. StopsIn walk old c f new)
    (λ f s. record {
      after = s.0;
      at = s.1;
      reached = stop-reaches now now (early ++ (turn ++ late)) c s.0 f
          (all-append watched_bus now early (turn ++ late) c c1 e1 ∙ all-append watched_bus now turn late c1 c2 e2 ∙ s.2);
      rest = λ left. run-stops-late watched_bus left p now c c1 c2 (now, (s.0, f)) e1 e2 s.2;
    }) (stops c2 f2)

pub ends-turns : (walk : WalkView) (old : List Entry) (c : Course) (v0 v1 new : StageView) (fault : WorldFault) → GoesFrom v0 old c
    → Then walk old v0 (λ c. (plan_in walk).early walk.clock) v1
    → ThenStops walk old v1 (λ c. turns watched_bus (plan_in walk) walk.clock c) fault new → IfSome (model_fault fault) (λ f. StopsIn walk old c f new)
ends-turns walk old c v0 v1 new fault from one stops =
    let p = plan_in walk in
    let now = walk.clock in
    let (c1, f1, e1) = one c from in
    let early = p.early now in
    let turn = turns watched_bus p now c1 in
    stops-so fault (λ f. StoppedAt now old c1 turn f new) (λ f. StopsIn walk old c f new)
    (λ f s. record {
      after = s.0;
      at = s.1;
      reached = stop-reaches now now (early ++ turn) c s.0 f (all-append watched_bus now early turn c c1 e1 ∙ s.2);
      rest = λ left. run-stops-turns watched_bus left p now c c1 (now, (s.0, f)) e1 s.2;
    }) (stops c1 f1)

pub ends-early : (walk : WalkView) (old : List Entry) (c : Course) (v0 new : StageView) (fault : WorldFault) → GoesFrom v0 old c
    → ThenStops walk old v0 (λ c. (plan_in walk).early walk.clock) fault new → IfSome (model_fault fault) (λ f. StopsIn walk old c f new)
ends-early walk old c v0 new fault from stops =
    let p = plan_in walk in
    let now = walk.clock in
    stops-so fault (λ f. StoppedAt now old c (p.early now) f new) (λ f. StopsIn walk old c f new)
    (λ f s. record {
      after = s.0;
      at = s.1;
      reached = stop-reaches now now (p.early now) c s.0 f s.2;
      rest = λ left. run-stops-early watched_bus left p now c (now, (s.0, f)) s.2;
    }) (stops c from)
