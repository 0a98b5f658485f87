-- The audit of a run: what is found in its events, whatever the limit of entries.
use Rattle.std.proofs.Common.{◌≡◌, ◌∙◌, ap, sym, subst, refl, arith, ℕ, zero, suc, ◌+◌, ◌≤◌, if◌then◌else◌, false, List, [], ◌∷◌, ◌++◌, Option, Some, None, Result, Ok, Err}
use Rattle.pb_faults.specs.FirstFault.{first_fault}
use Rattle.law_model.specs.Medium.{Tap}
use Rattle.law_model.specs.World.{World, Event, Reply, Fault, NewFault, new_faults, new_world_within, unless_fault}
use Rattle.law_model.specs.Step.{step}
use Rattle.law_runs.specs.Runs.{Plan, all, and_then, ending, instant, next, on_ok, passing, run, turns, with_front}
use Rattle.law_runs.specs.Bus.{bus, dues, next_change}
use Rattle.law_runs.specs.Premises.{Broken, Course, Waited, followed, course_of, has_waited, waited_by, broken_or, broken_by}
use Rattle.law_runs.specs.Scenarios.{Scenario, outcome_of, plan_of, with_end}
use Rattle.law_streams.specs.Audits.{audited_of, audited_from, audited_within, audit_ends_full, findings_from, findings_of_audit, found_in, illegal_in, no_events, watched_bus, watched_on}
use Rattle.law_streams.specs.Limits.{is_full}
use Rattle.law_streams.proofs.Following.{Follows, from-early, from_late, from_passing, from_turns, of_run, of_step, run_is, run-follows, step_is}
use Rattle.law_streams.proofs.Followed.{IsBelow, made}
use Rattle.law_streams.proofs.RaisedLimits.{limit-same, raised, step-raised}

-- ---- the bus does what the watched one does

none-stops : {X F : Type 0} (o : Option (Result X (ℕ × F))) → run_is (λ fault. false) o ≡ false
none-stops None = refl
none-stops (Some (Ok end)) = refl
none-stops (Some (Err stop)) = refl

unwatched : (c : Course) (e : Event) (o : Result (World × Reply) Fault) → o ≡ of_step (λ (c : Course). c.world) (λ (stop : Course × Fault). stop.1) (watched_on c e o)
unwatched c e (Ok next) = refl
unwatched c e (Err fault) = refl

bus-follows : Follows watched_bus bus (λ (c : Course). c.world) (λ (stop : Course × Fault). stop.1) (λ stop. false) (λ c. Unit {0})
bus-follows = record {
  step = λ c e any calm. unwatched c e (step c.world e);
  keeps = λ c next e reply any ok. tt;
  due = λ c any. refl;
  change = λ c any. refl;
  turn = refl;
  pass = refl;
}

run-unwatched : (k now : ℕ) (p : Plan Event) (c : Course) → run k bus p now c.world ≡ of_run (λ (c : Course). c.world) (λ (stop : Course × Fault). stop.1) (run k watched_bus p now c)
run-unwatched k now p c =
    run-follows watched_bus bus (λ (c : Course). c.world) (λ (stop : Course × Fault). stop.1) (λ stop. false) (λ c. Unit {0}) bus-follows k p now c tt
    (none-stops (run k watched_bus p now c))

-- ---- a run ends with the course of its events

course-append : (c : Course) (xs ys : List Event) → course_of c (xs ++ ys) ≡ course_of (course_of c xs) ys
course-append c [] ys = refl
course-append c (x ∷ xs) ys = course-append (followed c x (step c.world x)) xs ys

all-course : (now : ℕ) (xs : List Event) (c u : Course) → all watched_bus now xs c ≡ Ok u → u ≡ course_of c xs
all-course now [] c u ok = let same : c ≡ u = cc in sym same
all-course now (e ∷ es) c u ok = by (step c.world e) refl ok (λ next. all-course now es (followed c e (Ok next)) u)
  where
    by : (o : Result (World × Reply) Fault) → step c.world e ≡ o → and_then now (watched_on c e o) (all watched_bus now es) ≡ Ok u
        → ((next : World × Reply) → all watched_bus now es (followed c e (Ok next)) ≡ Ok u → u ≡ course_of (followed c e (Ok next)) es)
        → u ≡ course_of (followed c e (step c.world e)) es
    by (Ok next) is ok rest = rest next ok ∙ ap (λ o. course_of (followed c e o) es) (sym is)
    by (Err fault) is ok rest = absurd cc

-- a stage of an instant that does not end the run
goes : {W V F : Type 0} (o : Result W F) (f : W → Option (Result V F)) (end : V) → on_ok o f ≡ Some (Ok end) → (a : W) × (o ≡ Ok a) × (f a ≡ Some (Ok end))
goes (Ok a) f end ok = (a, refl, ok)
goes (Err fault) f end ok = absurd cc

-- the run ends, or goes on at the next instant
ends : (t : Option ℕ) (here : List Event) (c d : Course) (f : ℕ → Course → Option (Result (Course × List Event) (ℕ × (Course × Fault)))) (end : Course × List Event) → d ≡ course_of c here
    → ((at : ℕ) (last : Course × List Event) → f at d ≡ Some (Ok last) → last.0 ≡ course_of d last.1)
    → ending t here d f ≡ Some (Ok end) → end.0 ≡ course_of c end.1
ends None here c d f end is rest ok = let same : (d, here) ≡ end = cc in subst (λ (x : Course × List Event). x.0 ≡ course_of c x.1) same is
ends (Some at) here c d f end is rest ok = by (f at d) refl ok
  where
    by : (o : Option (Result (Course × List Event) (ℕ × (Course × Fault)))) → f at d ≡ o → with_front here o ≡ Some (Ok end) → end.0 ≡ course_of c end.1
    by None at_is ok = absurd cc
    by (Some (Err stop)) at_is ok = absurd cc
    by (Some (Ok last)) at_is ok =
        let same : (last.0, here ++ last.1) ≡ end = cc in
        subst (λ (x : Course × List Event). x.0 ≡ course_of c x.1) same
        (rest at last at_is ∙ ap (λ (x : Course). course_of x last.1) is ∙ sym (course-append c here last.1))

none-left : (p : Plan Event) (now : ℕ) (c : Course) → (let o : Option (Result (Course × List Event) (ℕ × (Course × Fault))) = None in run zero watched_bus p now c ≡ o)
unfolding run
none-left p now c = refl

run-course : (k : ℕ) (p : Plan Event) (now : ℕ) (c : Course) (end : Course × List Event) → run k watched_bus p now c ≡ Some (Ok end) → end.0 ≡ course_of c end.1
run-course zero p now c end ok = absurd (let wrong : None ≡ Some (Ok end) = sym (none-left p now c) ∙ ok in cc)
run-course (suc k) p now c end ok =
    let (one, early, after-early) = goes (all watched_bus now (p.early now) c) (from_turns watched_bus k p now) end (sym (from-early watched_bus k p now c) ∙ ok) in
    let (two, turned, after-turns) = goes (all watched_bus now (turns watched_bus p now one) one) (from_late watched_bus k p now one) end after-early in
    let (three, late, after-late) = goes (all watched_bus now (p.late now) two) (from_passing watched_bus k p now one) end after-turns in
    let t = next p now (dues three.world) (next_change three.world) in
    let here = instant watched_bus p now one three in
    let (four, passed, after-pass) = goes (all watched_bus now (passing watched_bus p now t) three) (λ d. ending t here d (run k watched_bus p)) end after-late in
    let first = all-course now (p.early now) c one early in
    let second = all-course now (turns watched_bus p now one) one two turned in
    let third = all-course now (p.late now) two three late in
    let fourth = all-course now (passing watched_bus p now t) three four passed in
    let whole : four ≡ course_of c here =
    fourth ∙ ap (λ (x : Course). course_of x (passing watched_bus p now t)) third
    ∙ sym (course-append two (p.late now) (passing watched_bus p now t))
    ∙ ap (λ (x : Course). course_of x (p.late now ++ passing watched_bus p now t)) second
    ∙ sym (course-append one (turns watched_bus p now one) (p.late now ++ passing watched_bus p now t))
    ∙ ap (λ (x : Course). course_of x (turns watched_bus p now one ++ (p.late now ++ passing watched_bus p now t))) first
    ∙ sym (course-append c (p.early now) (turns watched_bus p now one ++ (p.late now ++ passing watched_bus p now t))) in
    ends t here c four (run k watched_bus p) end whole (λ at last is. run-course k p at four last is) after-pass

-- ---- the audit of a run

pub audit-is-of-run : (s : Scenario) (limit : ℕ) → findings_of_audit (audited_within limit s) ≡ findings_from s (new_world_within limit s.params s.taps)
audit-is-of-run s limit = by (new_world_within limit s.params s.taps)
  where
    same : (w : World) (o : Option (Result (Course × List Event) (ℕ × (Course × Fault)))) → ((end : Course × List Event) → o ≡ Some (Ok end) → end.0 ≡ course_of (no_events w) end.1)
        → findings_of_audit (audited_of o) ≡ with_end (found_in w) (outcome_of (of_run (λ (c : Course). c.world) (λ (stop : Course × Fault). stop.1) o))
    same w None course = refl
    same w (Some (Ok end)) course = ap (λ (b : Option Broken). Some (Ok (b, illegal_in end.0.world))) (ap (λ (c : Course). c.broken) (course end refl))
    same w (Some (Err stop)) course = refl

    by : (o : Result World NewFault) → findings_of_audit (audited_from s o) ≡ findings_from s o
    by (Ok w) =
        let p = plan_of s.steps s.until in
        same w (run (s.until + 1) watched_bus p 0 (no_events w)) (λ end is. run-course (s.until + 1) p 0 (no_events w) end is)
        ∙ ap (λ o. with_end (found_in w) (outcome_of o)) (sym (run-unwatched (s.until + 1) 0 p (no_events w)))
    by (Err fault) = refl

-- ---- within a greater limit

-- a course of the same events on a bus with another limit
abbrev more : ℕ → Course → Course
more limit c = record c { world = raised limit c.world }

abbrev more_stop : ℕ → Course × Fault → Course × Fault
more_stop limit stop = (more limit stop.0, stop.1)

waited-raised : (limit : ℕ) (w : World) (tap : ℕ) (taps : List Tap) → waited_by (raised limit w) tap taps ≡ waited_by w tap taps
waited-raised limit w tap [] = refl
waited-raised limit w tap (t ∷ ts) =
    ap (λ (rest : List Waited). if has_waited w tap t then record { tap = tap; moment = w.now } ∷ rest else rest) (waited-raised limit w (tap + 1) ts)

followed-raised : (limit : ℕ) (c : Course) (e : Event) (next : World × Reply) → followed (more limit c) e (Ok (raised limit next.0, next.1)) ≡ more limit (followed c e (Ok next))
followed-raised limit c e next =
    ap (λ (new : List Waited). record { world = raised limit next.0; waited = new ++ c.waited; broken = broken_or c.broken next.0.now (broken_by c.world e next.0 new (new ++ c.waited)) })
    (waited-raised limit next.0 0 next.0.taps)

watched-raised : (limit : ℕ) (c : Course) (e : Event) (o : Result (World × Reply) Fault)
    → watched_on (more limit c) e (of_step (raised limit) (λ (fault : Fault). fault) o) ≡ of_step (more limit) (more_stop limit) (watched_on c e o)
watched-raised limit c e (Ok next) = ap (λ (x : Course). Ok (x, next.1)) (followed-raised limit c e next)
watched-raised limit c e (Err fault) = refl

watched-calm : (c : Course) (e : Event) (o : Result (World × Reply) Fault) → step_is (λ (stop : Course × Fault). is_full stop.1) (watched_on c e o) ≡ step_is is_full o
watched-calm c e (Ok next) = refl
watched-calm c e (Err fault) = refl

watched-ok : (c after : Course) (e : Event) (reply : Reply) (o : Result (World × Reply) Fault) → watched_on c e o ≡ Ok (after, reply) → o ≡ Ok (after.world, reply)
watched-ok c after e reply (Ok x) ok =
    let both : (followed c e (Ok x), x.1) ≡ (after, reply) = cc in
    let same : followed c e (Ok x) ≡ after = ap (λ (y : Course × Reply). y.0) both in
    let told : x.1 ≡ reply = ap (λ (y : Course × Reply). y.1) both in
    ap (λ (w : World). Ok (w, x.1)) (ap (λ (y : Course). y.world) same) ∙ ap (λ (r : Reply). Ok (after.world, r)) told
watched-ok c after e reply (Err fault) ok = absurd cc

watched-more : (limit : ℕ) → Follows watched_bus watched_bus (more limit) (more_stop limit) (λ (stop : Course × Fault). is_full stop.1) (λ c. IsBelow limit c.world)
watched-more limit = record {
  step = λ c e less calm. ap (watched_on (more limit c) e) (step-raised limit c.world e less (sym (watched-calm c e (step c.world e)) ∙ calm)) ∙ watched-raised limit c e (step c.world e);
  keeps = λ c next e reply less ok. omega (arith, limit-same c.world next.world e reply (watched-ok c next e reply (step c.world e) ok), less);
  due = λ c less. refl;
  change = λ c less. refl;
  turn = refl;
  pass = refl;
}

pub more-audits : (s : Scenario) (few many : ℕ) → few ≤ many → audit_ends_full (audited_within few s) ≡ false → audited_within many s ≡ audited_within few s
more-audits s few many less calm = by (first_fault (new_faults s.params s.taps)) calm
  where
    same : (o : Option (Result (Course × List Event) (ℕ × (Course × Fault)))) → audited_of (of_run (more many) (more_stop many) o) ≡ audited_of o
    same None = refl
    same (Some (Ok end)) = refl
    same (Some (Err stop)) = refl

    still : (o : Option (Result (Course × List Event) (ℕ × (Course × Fault)))) → audit_ends_full (audited_of o) ≡ run_is (λ (stop : Course × Fault). is_full stop.1) o
    still None = refl
    still (Some (Ok end)) = refl
    still (Some (Err stop)) = refl

    by : (o : Option NewFault) → audit_ends_full (audited_from s (unless_fault o (made few s.params s.taps))) ≡ false
        → audited_from s (unless_fault o (made many s.params s.taps)) ≡ audited_from s (unless_fault o (made few s.params s.taps))
    by None calm =
        let p = plan_of s.steps s.until in
        let c = no_events (made few s.params s.taps) in
        ap audited_of
        (run-follows watched_bus watched_bus (more many) (more_stop many) (λ (stop : Course × Fault). is_full stop.1) (λ c. IsBelow many c.world) (watched-more many) (s.until + 1) p 0 c less
        (sym (still (run (s.until + 1) watched_bus p 0 c)) ∙ calm))
        ∙ same (run (s.until + 1) watched_bus p 0 c)
    by (Some fault) calm = refl
