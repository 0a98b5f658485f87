-- What runs keep, and how they are put together.
use Rattle.std.proofs.Common.{◌≡◌, ◌<◌, List, [], ◌∷◌, ◌++◌, refl, sym, ap, ◌∙◌, subst, Option, Some, None}
use Rattle.std.proofs.lemmas.Option.{none-some}
use Rattle.pb_timers.specs.Timers.{Params}
use Rattle.law_model.specs.Medium.{TapSpec}
use Rattle.law_model.specs.World.{World, Event}
use Rattle.law_model.specs.Step.{step, RunsTo}
use Rattle.law_model.specs.Laws.{AreEvents}
use Rattle.law_runs.specs.Premises.{Broken, Course, course_of, followed, first_broken}
use Rattle.law_token.specs.Invariant.{Settled}
use Rattle.law_token.specs.Promises.{HasRun}
use Rattle.law_token.specs.Runs.{SameBus, RunsBoth}
use Rattle.law_token.proofs.whole.Keeping.{stays_broken}
use Rattle.law_token.proofs.whole.Stays.{same_bus, new_params, settled_new, settled_step}

-- ---- put together

pub runs_join : (xs ys : List Event) (w next : World) → RunsBoth w xs ys next → RunsTo w (xs ++ ys) next
runs_join [] ys w next both = subst (λ z. RunsTo z ys next) (sym both.1) both.2
runs_join (e ∷ es) ys w next both = (both.1.0, both.1.1, both.1.2, runs_join es ys both.1.0 next (both.0, both.1.3, both.2))

pub runs_part : (xs ys : List Event) (w next : World) → RunsTo w (xs ++ ys) next → RunsBoth w xs ys next
runs_part [] ys w next runs = (w, refl, runs)
runs_part (e ∷ es) ys w next runs = let r = runs_part es ys runs.0 next runs.3 in (r.0, (runs.0, runs.1, runs.2, r.1), r.2)

pub events_join : (xs ys : List Event) → AreEvents xs → AreEvents ys → AreEvents (xs ++ ys)
events_join [] ys a b = b
events_join (x ∷ xs) ys a b = (a.0, events_join xs ys a.1 b)

-- ---- premises

course_join : (xs ys : List Event) (c : Course) → course_of c (xs ++ ys) ≡ course_of (course_of c xs) ys
course_join [] ys c = refl
course_join (x ∷ xs) ys c = course_join xs ys (followed c x (step c.world x))

-- a premise that is broken on the way is broken in the end
pub unbroken_before : (w : World) (xs ys : List Event) → first_broken w (xs ++ ys) ≡ None → first_broken w xs ≡ None
unbroken_before w xs ys none = by c.broken refl
  where
    c : Course
    c = course_of (record { world = w; waited = []; broken = None }) xs

    by : (o : Option Broken) → c.broken ≡ o → o ≡ None
    by None e = refl
    by (Some b) e = absurd (none-some b (sym none ∙ ap (λ (z : Course). z.broken) (course_join xs ys (record { world = w; waited = []; broken = None })) ∙ stays_broken ys c b e))

-- ---- the bus

pub runs_same : (events : List Event) (w next : World) → RunsTo w events next → SameBus w next
runs_same [] w next runs = subst (SameBus w) runs (record { params = refl; specs = refl })
runs_same (e ∷ es) w next runs =
    let one = same_bus w runs.0 e runs.1 runs.2 in
    let more = runs_same es runs.0 next runs.3 in
    record { params = more.params ∙ one.params; specs = more.specs ∙ one.specs }

-- ---- what holds of each tap

pub runs_settle : (events : List Event) (w next : World) → w.params.hsa < 127 → AreEvents events → RunsTo w events next → Settled w → Settled next
runs_settle [] w next highest are runs s = subst Settled runs s
runs_settle (e ∷ es) w next highest are runs s =
    let one = same_bus w runs.0 e runs.1 runs.2 in
    runs_settle es runs.0 next (subst (λ (z : Params). z.hsa < 127) (sym one.params) highest) are.1 runs.3 (settled_step w runs.0 e runs.1 highest are.0 runs.2 s)

pub settled_after : (p : Params) (specs : List TapSpec) (events : List Event) (new w : World) → p.hsa < 127 → HasRun p specs events new w → Settled w
settled_after p specs events new w highest run =
    let s = settled_new p specs new highest run.fit run.made in
    runs_settle events new w (subst (λ (z : Params). z.hsa < 127) (sym (new_params p specs new run.made)) highest) run.are run.runs s
