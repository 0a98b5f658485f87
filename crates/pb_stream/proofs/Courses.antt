-- The courses that a watched bus reaches: what they keep, and that a bus without a watch does the same.
use Rattle.std.proofs.Common.{◌≡◌, ◌∙◌, ap, refl, sym, ℕ, suc, Bool, List, [], ◌∷◌, ◌++◌, false, Option, Some, None, Result, Ok, Err}
use Rattle.pb_timers.specs.Timers.{Params}
use Rattle.law_model.specs.Medium.{TapSpec}
use Rattle.law_model.specs.Laws.{AllBegun, AllOver}
use Rattle.law_model.specs.Trace.{Entry, entry_begin}
use Rattle.law_model.specs.World.{World, Event, Reply, Fault}
use Rattle.law_model.specs.Step.{step}
use Rattle.law_runs.specs.Headline.{specs_of}
use Rattle.law_runs.specs.Judging.{IsOrdered, IsOrderedFrom, Stands, StandsFrom}
use Rattle.law_runs.specs.Legality.{first_illegal}
use Rattle.law_runs.specs.Premises.{Broken, Course, course_of, followed}
use Rattle.law_runs.specs.Runs.{Plan, all, and_then, ending, run, with_front}
use Rattle.law_runs.specs.Scenarios.{At}
use Rattle.law_runs.proofs.Ordered.{stands-after}
use Rattle.law_streams.specs.Audits.{illegal_in, watched_bus, watched_on}
use Rattle.law_streams.specs.Judgement.{Kept, first_found, hear, hear_all, is_legal, kept_at, kept_of}
use Rattle.law_streams.specs.Streams.{in_world, streamed_of, stream_on, telling_bus}
use Rattle.law_streams.proofs.Following.{Follows, of_run, of_step, run-follows, run_is}
use Rattle.law_streams.proofs.Judgement.{judged-as-heard}
use Rattle.law_token.specs.Runs.{SameBus}
use Rattle.law_token.proofs.whole.JoinedRuns.{runs_same}
use Rattle.pb_stream.specs.Courses.{Reaches}

-- ---- events that are accepted

pub watched-ok : (c after : Course) (e : Event) (reply : Reply) (o : Result (World × Reply) Fault) → watched_on c e o ≡ Ok (after, reply) → o ≡ Ok (after.world, reply)
watched-ok c after e reply (Ok x) ok =
    let both : (followed c e (Ok x), x.1) ≡ (after, reply) = cc in
    let same : followed c e (Ok x) ≡ after = ap (λ (y : Course × Reply). y.0) both in
    let told : x.1 ≡ reply = ap (λ (y : Course × Reply). y.1) both in
    ap (λ (w : World). Ok (w, x.1)) (ap (λ (y : Course). y.world) same) ∙ ap (λ (r : Reply). Ok (after.world, r)) told
watched-ok c after e reply (Err fault) ok = absurd cc

-- an event more in front
led-on : (c d : Course) (e : Event) (next : World × Reply) → step c.world e ≡ Ok next → Reaches (followed c e (Ok next)) d → Reaches c d
led-on c d e next is r =
    record { events = e ∷ r.events; runs = (next.0, next.1, is, r.runs); course = r.course ∙ ap (λ (o : Result (World × Reply) Fault). course_of (followed c e o) r.events) (sym is) }

none-lead : (c d : Course) → c ≡ d → Reaches c d
none-lead c d same = record { events = []; runs = ap (λ (x : Course). x.world) same; course = sym same }

pub all-reaches : (now : ℕ) (es : List Event) (c d : Course) → all watched_bus now es c ≡ Ok d → Reaches c d
all-reaches now [] c d ok = none-lead c d cc
all-reaches now (e ∷ es) c d ok = by (step c.world e) refl ok (λ u. all-reaches now es u d)
  where
    by : (o : Result (World × Reply) Fault) → step c.world e ≡ o → and_then now (watched_on c e o) (all watched_bus now es) ≡ Ok d
        → ((u : Course) → all watched_bus now es u ≡ Ok d → Reaches u d) → Reaches c d
    by (Ok next) is ok rest = led-on c d e next is (rest (followed c e (Ok next)) ok)
    by (Err fault) is ok rest = absurd cc

-- up to the event that is refused
pub stop-reaches : (now m : ℕ) (es : List Event) (c d : Course) (f : Fault) → all watched_bus now es c ≡ Err (m, (d, f)) → Reaches c d
stop-reaches now m [] c d f err = absurd cc
stop-reaches now m (e ∷ es) c d f err = by (step c.world e) refl err (λ u. stop-reaches now m es u d f)
  where
    by : (o : Result (World × Reply) Fault) → step c.world e ≡ o → and_then now (watched_on c e o) (all watched_bus now es) ≡ Err (m, (d, f))
        → ((u : Course) → all watched_bus now es u ≡ Err (m, (d, f)) → Reaches u d) → Reaches c d
    by (Ok next) is err rest = led-on c d e next is (rest (followed c e (Ok next)) err)
    by (Err fault) is err rest =
        let same : (now, (c, fault)) ≡ (m, (d, f)) = cc in
        none-lead c d (ap (λ (x : ℕ × (Course × Fault)). x.1.0) same)

-- ---- what stays

still-broken : (b : Broken) (c : Course) (e : Event) (o : Result (World × Reply) Fault) → c.broken ≡ Some b → (followed c e o).broken ≡ Some b
still-broken b c e (Ok next) is = cc
still-broken b c e (Err fault) is = is

all-broken : (b : Broken) (es : List Event) (c : Course) → c.broken ≡ Some b → (course_of c es).broken ≡ Some b
all-broken b [] c is = is
all-broken b (e ∷ es) c is = all-broken b es (followed c e (step c.world e)) (still-broken b c e (step c.world e) is)

-- the first premise that broke is the first one later
pub broken-stays : (b : Broken) (c d : Course) → Reaches c d → c.broken ≡ Some b → d.broken ≡ Some b
broken-stays b c d r is = ap (λ (x : Course). x.broken) r.course ∙ all-broken b r.events c is

-- the first illegal record that a judge found is the first one of more entries
pub illegal-stays : (p : Params) (specs : List TapSpec) (place : ℕ) (k : Kept) (es : List Entry) → k.illegal ≡ Some place → (hear_all p specs k es).illegal ≡ Some place
illegal-stays p specs place k [] is = is
illegal-stays p specs place k (e ∷ es) is = illegal-stays p specs place (hear p specs k e) es (once (is_legal p specs (kept_at p.ttd (entry_begin e) k) e))
  where
    once : (legal : Bool) → first_found k.illegal k.count legal ≡ Some place
    once legal = ap (λ o. first_found o k.count legal) is

-- the trace of a world that stands by begin is in order, with what is over in front
in-order : (from now : ℕ) (es : List Entry) → StandsFrom from es → AllBegun now es → IsOrderedFrom from es
in-order from now [] stands begun = tt
in-order from now (e ∷ es) stands begun = (stands.0, begun.1, in-order (entry_begin e) now es stands.1 begun.2)

pub over-in-order : (delay m from now : ℕ) (old es : List Entry) → StandsFrom from (old ++ es) → AllOver delay m old → AllBegun now es → IsOrderedFrom from (old ++ es)
over-in-order delay m from now [] es stands over begun = in-order from now es stands begun
over-in-order delay m from now (e ∷ old) es stands over begun = (stands.0, over.0, over-in-order delay m (entry_begin e) now old es stands.1 over.2 begun)

-- ---- a bus without a watch

abbrev of_stop : Course × Fault → World × Fault
of_stop stop = (stop.0.world, stop.1)

unwatched : (c : Course) (e : Event) (o : Result (World × Reply) Fault) → in_world c.world o ≡ of_step (λ (c : Course). c.world) of_stop (watched_on c e o)
unwatched c e (Ok next) = refl
unwatched c e (Err fault) = refl

telling-follows : Follows watched_bus telling_bus (λ (c : Course). c.world) of_stop (λ stop. false) (λ c. Unit {0})
telling-follows = record {
  step = λ c e any calm. unwatched c e (step c.world e);
  keeps = λ c next e reply any ok. tt;
  due = λ c any. refl;
  change = λ c any. refl;
  turn = refl;
  pass = refl;
}

none-stops : {X F : Type 0} (o : Option (Result X (ℕ × F))) → run_is (λ fault. false) o ≡ false
none-stops None = refl
none-stops (Some (Ok end)) = refl
none-stops (Some (Err stop)) = refl

run-told : (k now : ℕ) (p : Plan Event) (c : Course) → run k telling_bus p now c.world ≡ of_run (λ (c : Course). c.world) of_stop (run k watched_bus p now c)
run-told k now p c =
    run-follows watched_bus telling_bus (λ (c : Course). c.world) of_stop (λ stop. false) (λ c. Unit {0}) telling-follows k p now c tt (none-stops (run k watched_bus p now c))

-- an instant of a watched bus is one of a stream
pub goes-streams : (k now : ℕ) (p : Plan Event) (c d : Course) (t : Option ℕ) (here : List Event) → run (suc k) watched_bus p now c ≡ ending t here d (run k watched_bus p)
    → streamed_of (run (suc k) telling_bus p now c.world) ≡ stream_on p k t d.world
goes-streams k now p c d t here goes =
    ap streamed_of (run-told (suc k) now p c ∙ ap (of_run (λ (c : Course). c.world) of_stop) goes) ∙ by t
  where
    front : (o : Option (Result (Course × List Event) (ℕ × (Course × Fault))))
        → streamed_of (of_run (λ (c : Course). c.world) of_stop (with_front here o)) ≡ streamed_of (of_run (λ (c : Course). c.world) of_stop o)
    front None = refl
    front (Some (Ok end)) = refl
    front (Some (Err stop)) = refl

    by : (t : Option ℕ) → streamed_of (of_run (λ (c : Course). c.world) of_stop (ending t here d (run k watched_bus p))) ≡ stream_on p k t d.world
    by None = refl
    by (Some at) = front (run k watched_bus p at d) ∙ ap streamed_of (sym (run-told k at p d))

pub stops-streams : (k now m : ℕ) (p : Plan Event) (c d : Course) (f : Fault) → run (suc k) watched_bus p now c ≡ Some (Err (m, (d, f)))
    → streamed_of (run (suc k) telling_bus p now c.world) ≡ Some (record { entries = d.world.trace; fault = Some (At m f) })
stops-streams k now m p c d f stops = ap streamed_of (run-told (suc k) now p c ∙ ap (of_run (λ (c : Course). c.world) of_stop) stops)

-- ---- what is found at a course

-- what a judge finds that has heard the whole trace
pub all-heard : (p : Params) (specs : List TapSpec) (w : World) → w.params ≡ p → specs_of w ≡ specs → IsOrdered w.trace → (kept_of p specs w.trace).illegal ≡ illegal_in w
all-heard p specs w params taps ordered =
    judged-as-heard p specs w.trace ordered ∙ ap (λ q. first_illegal q specs w.trace) (sym params) ∙ ap (λ ts. first_illegal w.params ts w.trace) (sym taps)

-- a course that is reached is one of the same bus, whose trace stands by begin
pub reached-same : (c d : Course) → Reaches c d → SameBus c.world d.world
reached-same c d r = runs_same r.events c.world d.world r.runs

pub reached-stands : (c d : Course) → Reaches c d → Stands c.world → Stands d.world
reached-stands c d r stands = stands-after r.events c.world d.world r.runs stands
