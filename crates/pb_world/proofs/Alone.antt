-- A bus that runs by itself plays the run.
use Rattle.std.proofs.Common.{◌≡◌, ◌∙◌, ℕ, suc, ◌+◌, ◌-◌, ◌<◌, ◌≤◌, List, [], ◌∷◌, ◌++◌, append_assoc, append-nil, length, map, drop, slice_get, Bool, if◌then◌else◌, Option, Some, None, Result, Ok, Err, refl, ap, sym, subst, arith}
use Rattle.std.specs.Prelude.{IfSome, unwrap_or}
use Rattle.std.proofs.lemmas.Bool.{lt-ltb}
use Rattle.std.proofs.lemmas.List.{drop_all, length-map, map-append}
use Rattle.law_model.specs.World.{World, Event, Turn, Pass, Reply, Fault}
use Rattle.law_model.specs.Step.{step}
use Rattle.law_runs.specs.Runs.{Plan, all, and_then, ending, next, on_ok, passing, places, run, turns, wanted, wants, with_front}
use Rattle.law_runs.specs.Bus.{bus, due_in, dues, next_change}
use Rattle.pb_taps.specs.Faults.{Refuses}
use Rattle.pb_taps.specs.declared.faults.WorldFault.{WorldFault}
use Rattle.law_token.specs.Actions.{Happens}
use Rattle.pb_world.specs.Acted.{HasActed}
use Rattle.pb_world.specs.Driven.{Applies, ComesOn, Stays}
use Rattle.pb_world.specs.RunTo.{alone_until, GoesOn, Happened, HasRun, HasStopped, passes_to, Plays, run_to, run_with, Stopped, StopsIn, turn_if}
use Rattle.pb_world.specs.Told.{tray_at}
use Rattle.pb_world.specs.Watched.{IsFollowed, world_in}
use Rattle.pb_world.specs.Worlds.{due_at}
use Rattle.pb_world.specs.declared.watched.Watched.{Watched}
use Rattle.law_token.proofs.whole.JoinedRuns.{runs_join}
use Rattle.pb_world.proofs.Telling.{told-join, tray-none}
use Rattle.pb_world.proofs.Instants.{all-append, due-get, front-front, no-front, one-ok, others-due, turns-append, turns-list, turn_list, wanted-front}

-- ---- events of a moment

pub happened-none : (now : ℕ) (w : Watched) → IsFollowed w → Happened now w [] w
happened-none now w followed = record {
  world = refl;
  comes = record {
    acts = λ gone start actions came. subst (HasActed w gone start) (sym (append-nil actions)) came;
    runs = refl;
    told = λ k. sym (tray-none (tray_at w.told k));
  };
  followed = followed;
}

comes-join : (a b c : Watched) (xs ys : List Event) → ComesOn a xs b → ComesOn b ys c → ComesOn a (xs ++ ys) c
comes-join a b c xs ys one two = record {
  acts = λ gone start actions came.
      subst (HasActed c gone start) (append_assoc actions (map Happens xs) (map Happens ys) ∙ ap (λ more. actions ++ more) (sym (map-append Happens xs ys)))
      (two.acts gone start (actions ++ map Happens xs) (one.acts gone start actions came));
  runs = runs_join xs ys (world_in a) (world_in c) (world_in b, one.runs, two.runs);
  told = told-join a b c xs ys one.runs one.told two.told;
}

pub happened-join : (now : ℕ) (a b c : Watched) (xs ys : List Event) → Happened now a xs b → Happened now b ys c → Happened now a (xs ++ ys) c
happened-join now a b c xs ys one two = record {
  world = all-append now xs ys (world_in a) (world_in b) one.world ∙ two.world;
  comes = comes-join a b c xs ys one.comes two.comes;
  followed = two.followed;
}

one-happened : (now : ℕ) (old new : Watched) (e : Event) (reply : Reply) → IsFollowed new → ComesOn old (e ∷ []) new → step (world_in old) e ≡ Ok (world_in new, reply) → Happened now old (e ∷ []) new
one-happened now old new e reply followed comes goes = record { world = one-ok now (world_in old) (world_in new) reply e [] goes; comes = comes; followed = followed }

one-stopped : (now : ℕ) (old new : Watched) (e : Event) (fault : WorldFault) → IsFollowed new → Stays old new → Refuses (world_in old) e (step (world_in old) e) fault → Stopped now old (e ∷ []) fault new
one-stopped now old new e fault followed stays why = record {
  before = [];
  refused = e;
  rest = [];
  cut = refl;
  happened = record {
    world = ap (λ (w : World). Ok w) (sym stays.rest.world);
    comes = record {
      acts = λ gone start actions came. subst (HasActed new gone start) (sym (append-nil actions)) (stays.rest.came gone start actions came);
      runs = sym stays.rest.world;
      told = λ k. stays.told k ∙ sym (tray-none (tray_at old.told k));
    };
    followed = followed;
  };
  why = subst (λ (w : World). Refuses w e (step w e) fault) (sym stays.rest.world) why;
}

-- an event that is applied is played
pub plays-one : (now : ℕ) (old new : Watched) (e : Event) (result : Result (Unit {0}) WorldFault) → IsFollowed new → Applies old e result new → Plays now old (e ∷ []) result new
plays-one now old new e (Ok done) followed (comes, steps) = one-happened now old new e steps.0 followed comes steps.1
plays-one now old new e (Err fault) followed (stays, why) = one-stopped now old new e fault followed stays why

-- events that stop are the first of some
pub stopped-front : (now : ℕ) (old new : Watched) (xs ys : List Event) (fault : WorldFault) → Stopped now old xs fault new → Stopped now old (xs ++ ys) fault new
stopped-front now old new xs ys fault stops = record {
  before = stops.before;
  refused = stops.refused;
  rest = stops.rest ++ ys;
  cut = ap (λ es. es ++ ys) stops.cut ∙ append_assoc stops.before (stops.refused ∷ stops.rest) ys;
  happened = stops.happened;
  why = stops.why;
}

-- events stop after others that have happened
pub stopped-after : (now : ℕ) (a b new : Watched) (xs ys : List Event) (fault : WorldFault) → Happened now a xs b → Stopped now b ys fault new → Stopped now a (xs ++ ys) fault new
stopped-after now a b new xs ys fault one stops = record {
  before = xs ++ stops.before;
  refused = stops.refused;
  rest = stops.rest;
  cut = ap (λ es. xs ++ es) stops.cut ∙ sym (append_assoc xs stops.before (stops.refused ∷ stops.rest));
  happened = happened-join now a b new xs stops.before one stops.happened;
  why = stops.why;
}

-- the fault of the refused one is that of the events
stopped-err : (now : ℕ) (old new : Watched) (es : List Event) (fault : WorldFault) (stops : Stopped now old es fault new) (f : Fault) → step (world_in new) stops.refused ≡ Err f
    → all bus now es (world_in old) ≡ Err (now, f)
stopped-err now old new es fault stops f err =
    ap (λ xs. all bus now xs (world_in old)) stops.cut
    ∙ all-append now stops.before (stops.refused ∷ stops.rest) (world_in old) (world_in new) stops.happened.world
    ∙ ap (λ o. and_then now o (all bus now stops.rest)) err

-- ---- turns

-- Some taps have taken their turns: those that want one of the taps before a position. From it on the taps are due as they were.
pub record HaveTurned (until now tap : ℕ) (old new : Watched) : Type 0 where
  pub taps : List ℕ
  pub happened : Happened now old (map Turn taps) new
  pub left : taps ++ places tap (wanted (alone_until until) now tap (drop tap (dues (world_in old)))) ≡ places 0 (wanted (alone_until until) now 0 (dues (world_in old)))
  pub others : (other : ℕ) → tap ≤ other → slice_get (dues (world_in new)) other ≡ slice_get (dues (world_in old)) other

pub none-turned : (until now : ℕ) (w : Watched) → IsFollowed w → HaveTurned until now 0 w w
none-turned until now w followed = record { taps = []; happened = happened-none now w followed; left = refl; others = λ other behind. refl }

abbrev left_behind : ℕ → ℕ → ℕ → Watched → List ℕ
left_behind until now tap old = places (tap + 1) (wanted (alone_until until) now (tap + 1) (drop (tap + 1) (dues (world_in old))))

turned-left : (until now tap : ℕ) (old new : Watched) (turned : HaveTurned until now tap old new) → tap < length (world_in new).taps
    → turned.taps ++ (turn_list (wants (alone_until until) now tap (due_at (world_in new) tap)) tap ++ left_behind until now tap old) ≡ places 0 (wanted (alone_until until) now 0 (dues (world_in old)))
turned-left until now tap old new turned there =
    let found = sym (turned.others tap (omega arith)) ∙ due-get (world_in new) tap there in
    ap (λ (ts : List ℕ). turned.taps ++ ts) (wanted-front (alone_until until) now tap (dues (world_in old)) (due_at (world_in new) tap) found) ∙ turned.left

-- one tap more has turned, if it wanted to
pub turned-more : (until now tap : ℕ) (old mid new : Watched) → HaveTurned until now tap old mid → tap < length (world_in mid).taps
    → Happened now mid (turn_if (wants (alone_until until) now tap (due_at (world_in mid) tap)) tap) new → HaveTurned until now (tap + 1) old new
turned-more until now tap old mid new turned there one =
    let b = wants (alone_until until) now tap (due_at (world_in mid) tap) in
    let rest = left_behind until now tap old in
    record {
      taps = turned.taps ++ turn_list b tap;
      happened = subst (λ es. Happened now old es new) (sym (turns-append turned.taps (turn_list b tap) ∙ ap (λ es. map Turn turned.taps ++ es) (turns-list b tap)))
          (happened-join now old mid new (map Turn turned.taps) (turn_if b tap) turned.happened one);
      left = append_assoc turned.taps (turn_list b tap) rest ∙ turned-left until now tap old mid turned there;
      others = λ other behind. others-due now tap other b (world_in mid) (world_in new) behind one.world ∙ turned.others other (omega (arith, behind));
    }

-- all that want to have turned
pub turned-all : (until now tap : ℕ) (old new : Watched) → HaveTurned until now tap old new → length (world_in old).taps ≤ tap
    → Happened now old (turns bus (alone_until until) now (world_in old)) new
turned-all until now tap old new turned past =
    let none : drop tap (dues (world_in old)) ≡ [] = drop_all tap (dues (world_in old)) (omega (arith, past, length-map (world_in old).taps (due_in (world_in old)))) in
    let all_of : turned.taps ≡ places 0 (wanted (alone_until until) now 0 (dues (world_in old))) =
    sym (append-nil turned.taps) ∙ ap (λ (ds : List (Option ℕ)). turned.taps ++ places tap (wanted (alone_until until) now tap ds)) (sym none) ∙ turned.left in
    subst (λ (ts : List ℕ). Happened now old (map Turn ts) new) all_of turned.happened

-- a turn that is refused stops the turns
pub turned-stops : (until now tap : ℕ) (old mid new : Watched) (fault : WorldFault) → HaveTurned until now tap old mid → tap < length (world_in mid).taps
    → Stopped now mid (turn_if (wants (alone_until until) now tap (due_at (world_in mid) tap)) tap) fault new → Stopped now old (turns bus (alone_until until) now (world_in old)) fault new
turned-stops until now tap old mid new fault turned there stops =
    let b = wants (alone_until until) now tap (due_at (world_in mid) tap) in
    let rest = left_behind until now tap old in
    let cut : map Turn (places 0 (wanted (alone_until until) now 0 (dues (world_in old)))) ≡ map Turn turned.taps ++ (turn_if b tap ++ map Turn rest) =
    ap (map Turn) (sym (turned-left until now tap old mid turned there)) ∙ turns-append turned.taps (turn_list b tap ++ rest)
    ∙ ap (λ es. map Turn turned.taps ++ es) (turns-append (turn_list b tap) rest ∙ ap (λ es. es ++ map Turn rest) (turns-list b tap)) in
    subst (λ es. Stopped now old es fault new) (sym cut)
    (stopped-after now old mid new (map Turn turned.taps) (turn_if b tap ++ map Turn rest) fault turned.happened (stopped-front now mid new (turn_if b tap) (map Turn rest) fault stops))

-- ---- an instant

abbrev from_turns : ℕ → ℕ → ℕ → World → World → Option (Result (World × List Event) (ℕ × Fault))
from_turns until left now w b =
    let p = alone_until until in
    let t = next p now (dues b) (next_change b) in
    on_ok (all bus now (passing bus p now t) b) (λ d. ending t (turns bus p now w ++ passing bus p now t) d (run left bus p))

run-unfolds : (until left now : ℕ) (w : World) → run (suc left) bus (alone_until until) now w ≡ on_ok (all bus now (turns bus (alone_until until) now w) w) (from_turns until left now w)
unfolding run
run-unfolds until left now w = refl

run-turned : (until left now : ℕ) (w b : World) → all bus now (turns bus (alone_until until) now w) w ≡ Ok b → run (suc left) bus (alone_until until) now w ≡ from_turns until left now w b
run-turned until left now w b one = run-unfolds until left now w ∙ ap (λ o. on_ok o (from_turns until left now w)) one

run-instant : (until left now : ℕ) (w b d : World) (t : Option ℕ) → all bus now (turns bus (alone_until until) now w) w ≡ Ok b → t ≡ next (alone_until until) now (dues b) (next_change b)
    → all bus now (passing bus (alone_until until) now t) b ≡ Ok d
    → run (suc left) bus (alone_until until) now w ≡ ending t (turns bus (alone_until until) now w ++ passing bus (alone_until until) now t) d (run left bus (alone_until until))
run-instant until left now w b d t one is =
    let p = alone_until until in
    let nx = next p now (dues b) (next_change b) in
    subst (λ (o : Option ℕ). all bus now (passing bus p now o) b ≡ Ok d → run (suc left) bus p now w ≡ ending o (turns bus p now w ++ passing bus p now o) d (run left bus p)) (sym is)
    (λ two. run-turned until left now w b one ∙ ap (λ o. on_ok o (λ x. ending nx (turns bus p now w ++ passing bus p now nx) x (run left bus p))) two)

rest-ending : (left : ℕ) (p : Plan Event) (before here : List Event) (t : Option ℕ) (d : World) → with_front before (ending t here d (run left bus p)) ≡ run_with (before ++ here) p left t d
rest-ending left p before here None d = refl
rest-ending left p before here (Some moment) d = front-front before here (run left bus p moment d)

pub goes-on : (until now : ℕ) (old b new : Watched) (t : Option ℕ) → Happened now old (turns bus (alone_until until) now (world_in old)) b
    → t ≡ next (alone_until until) now (dues (world_in b)) (next_change (world_in b)) → IfSome t (λ moment. (now < moment) × (moment ≤ until))
    → Happened now b (passing bus (alone_until until) now t) new → GoesOn until now old t new
goes-on until now old b new t one is later two =
    let p = alone_until until in
    let turned = turns bus p now (world_in old) in
    let passed = passing bus p now t in
    record {
      events = turned ++ passed;
      comes = comes-join old b new turned passed one.comes two.comes;
      rest = λ before left. ap (with_front before) (run-instant until left now (world_in old) (world_in b) (world_in new) t one.world is two.world)
          ∙ rest-ending left p before (turned ++ passed) t (world_in new);
      later = later;
      followed = two.followed;
    }

pub stops-turns : (until now : ℕ) (old new : Watched) (fault : WorldFault) → Stopped now old (turns bus (alone_until until) now (world_in old)) fault new → StopsIn until now old fault new
stops-turns until now old new fault stops = record {
  events = stops.before;
  refused = stops.refused;
  why = stops.why;
  ends = λ f err before left. ap (with_front before)
      (run-unfolds until left now (world_in old)
      ∙ ap (λ o. on_ok o (from_turns until left now (world_in old))) (stopped-err now old new (turns bus (alone_until until) now (world_in old)) fault stops f err));
  comes = stops.happened.comes;
  followed = stops.happened.followed;
}

pub stops-passing : (until now : ℕ) (old b new : Watched) (t : Option ℕ) (fault : WorldFault) → Happened now old (turns bus (alone_until until) now (world_in old)) b
    → t ≡ next (alone_until until) now (dues (world_in b)) (next_change (world_in b))
    → Stopped now b (passing bus (alone_until until) now t) fault new → StopsIn until now old fault new
stops-passing until now old b new t fault one is stops =
    let p = alone_until until in
    let nx = next p now (dues (world_in b)) (next_change (world_in b)) in
    let turned = turns bus p now (world_in old) in
    record {
      events = turned ++ stops.before;
      refused = stops.refused;
      why = stops.why;
      ends = λ f err before left. ap (with_front before)
          (run-turned until left now (world_in old) (world_in b) one.world
          ∙ ap (λ o. on_ok o (λ x. ending nx (turned ++ passing bus p now nx) x (run left bus p)))
          (subst (λ (o : Option ℕ). all bus now (passing bus p now o) (world_in b) ≡ Err (now, f)) is (stopped-err now b new (passing bus p now t) fault stops f err)));
      comes = comes-join old b new turned stops.before one.comes stops.happened.comes;
      followed = stops.happened.followed;
    }

-- time passes to the next instant, or to the end
pub passes-so : (until now : ℕ) (t : Option ℕ) → IfSome t (λ moment. (now < moment) × (moment ≤ until)) → passes_to now (unwrap_or t until) ≡ passing bus (alone_until until) now t
passes-so until now None later = refl
passes-so until now (Some moment) later = ap (λ (b : Bool). if b then Pass (moment - now) ∷ [] else []) (lt-ltb now moment later.0)

-- ---- the run

-- Some events of the run have led on, and it continues at an instant: with any number of instants left, it is the run of
-- some number of them.
pub record IsRest (until : ℕ) (old : Watched) (now : ℕ) (new : Watched) : Type 0 where
  pub events : List Event
  pub comes : ComesOn old events new
  pub rest : (left : ℕ) → (instants : ℕ) × (run_to instants until (world_in old) ≡ run_with events (alone_until until) left (Some now) (world_in new))
  pub followed : IsFollowed new

pub rest-begins : (until now : ℕ) (w : Watched) → now ≡ (world_in w).now → IsFollowed w → IsRest until w now w
rest-begins until now w is followed = record {
  events = [];
  comes = (happened-none now w followed).comes;
  rest = λ left. (left, ap (λ n. run left bus (alone_until until) n (world_in w)) (sym is) ∙ sym (no-front (run left bus (alone_until until) now (world_in w))));
  followed = followed;
}

after-instant : (until now : ℕ) (first old new : Watched) (t : Option ℕ) → (goes : GoesOn until now old t new) (rest : IsRest until first now old) (left : ℕ)
    → (instants : ℕ) × (run_to instants until (world_in first) ≡ run_with (rest.events ++ goes.events) (alone_until until) left t (world_in new))
after-instant until now first old new t goes rest left =
    let (instants, is) = rest.rest (suc left) in (instants, is ∙ goes.rest rest.events left)

pub rest-goes : (until now at : ℕ) (first old new : Watched) → GoesOn until now old (Some at) new → IsRest until first now old → IsRest until first at new
rest-goes until now at first old new goes rest = record {
  events = rest.events ++ goes.events;
  comes = comes-join first old new rest.events goes.events rest.comes goes.comes;
  rest = after-instant until now first old new (Some at) goes rest;
  followed = goes.followed;
}

pub rest-ends : (until now : ℕ) (first old new : Watched) → GoesOn until now old None new → IsRest until first now old → HasRun until first new
rest-ends until now first old new goes rest =
    let (instants, is) = after-instant until now first old new None goes rest 0 in
    record { events = rest.events ++ goes.events; instants = instants; run = is; comes = comes-join first old new rest.events goes.events rest.comes goes.comes }

pub rest-stops : (until now : ℕ) (first old new : Watched) (fault : WorldFault) → StopsIn until now old fault new → IsRest until first now old → HasStopped until fault first new
rest-stops until now first old new fault stops rest = record {
  events = rest.events ++ stops.events;
  refused = stops.refused;
  why = stops.why;
  ends = λ f err. let (instants, is) = rest.rest 1 in (instants, now, is ∙ stops.ends f err rest.events 0);
  comes = comes-join first old new rest.events stops.events rest.comes stops.comes;
}
