-- Events of a moment that are played one after another.
use Rattle.std.proofs.Common.{◌≡◌, ◌∙◌, ℕ, zero, suc, ◌+◌, ◌<◌, ◌≤◌, List, [], ◌∷◌, ◌++◌, append_assoc, append-nil, length, map, take, drop, slice_get, get_or, Bool, true, false, if◌then◌else◌, Option, Some, None, Result, Ok, Err, IsErr, MatchResult, refl, ap, sym, subst, arith}
use Rattle.std.specs.Prelude.{min}
use Rattle.std.proofs.lemmas.List.{drop_all, length-map}
use Rattle.std.specs.Result.{IsErrAnd}
use Rattle.law_turn.specs.Stations.{earlier}
use Rattle.std.specs.Option.{option_to_list, option_and_then}
use Rattle.law_model.specs.Medium.{Tap}
use Rattle.law_model.specs.World.{World, Event, Turn, Reply, Fault}
use Rattle.law_model.specs.Step.{step}
use Rattle.pb_world.specs.Worlds.{due_at}
use Rattle.law_runs.specs.Runs.{Plan, all, and_then, comes, next_turn, places, turns, wanted, wants}
use Rattle.law_runs.specs.Bus.{bus, due_in, dues}
use Rattle.law_runs.proofs.OnTheBus.{turns-leave-others}
use Rattle.pb_scenario.specs.declared.deeds.Step.{Step}
use Rattle.pb_scenario.specs.declared.deeds.When.{When}
use Rattle.pb_scenario.specs.Steps.{deed_of, steps_of}
use Rattle.pb_scenario.specs.Said.{said_in, said_by}
use Rattle.pb_scenario.proofs.Said.{said-cut, said-more}
use Rattle.pb_scenario.specs.declared.faults.RunFault.{RunFault}
use Rattle.pb_scenario.specs.Stages.{StageView, ComesOn, IsReady}
use Rattle.pb_scenario.specs.Plays.{Happened, Stops, turn_if}
pub use Rattle.pb_world.proofs.Instants.{in-err}
use Rattle.pb_world.proofs.Instants.{all-append, due-get, one-ok, others-due, turn_list, turns-append, turns-list, wanted-front}
use Rattle.pb_scenario.proofs.Playing.{err-append, stops-too}

pub happened-none : (now : ℕ) (v : StageView) → Happened now v [] v
happened-none now v = record { world = refl; comes = λ start events came. subst (v.comes start) (sym (append-nil events)) came }

pub happened-join : (now : ℕ) (a b c : StageView) (xs ys : List Event) → Happened now a xs b → Happened now b ys c → Happened now a (xs ++ ys) c
happened-join now a b c xs ys one two = record {
  world = all-append now xs ys a.world b.world one.world ∙ two.world;
  comes = λ start events came. subst (c.comes start) (append_assoc events xs ys) (two.comes start (events ++ xs) (one.comes start events came));
}

-- one event has happened
pub one-happened : (now : ℕ) (a b : StageView) (e : Event) (reply : Reply) → ComesOn a (e ∷ []) b → step a.world e ≡ Ok (b.world, reply) → Happened now a (e ∷ []) b
one-happened now a b e reply comes goes = record { world = one-ok now a.world b.world reply e [] goes; comes = comes }

-- what was ready is so still
pub ready-after : (now : ℕ) (a b : StageView) (es : List Event) → Happened now a es b → IsReady a → IsReady b
ready-after now a b es one (start, events, came) = (start, events ++ es, one.comes start events came)

pub stops-after : (now : ℕ) (a b : StageView) (xs ys : List Event) (fault : RunFault) → Happened now a xs b → Stops Err fault (all bus now ys b.world) → Stops Err fault (all bus now (xs ++ ys) a.world)
stops-after now a b xs ys fault one stops =
    stops-too fault Err Err (all bus now ys b.world) (all bus now (xs ++ ys) a.world) (λ r err. all-append now xs ys a.world b.world one.world ∙ err) stops

pub stops-front : (now : ℕ) (w : World) (xs ys : List Event) (fault : RunFault) → Stops Err fault (all bus now xs w) → Stops Err fault (all bus now (xs ++ ys) w)
stops-front now w xs ys fault stops =
    stops-too fault Err Err (all bus now xs w) (all bus now (xs ++ ys) w) (λ r err. err-append now xs ys w r err) stops

-- ---- what code finds

pub get-at : {X : Type 0} (xs : List X) (i : ℕ) (x : X) → i < length xs → x ≡ get_or xs i x → slice_get xs i ≡ Some x
get-at [] i x within is = absurd (omega (arith, within))
get-at (y ∷ xs) zero x within is = ap (λ z. Some z) (sym is)
get-at (y ∷ xs) (suc i) x within is = get-at xs i x (omega (arith, within)) is

-- ---- other words for the same

pub happened-as : (m now : ℕ) (a b : StageView) (es fs : List Event) → m ≡ now → es ≡ fs → Happened m a es b → Happened now a fs b
happened-as m now a b es fs at are one = subst (λ n. Happened n a fs b) at (subst (λ xs. Happened m a xs b) are one)

pub stops-as : (m now : ℕ) (w : World) (es fs : List Event) (fault : RunFault) → m ≡ now → es ≡ fs → Stops Err fault (all bus m es w) → Stops Err fault (all bus now fs w)
stops-as m now w es fs fault at are stops = subst (λ n. Stops Err fault (all bus n fs w)) at (subst (λ xs. Stops Err fault (all bus m xs w)) are stops)

pub happened-at : (m now : ℕ) (a b : StageView) (es : List Event) → m ≡ now → Happened m a es b → Happened now a es b
happened-at m now a b es at one = subst (λ n. Happened n a es b) at one

pub stops-at : (m now : ℕ) (w : World) (es : List Event) (fault : RunFault) → m ≡ now → Stops Err fault (all bus m es w) → Stops Err fault (all bus now es w)
stops-at m now w es fault at stops = subst (λ n. Stops Err fault (all bus n es w)) at stops

-- ---- steps

pub step-happened : (now : ℕ) (when : When) (i : ℕ) (steps : List Step) (s : Step) (a b c : StageView) → slice_get steps i ≡ Some s → Happened now a (said_by when (steps_of (take i steps))) b
    → Happened now b (option_to_list (said_in when (deed_of s.deed))) c → Happened now a (said_by when (steps_of (take (i + 1) steps))) c
step-happened now when i steps s a b c found before one =
    subst (λ es. Happened now a es c) (sym (said-more when i steps s found)) (happened-join now a b c (said_by when (steps_of (take i steps))) (option_to_list (said_in when (deed_of s.deed))) before one)

pub step-stops : (now : ℕ) (when : When) (i : ℕ) (steps : List Step) (s : Step) (a b : StageView) (fault : RunFault) → slice_get steps i ≡ Some s → Happened now a (said_by when (steps_of (take i steps))) b
    → Stops Err fault (all bus now (option_to_list (said_in when (deed_of s.deed))) b.world) → Stops Err fault (all bus now (said_by when (steps_of steps)) a.world)
step-stops now when i steps s a b fault found before stops =
    let here = option_to_list (said_in when (deed_of s.deed)) in
    let rest = said_by when (steps_of (drop (i + 1) steps)) in
    subst (λ es. Stops Err fault (all bus now es a.world)) (sym (said-cut when i steps s found))
    (stops-after now a b (said_by when (steps_of (take i steps))) (here ++ rest) fault before (stops-front now b.world here rest fault stops))

-- ---- turns

-- Some taps have taken their turns: those that want one of the taps before a position. From it on the taps are due as they were.
pub record HaveTurned (p : Plan Event) (now clock tap : ℕ) (old new : StageView) : Type 0 where
  pub taps : List ℕ
  pub happened : Happened now old (map Turn taps) new
  pub left : taps ++ places tap (wanted p clock tap (drop tap (dues old.world))) ≡ places 0 (wanted p clock 0 (dues old.world))
  pub others : (other : ℕ) → tap ≤ other → slice_get (dues new.world) other ≡ slice_get (dues old.world) other

pub none-turned : (p : Plan Event) (now clock : ℕ) (v : StageView) → HaveTurned p now clock 0 v v
none-turned p now clock v = record { taps = []; happened = happened-none now v; left = refl; others = λ other behind. refl }

-- what is left behind a tap
abbrev left_behind : Plan Event → ℕ → ℕ → StageView → List ℕ
left_behind p clock tap old = places (tap + 1) (wanted p clock (tap + 1) (drop (tap + 1) (dues old.world)))

turned-left : (p : Plan Event) (now clock tap : ℕ) (old new : StageView) (turned : HaveTurned p now clock tap old new) → tap < length new.world.taps
    → turned.taps ++ (turn_list (wants p clock tap (due_at new.world tap)) tap ++ left_behind p clock tap old) ≡ places 0 (wanted p clock 0 (dues old.world))
turned-left p now clock tap old new turned there =
    let found = sym (turned.others tap (omega arith)) ∙ due-get new.world tap there in
    ap (λ (ts : List ℕ). turned.taps ++ ts) (wanted-front p clock tap (dues old.world) (due_at new.world tap) found) ∙ turned.left

-- one tap more has turned, if it wanted to
pub turned-more : (p : Plan Event) (now clock tap : ℕ) (old mid new : StageView) → HaveTurned p now clock tap old mid → tap < length mid.world.taps
    → Happened now mid (turn_if (wants p clock tap (due_at mid.world tap)) tap) new → HaveTurned p now clock (tap + 1) old new
turned-more p now clock tap old mid new turned there one =
    let b = wants p clock tap (due_at mid.world tap) in
    let rest = left_behind p clock tap old in
    record {
      taps = turned.taps ++ turn_list b tap;
      happened = subst (λ es. Happened now old es new) (sym (turns-append turned.taps (turn_list b tap) ∙ ap (λ es. map Turn turned.taps ++ es) (turns-list b tap)))
          (happened-join now old mid new (map Turn turned.taps) (turn_if b tap) turned.happened one);
      left = append_assoc turned.taps (turn_list b tap) rest ∙ turned-left p now clock tap old mid turned there;
      others = λ other behind. others-due now tap other b mid.world new.world behind one.world ∙ turned.others other (omega (arith, behind));
    }

-- all that want to have turned
pub turned-all : (p : Plan Event) (now clock tap : ℕ) (old new : StageView) → HaveTurned p now clock tap old new → length old.world.taps ≤ tap
    → Happened now old (turns bus p clock old.world) new
turned-all p now clock tap old new turned past =
    let none : drop tap (dues old.world) ≡ [] = drop_all tap (dues old.world) (omega (arith, past, length-map old.world.taps (due_in old.world))) in
    let all_of : turned.taps ≡ places 0 (wanted p clock 0 (dues old.world)) =
    sym (append-nil turned.taps) ∙ ap (λ (ds : List (Option ℕ)). turned.taps ++ places tap (wanted p clock tap ds)) (sym none) ∙ turned.left in
    subst (λ (ts : List ℕ). Happened now old (map Turn ts) new) all_of turned.happened

-- a turn that is refused stops the turns
pub turned-stops : (p : Plan Event) (now clock tap : ℕ) (old mid : StageView) (fault : RunFault) → HaveTurned p now clock tap old mid → tap < length mid.world.taps
    → Stops Err fault (all bus now (turn_if (wants p clock tap (due_at mid.world tap)) tap) mid.world) → Stops Err fault (all bus now (turns bus p clock old.world) old.world)
turned-stops p now clock tap old mid fault turned there stops =
    let b = wants p clock tap (due_at mid.world tap) in
    let rest = left_behind p clock tap old in
    let cut : map Turn (places 0 (wanted p clock 0 (dues old.world))) ≡ map Turn turned.taps ++ (turn_if b tap ++ map Turn rest) =
    ap (map Turn) (sym (turned-left p now clock tap old mid turned there)) ∙ turns-append turned.taps (turn_list b tap ++ rest)
    ∙ ap (λ es. map Turn turned.taps ++ es) (turns-append (turn_list b tap) rest ∙ ap (λ es. es ++ map Turn rest) (turns-list b tap)) in
    subst (λ es. Stops Err fault (all bus now es old.world)) (sym cut)
    (stops-after now old mid (map Turn turned.taps) (turn_if b tap ++ map Turn rest) fault turned.happened (stops-front now mid.world (turn_if b tap) (map Turn rest) fault stops))
