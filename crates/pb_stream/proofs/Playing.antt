-- Events that are played one after another, up to the one that is refused.
use Rattle.std.proofs.Common.{◌≡◌, ◌∙◌, ap, sym, subst, refl, arith, ℕ, zero, suc, ◌+◌, ◌<◌, ◌≤◌, ◌-◌, List, [], ◌∷◌, ◌++◌, length, map, take, drop, get_or, slice_get, Bool, true, false, if◌then◌else◌, Option, Some, None, Result, Ok, Err}
use Rattle.std.specs.Prelude.{IfSome}
use Rattle.std.specs.List.{cons_option}
use Rattle.std.proofs.lemmas.List.{drop_more, length-map, map-append, take-append-drop, take_more}
use Rattle.std.proofs.lemmas.List.Elements.{filter_map-append}
use Rattle.std.specs.Option.{option_and_then, option_to_list}
use Rattle.law_model.specs.Behind.{behind, all_behind, IsPast}
use Rattle.law_model.specs.Trace.{Entry}
use Rattle.law_model.specs.Medium.{Tap}
use Rattle.law_model.specs.World.{World, Event, Turn, Reply, Fault}
use Rattle.law_model.specs.Step.{step}
use Rattle.law_runs.specs.Premises.{Course, followed}
use Rattle.law_runs.specs.Scenarios.{Deed}
use Rattle.law_runs.specs.Runs as runs
use Rattle.law_turn.specs.Stations.{earlier}
use Rattle.law_runs.specs.Runs.{Plan, all, and_then, comes, next_turn, one_by_one, turns, wants}
use Rattle.law_runs.specs.Bus.{due_in, dues}
use Rattle.law_streams.specs.Audits.{watched_bus, watched_on}
use Rattle.law_streams.proofs.PastSteps.{step-behind}
use Rattle.pb_taps.specs.declared.faults.WorldFault.{WorldFault}
use Rattle.pb_world.specs.Buses.{world_of, world_with}
use Rattle.pb_world.specs.Worlds.{due_at}
use Rattle.pb_scenario.specs.declared.deeds.When.{When}
use Rattle.pb_scenario.specs.Faults.{model_fault}
use Rattle.pb_scenario.specs.Plays.{turn_if}
use Rattle.pb_scenario.specs.Said.{said_in, said_of}
use Rattle.pb_scenario.proofs.Soonest.{Agrees, due-found}
use Rattle.pb_stream.specs.Plays.{HappenedAt, Plays, StoppedAt}
use Rattle.pb_stream.specs.Stages.{StageView, GoesFrom, IsAt}
use Rattle.pb_stream.proofs.AnyInstants.{all-append, all-stops, watched-leave-others, watched-one-by-one}

-- ---- refusals

-- a refusal of some events in the words of others that end so
pub stops-so : (fault : WorldFault) (A B : Fault → Type 0) → ((f : Fault) → A f → B f) → IfSome (model_fault fault) A → IfSome (model_fault fault) B
stops-so fault A B so stops = by (model_fault fault) stops
  where
    by : (o : Option Fault) → IfSome o A → IfSome o B
    by None is = is
    by (Some f) is = so f is

-- ---- one event after another

pub none-happened : (now : ℕ) (old : List Entry) (c : Course) (v : StageView) → GoesFrom v old c → HappenedAt now old c [] v
none-happened now old c v from = (c, from, refl)

pub happened-then : (now : ℕ) (old : List Entry) (c : Course) (xs ys : List Event) (v new : StageView) → HappenedAt now old c xs v
    → ((d : Course) → GoesFrom v old d → HappenedAt now old d ys new) → HappenedAt now old c (xs ++ ys) new
happened-then now old c xs ys v new (b, from, is) more = let m = more b from in (m.0, m.1, all-append watched_bus now xs ys c b is ∙ m.2)

-- one of some events is refused, whatever comes behind them
pub stopped-then : (now : ℕ) (old : List Entry) (c : Course) (xs ys zs : List Event) (f : Fault) (v new : StageView) → HappenedAt now old c xs v
    → ((d : Course) → GoesFrom v old d → StoppedAt now old d ys f new) → StoppedAt now old c (xs ++ (ys ++ zs)) f new
stopped-then now old c xs ys zs f v new (b, from, is) stops =
    let s = stops b from in
    (s.0, s.1, all-append watched_bus now xs (ys ++ zs) c b is ∙ all-stops watched_bus now ys zs b (now, (s.0, f)) s.2)

-- ---- one event on a bus with its past in front

module _ (old : List Entry) (c : Course) (w : World) (e : Event) (past : IsPast old w) (here : c.world ≡ behind old w) where
  behind-accepts : (next : World) (reply : Reply) → step w e ≡ Ok (next, reply) → step c.world e ≡ Ok (behind old next, reply)
  behind-accepts next reply ok = ap (λ (x : World). step x e) here ∙ step-behind old w e past ∙ ap (all_behind old) ok

  behind-refuses : (f : Fault) → step w e ≡ Err f → step c.world e ≡ Err f
  behind-refuses f err = ap (λ (x : World). step x e) here ∙ step-behind old w e past ∙ ap (all_behind old) err

  pub one-happened : (now : ℕ) (next : World) (reply : Reply) → step w e ≡ Ok (next, reply) → all watched_bus now (e ∷ []) c ≡ Ok (followed c e (step c.world e))
  one-happened now next reply ok = by (step c.world e) (behind-accepts next reply ok)
    where
      by : (o : Result (World × Reply) Fault) → o ≡ Ok (behind old next, reply) → and_then now (watched_on c e o) (all watched_bus now []) ≡ Ok (followed c e o)
      by (Ok x) is = refl
      by (Err f) is = absurd cc

  pub one-world : (next : World) (reply : Reply) → step w e ≡ Ok (next, reply) → (followed c e (step c.world e)).world ≡ behind old next
  one-world next reply ok = ap (λ (o : Result (World × Reply) Fault). (followed c e o).world) (behind-accepts next reply ok)

  pub one-refused : (now : ℕ) (f : Fault) → step w e ≡ Err f → all watched_bus now (e ∷ []) c ≡ Err (now, (c, f))
  one-refused now f err = by (step c.world e) (behind-refuses f err)
    where
      by : (o : Result (World × Reply) Fault) → o ≡ Err f → and_then now (watched_on c e o) (all watched_bus now []) ≡ Err (now, (c, f))
      by (Ok x) is = absurd cc
      by (Err g) is = let same : g ≡ f = cc in ap (λ (x : Fault). Err (now, (c, x))) same

-- ---- steps

-- one deed more has happened, of things that do some
module _ {X : Type 0} (f : X → Deed) (when : When) (i : ℕ) (xs : List X) (x : X) (less : i < length xs) (is : x ≡ get_or xs i x) where
  said-one : said_of when (map f (x ∷ [])) ≡ option_to_list (said_in when (f x))
  said-one = by (said_in when (f x))
    where
      by : (o : Option Event) → cons_option o [] ≡ option_to_list o
      by None = refl
      by (Some e) = refl

  said-join : (ys zs : List X) → said_of when (map f (ys ++ zs)) ≡ said_of when (map f ys) ++ said_of when (map f zs)
  said-join ys zs = ap (said_of when) (map-append f ys zs) ∙ filter_map-append (said_in when) (map f ys) (map f zs)

  pub said-more : said_of when (map f (take (i + 1) xs)) ≡ said_of when (map f (take i xs)) ++ option_to_list (said_in when (f x))
  said-more =
      ap (λ ys. said_of when (map f ys)) (take_more xs i x less) ∙ ap (λ y. said_of when (map f (take i xs ++ y ∷ []))) (sym is)
      ∙ said-join (take i xs) (x ∷ []) ∙ ap (λ es. said_of when (map f (take i xs)) ++ es) said-one

  pub said-cut : said_of when (map f xs) ≡ said_of when (map f (take i xs)) ++ (option_to_list (said_in when (f x)) ++ said_of when (map f (drop (i + 1) xs)))
  said-cut =
      ap (λ ys. said_of when (map f ys)) (sym (take-append-drop i xs) ∙ ap (λ ys. take i xs ++ ys) (drop_more xs i x less ∙ ap (λ y. y ∷ drop (i + 1) xs) (sym is)))
      ∙ said-join (take i xs) (x ∷ drop (i + 1) xs)
      ∙ ap (λ es. said_of when (map f (take i xs)) ++ es) (said-join (x ∷ []) (drop (i + 1) xs) ∙ ap (λ es. es ++ said_of when (map f (drop (i + 1) xs))) said-one)

  pub deed-played : (now : ℕ) (old : List Entry) (c : Course) (v new : StageView) → HappenedAt now old c (said_of when (map f (take i xs))) v
      → Plays {A = Unit {0}} v (option_to_list (said_in when (f x))) (Ok (tt {0})) new → HappenedAt now old c (said_of when (map f (take (i + 1) xs))) new
  deed-played now old c v new before one =
      subst (λ es. HappenedAt now old c es new) (sym said-more)
      (happened-then now old c (said_of when (map f (take i xs))) (option_to_list (said_in when (f x))) v new before (λ d from. one now old d from))

  pub deed-refused : (now : ℕ) (old : List Entry) (c : Course) (v new : StageView) (fault : WorldFault) → HappenedAt now old c (said_of when (map f (take i xs))) v
      → Plays {A = Unit {0}} v (option_to_list (said_in when (f x))) (Err fault) new → IfSome (model_fault fault) (λ g. StoppedAt now old c (said_of when (map f xs)) g new)
  deed-refused now old c v new fault before stops =
      let past = said_of when (map f (take i xs)) in
      let here = option_to_list (said_in when (f x)) in
      let rest = said_of when (map f (drop (i + 1) xs)) in
      stops-so fault (λ g. StoppedAt now old before.0 here g new) (λ g. StoppedAt now old c (said_of when (map f xs)) g new)
      (λ g s. subst (λ es. StoppedAt now old c es g new) (sym said-cut)
      (s.0, s.1, all-append watched_bus now past (here ++ rest) c before.0 before.2 ∙ all-stops watched_bus now here rest before.0 (now, (s.0, g)) s.2))
      (stops now old before.0 before.1)

-- ---- turns

-- a tap's turn, if it takes one, and those of this many taps behind it
abbrev from_tap : Plan Event → ℕ → ℕ → ℕ → Course → Bool → Result Course (ℕ × (Course × Fault))
from_tap p clock k tap c b =
    if b then and_then clock (watched_on c (Turn tap) (step c.world (Turn tap))) (one_by_one watched_bus p clock k (tap + 1)) else one_by_one watched_bus p clock k (tap + 1) c

turn-then : (p : Plan Event) (clock k tap : ℕ) (c d : Course) (b : Bool) → all watched_bus clock (turn_if b tap) c ≡ Ok d → from_tap p clock k tap c b ≡ one_by_one watched_bus p clock k (tap + 1) d
turn-then p clock k tap c d false ok = let is : c ≡ d = cc in ap (one_by_one watched_bus p clock k (tap + 1)) is
turn-then p clock k tap c d true ok = by (watched_on c (Turn tap) (step c.world (Turn tap))) ok
  where
    by : (o : Result (Course × Reply) (Course × Fault)) → and_then clock o (all watched_bus clock []) ≡ Ok d → and_then clock o (one_by_one watched_bus p clock k (tap + 1)) ≡ one_by_one watched_bus p clock k (tap + 1) d
    by (Ok v) ok = let is : v.0 ≡ d = cc in ap (one_by_one watched_bus p clock k (tap + 1)) is
    by (Err f) ok = absurd cc

turn-refused : (p : Plan Event) (clock k tap : ℕ) (c : Course) (b : Bool) (stop : ℕ × (Course × Fault)) → all watched_bus clock (turn_if b tap) c ≡ Err stop → from_tap p clock k tap c b ≡ Err stop
turn-refused p clock k tap c false stop err = absurd cc
turn-refused p clock k tap c true stop err = by (watched_on c (Turn tap) (step c.world (Turn tap))) err
  where
    by : (o : Result (Course × Reply) (Course × Fault)) → and_then clock o (all watched_bus clock []) ≡ Err stop → and_then clock o (one_by_one watched_bus p clock k (tap + 1)) ≡ Err stop
    by (Ok v) err = absurd cc
    by (Err f) err = err

-- the turns that are left at a tap are those that are left of all
abbrev pub AreLeft : Plan Event → (clock n tap : ℕ) → List Entry → Course → StageView → Type 0
AreLeft p clock n tap old first v = (c : Course) × GoesFrom v old c × (one_by_one watched_bus p clock (n - tap) tap c ≡ one_by_one watched_bus p clock n 0 first)

pub all-left : (p : Plan Event) (clock n : ℕ) (old : List Entry) (c : Course) (v : StageView) → GoesFrom v old c → AreLeft p clock n 0 old c v
all-left p clock n old c v from = let all : n - 0 ≡ n = omega arith in (c, from, ap (λ k. one_by_one watched_bus p clock k 0 c) all)

-- at a tap that is left
at-tap : (p : Plan Event) (clock n tap : ℕ) (old : List Entry) (c : Course) (v : StageView) → tap < n → IsAt v old c
    → from_tap p clock (n - (tap + 1)) tap c (wants p clock tap (due_at (world_of v.bus) tap)) ≡ one_by_one watched_bus p clock (n - tap) tap c
at-tap p clock n tap old c v less at =
    let k = n - (tap + 1) in
    let same : suc k ≡ n - tap = omega (arith, less) in
    ap (λ o. from_tap p clock k tap c (wants p clock tap o))
    (sym (ap (λ (w : World). runs.due_at (slice_get (dues w) tap)) at.here ∙ due-found (world_with old v.bus) tap))
    ∙ ap (λ m. one_by_one watched_bus p clock m tap c) same

pub turn-more : (p : Plan Event) (clock n tap : ℕ) (old : List Entry) (first : Course) (v new : StageView) → tap < n → AreLeft p clock n tap old first v
    → Plays {A = Unit {0}} v (turn_if (wants p clock tap (due_at (world_of v.bus) tap)) tap) (Ok (tt {0})) new → AreLeft p clock n (tap + 1) old first new
turn-more p clock n tap old first v new less (c, from, left) plays =
    let (d, to, ok) = plays clock old c from in
    (d, to, sym (turn-then p clock (n - (tap + 1)) tap c d (wants p clock tap (due_at (world_of v.bus) tap)) ok) ∙ at-tap p clock n tap old c v less from.at ∙ left)

counted : (old : List Entry) (c : Course) (v : StageView) (n : ℕ) → IsAt v old c → n ≡ length (world_of v.bus).taps → n ≡ length (dues c.world)
counted old c v n at count = count ∙ sym (ap (λ (w : World). length w.taps) at.here) ∙ sym (length-map c.world.taps (due_in c.world))

pub turns-played : (p : Plan Event) (clock n tap : ℕ) (old : List Entry) (first : Course) (v new : StageView) → IsAt v old first → n ≡ length (world_of v.bus).taps → n ≤ tap
    → AreLeft p clock n tap old first new → HappenedAt clock old first (turns watched_bus p clock first) new
turns-played p clock n tap old first v new at count past (c, from, left) =
    let none : zero ≡ n - tap = omega (arith, past) in
    (c, from, watched-one-by-one p clock n first (counted old first v n at count) ∙ sym left ∙ sym (ap (λ m. one_by_one watched_bus p clock m tap c) none))

pub turns-refused : (p : Plan Event) (clock n tap : ℕ) (old : List Entry) (first : Course) (v mid new : StageView) (fault : WorldFault) → IsAt v old first → n ≡ length (world_of v.bus).taps → tap < n
    → AreLeft p clock n tap old first mid → Plays {A = Unit {0}} mid (turn_if (wants p clock tap (due_at (world_of mid.bus) tap)) tap) (Err fault) new
    → IfSome (model_fault fault) (λ f. StoppedAt clock old first (turns watched_bus p clock first) f new)
turns-refused p clock n tap old first v mid new fault at count less left stops =
    let c = left.0 in
    let b = wants p clock tap (due_at (world_of mid.bus) tap) in
    stops-so fault (λ f. StoppedAt clock old c (turn_if b tap) f new) (λ f. StoppedAt clock old first (turns watched_bus p clock first) f new)
    (λ f s. (
      s.0,
      s.1,
      watched-one-by-one p clock n first (counted old first v n at count) ∙ sym left.2 ∙ sym (at-tap p clock n tap old c mid less left.1.at)
          ∙ turn-refused p clock (n - (tap + 1)) tap c b (clock, (s.0, f)) s.2,
    ))
    (stops clock old c left.1)

-- ---- the first moment at which some tap may take a turn next

-- a tap's turn leaves when those in front of it are due
pub turn-agrees : (clock tap : ℕ) (old : List Entry) (c : Course) (v new : StageView) (b : Bool) → IsAt v old c → HappenedAt clock old c (turn_if b tap) new
    → Agrees tap (world_of new.bus) (world_of v.bus)
turn-agrees clock tap old c v new b at (d, to, ok) j front =
    ap (λ (w : World). slice_get (dues w) j) (sym to.at.here) ∙ leaves b ok ∙ ap (λ (w : World). slice_get (dues w) j) at.here
  where
    leaves : (b : Bool) → all watched_bus clock (turn_if b tap) c ≡ Ok d → slice_get (dues d.world) j ≡ slice_get (dues c.world) j
    leaves false ok = let is : c ≡ d = cc in ap (λ (x : Course). slice_get (dues x.world) j) (sym is)
    leaves true ok = by (watched_on c (Turn tap) (step c.world (Turn tap))) refl ok
      where
        by : (o : Result (Course × Reply) (Course × Fault)) → watched_on c (Turn tap) (step c.world (Turn tap)) ≡ o → and_then clock o (all watched_bus clock []) ≡ Ok d
            → slice_get (dues d.world) j ≡ slice_get (dues c.world) j
        by (Ok x) is ok =
            let same : x.0 ≡ d = cc in
            ap (λ (y : Course). slice_get (dues y.world) j) (sym same) ∙ watched-leave-others c x.0 tap j x.1 (λ e. omega (arith, e, front)) is
        by (Err f) is ok = absurd cc
