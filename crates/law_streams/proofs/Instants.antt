-- What a stream has of an instant.
use Rattle.std.proofs.Common.{◌≡◌, ◌∙◌, ap, sym, subst, refl, arith, ℕ, zero, suc, ◌+◌, ◌<◌, ◌≤◌, ◌&&◌, nat_lt, nat_le, length, map, Bool, true, false, if◌then◌else◌, List, [], ◌∷◌, ◌++◌, Option, Some, None, Ok, Err, Result}
use Rattle.std.specs.Prelude.{slice_get}
use Rattle.std.proofs.lemmas.Bool.{leb-true, ltb-true}
use Rattle.law_turn.specs.Stations.{earlier}
use Rattle.law_model.specs.World.{World, Event, Reply, Fault, Turn}
use Rattle.law_model.specs.Step.{step}
use Rattle.law_runs.specs.Runs.{Machine, Plan, all, and_then, due_at, ending, instant, next, next_turn, on_ok, one_by_one, onward, passing, places, run, turns, wanted, wants, with_front}
use Rattle.law_runs.specs.Bus.{bus, dues, next_change}
use Rattle.law_runs.specs.Histories.{LeavesOthers}
use Rattle.law_runs.specs.Scenarios.{At}
use Rattle.law_runs.proofs.OnTheBus.{turns-leave-others}
use Rattle.law_streams.specs.Streams.{Streamed, in_world, telling_bus, streamed_of, stream_on}
use Rattle.law_streams.proofs.Followed.{told-ok}
use Rattle.law_streams.proofs.Following.{from-early, from_late, from_passing, from_turns}

-- ---- events of a moment on a telling bus

pub told-one : (now : ℕ) (w u : World) (r : Reply) (e : Event) (es : List Event) → step w e ≡ Ok (u, r) → all telling_bus now (e ∷ es) w ≡ all telling_bus now es u
told-one now w u r e es is = ap (λ o. and_then now (in_world w o) (all telling_bus now es)) is

pub told-refused : (now : ℕ) (w : World) (f : Fault) (e : Event) (es : List Event) → step w e ≡ Err f → all telling_bus now (e ∷ es) w ≡ Err (now, (w, f))
told-refused now w f e es is = ap (λ o. and_then now (in_world w o) (all telling_bus now es)) is

pub told-append : (now : ℕ) (xs ys : List Event) (w u : World) → all telling_bus now xs w ≡ Ok u → all telling_bus now (xs ++ ys) w ≡ all telling_bus now ys u
told-append now [] ys w u same = let is : w ≡ u = cc in ap (all telling_bus now ys) is
told-append now (x ∷ xs) ys w u same = by (λ v. told-append now xs ys v u) (step w x) refl same
  where
    by : ((v : World) → all telling_bus now xs v ≡ Ok u → all telling_bus now (xs ++ ys) v ≡ all telling_bus now ys u) → (o : Result (World × Reply) Fault) → step w x ≡ o
        → and_then now (in_world w o) (all telling_bus now xs) ≡ Ok u → all telling_bus now (x ∷ (xs ++ ys)) w ≡ all telling_bus now ys u
    by rest (Ok v) is same = told-one now w v.0 v.1 x (xs ++ ys) is ∙ rest v.0 same
    by rest (Err f) is same = absurd cc

pub told-stops : (now : ℕ) (xs ys : List Event) (w : World) (stop : ℕ × (World × Fault)) → all telling_bus now xs w ≡ Err stop → all telling_bus now (xs ++ ys) w ≡ Err stop
told-stops now [] ys w stop same = absurd cc
told-stops now (x ∷ xs) ys w stop same = by (λ v. told-stops now xs ys v stop) (step w x) refl same
  where
    by : ((v : World) → all telling_bus now xs v ≡ Err stop → all telling_bus now (xs ++ ys) v ≡ Err stop) → (o : Result (World × Reply) Fault) → step w x ≡ o
        → and_then now (in_world w o) (all telling_bus now xs) ≡ Err stop → all telling_bus now (x ∷ (xs ++ ys)) w ≡ Err stop
    by rest (Ok v) is same = told-one now w v.0 v.1 x (xs ++ ys) is ∙ rest v.0 same
    by rest (Err f) is same = ap (λ o. and_then now (in_world w o) (all telling_bus now (xs ++ ys))) is ∙ same

-- what it accepts, a bus accepts
pub untold-ok : (now : ℕ) (es : List Event) (w u : World) → all telling_bus now es w ≡ Ok u → all bus now es w ≡ Ok u
untold-ok now [] w u same = let is : w ≡ u = cc in ap (λ v. Ok v) is
untold-ok now (x ∷ xs) w u same = by (λ v. untold-ok now xs v u) (step w x) refl same
  where
    by : ((v : World) → all telling_bus now xs v ≡ Ok u → all bus now xs v ≡ Ok u) → (o : Result (World × Reply) Fault) → step w x ≡ o
        → and_then now (in_world w o) (all telling_bus now xs) ≡ Ok u → all bus now (x ∷ xs) w ≡ Ok u
    by rest (Ok v) is same = ap (λ o. and_then now o (all bus now xs)) is ∙ rest v.0 same
    by rest (Err f) is same = absurd cc

-- ---- turns, each tap tested just before its own, on any machine whose turns leave when the others are due

found : {W E R F : Type 0} (m : Machine W E R F) → LeavesOthers m → (p : Plan E) (now : ℕ) (ds : List (Option ℕ)) (tap : ℕ) (w : W) → ((j : ℕ) → slice_get (m.due w) (tap + j) ≡ slice_get ds j)
    → all m now (map m.turn (places tap (wanted p now tap ds))) w ≡ one_by_one m p now (length ds) tap w
found m law p now [] tap w same = refl
found {W} {E} {R} {F} m law p now (d ∷ ds) tap w same =
    by (λ u. found m law p now ds (tap + 1) u) (wants p now tap d) refl
  where
    here : due_at (slice_get (m.due w) tap) ≡ d
    here = let at : tap ≡ tap + 0 = omega arith in ap (λ i. due_at (slice_get (m.due w) i)) at ∙ ap due_at (same 0)

    later : (j : ℕ) → slice_get (m.due w) ((tap + 1) + j) ≡ slice_get ds j
    later j = let at : (tap + 1) + j ≡ tap + suc j = omega arith in ap (slice_get (m.due w)) at ∙ same (suc j)

    Rest : Type 0
    Rest = (u : W) → ((j : ℕ) → slice_get (m.due u) ((tap + 1) + j) ≡ slice_get ds j) → all m now (map m.turn (places (tap + 1) (wanted p now (tap + 1) ds))) u ≡ one_by_one m p now (length ds) (tap + 1) u

    after : Rest → (o : Result (W × R) F) → m.step w (m.turn tap) ≡ o
        → and_then now o (all m now (map m.turn (places (tap + 1) (wanted p now (tap + 1) ds)))) ≡ and_then now o (one_by_one m p now (length ds) (tap + 1))
    after rest (Err f) step = refl
    after rest (Ok next) step = rest next.0 (λ j. law w next.0 tap ((tap + 1) + j) next.1 (λ e. omega (arith, e)) step ∙ later j)

    tests : wants p now tap (due_at (slice_get (m.due w) tap)) ≡ wants p now tap d
    tests = ap (wants p now tap) here

    by : Rest → (b : Bool) → wants p now tap d ≡ b → all m now (map m.turn (places tap (wanted p now tap (d ∷ ds)))) w ≡ one_by_one m p now (length (d ∷ ds)) tap w
    by rest true is =
        ap (λ b. all m now (map m.turn (if b then tap ∷ places (tap + 1) (wanted p now (tap + 1) ds) else places (tap + 1) (wanted p now (tap + 1) ds))) w) is
        ∙ after rest (m.step w (m.turn tap)) refl
        ∙ sym (ap (λ b. if b then and_then now (m.step w (m.turn tap)) (one_by_one m p now (length ds) (tap + 1)) else one_by_one m p now (length ds) (tap + 1) w) (tests ∙ is))
    by rest false is =
        ap (λ b. all m now (map m.turn (if b then tap ∷ places (tap + 1) (wanted p now (tap + 1) ds) else places (tap + 1) (wanted p now (tap + 1) ds))) w) is
        ∙ rest w later
        ∙ sym (ap (λ b. if b then and_then now (m.step w (m.turn tap)) (one_by_one m p now (length ds) (tap + 1)) else one_by_one m p now (length ds) (tap + 1) w) (tests ∙ is))

turns-one-by-one : {W E R F : Type 0} (m : Machine W E R F) → LeavesOthers m → (p : Plan E) (now : ℕ) (w : W) → all m now (turns m p now w) w ≡ one_by_one m p now (length (m.due w)) 0 w
turns-one-by-one m law p now w = found m law p now (m.due w) 0 w (λ j. let at : 0 + j ≡ j = omega arith in ap (slice_get (m.due w)) at)

leaves-others : LeavesOthers telling_bus
leaves-others w u i j r other ok = turns-leave-others w u i j r other (told-ok w u r (step w (Turn i)) ok)

pub told-one-by-one : (p : Plan Event) (now n : ℕ) (w : World) → n ≡ length (dues w) → all telling_bus now (turns telling_bus p now w) w ≡ one_by_one telling_bus p now n 0 w
told-one-by-one p now n w same = turns-one-by-one telling_bus leaves-others p now w ∙ ap (λ k. one_by_one telling_bus p now k 0 w) (sym same)

-- ---- an instant

abbrev stopped : ℕ × (World × Fault) → Option Streamed
stopped stop = Some (record { entries = stop.1.0.trace; fault = Some (At stop.0 stop.1.1) })

to_turns : (k : ℕ) (p : Plan Event) (now : ℕ) (w a : World) → all telling_bus now (p.early now) w ≡ Ok a → run (suc k) telling_bus p now w ≡ from_turns telling_bus k p now a
to_turns k p now w a one = from-early telling_bus k p now w ∙ ap (λ o. on_ok o (from_turns telling_bus k p now)) one

to_late : (k : ℕ) (p : Plan Event) (now : ℕ) (w a b : World) → all telling_bus now (p.early now) w ≡ Ok a → all telling_bus now (turns telling_bus p now a) a ≡ Ok b
    → run (suc k) telling_bus p now w ≡ from_late telling_bus k p now a b
to_late k p now w a b one two = to_turns k p now w a one ∙ ap (λ o. on_ok o (from_late telling_bus k p now a)) two

to_passing : (k : ℕ) (p : Plan Event) (now : ℕ) (w a b c : World) → all telling_bus now (p.early now) w ≡ Ok a → all telling_bus now (turns telling_bus p now a) a ≡ Ok b → all telling_bus now (p.late now) b ≡ Ok c
    → run (suc k) telling_bus p now w ≡ from_passing telling_bus k p now a c
to_passing k p now w a b c one two three = to_late k p now w a b one two ∙ ap (λ o. on_ok o (from_passing telling_bus k p now a)) three

stops-run : (o : Result World (ℕ × (World × Fault))) (f : World → Option (Result (World × List Event) (ℕ × (World × Fault)))) (whole : Option (Result (World × List Event) (ℕ × (World × Fault)))) (stop : ℕ × (World × Fault))
    → whole ≡ on_ok o f → o ≡ Err stop → streamed_of whole ≡ stopped stop
stops-run o f whole stop is err = ap streamed_of (is ∙ ap (λ x. on_ok x f) err)

pub stops-early : (k : ℕ) (p : Plan Event) (now : ℕ) (w : World) (stop : ℕ × (World × Fault)) → all telling_bus now (p.early now) w ≡ Err stop → streamed_of (run (suc k) telling_bus p now w) ≡ stopped stop
stops-early k p now w stop err = stops-run (all telling_bus now (p.early now) w) (from_turns telling_bus k p now) (run (suc k) telling_bus p now w) stop (from-early telling_bus k p now w) err

pub stops-turns : (k : ℕ) (p : Plan Event) (now : ℕ) (w a : World) (stop : ℕ × (World × Fault)) → all telling_bus now (p.early now) w ≡ Ok a → all telling_bus now (turns telling_bus p now a) a ≡ Err stop
    → streamed_of (run (suc k) telling_bus p now w) ≡ stopped stop
stops-turns k p now w a stop one err =
    stops-run (all telling_bus now (turns telling_bus p now a) a) (from_late telling_bus k p now a) (run (suc k) telling_bus p now w) stop (to_turns k p now w a one) err

pub stops-late : (k : ℕ) (p : Plan Event) (now : ℕ) (w a b : World) (stop : ℕ × (World × Fault)) → all telling_bus now (p.early now) w ≡ Ok a → all telling_bus now (turns telling_bus p now a) a ≡ Ok b
    → all telling_bus now (p.late now) b ≡ Err stop → streamed_of (run (suc k) telling_bus p now w) ≡ stopped stop
stops-late k p now w a b stop one two err =
    stops-run (all telling_bus now (p.late now) b) (from_passing telling_bus k p now a) (run (suc k) telling_bus p now w) stop (to_late k p now w a b one two) err

pub stops-passing : (k : ℕ) (p : Plan Event) (now : ℕ) (w a b c : World) (t : Option ℕ) (stop : ℕ × (World × Fault)) → all telling_bus now (p.early now) w ≡ Ok a → all telling_bus now (turns telling_bus p now a) a ≡ Ok b
    → all telling_bus now (p.late now) b ≡ Ok c → t ≡ next p now (dues c) (next_change c) → all telling_bus now (passing telling_bus p now t) c ≡ Err stop
    → streamed_of (run (suc k) telling_bus p now w) ≡ stopped stop
stops-passing k p now w a b c t stop one two three is err =
    let u = next p now (dues c) (next_change c) in
    stops-run (all telling_bus now (passing telling_bus p now u) c) (λ d. ending u (instant telling_bus p now a c) d (run k telling_bus p)) (run (suc k) telling_bus p now w) stop
    (to_passing k p now w a b c one two three) (subst (λ o. all telling_bus now (passing telling_bus p now o) c ≡ Err stop) is err)

ending-streams : (k : ℕ) (p : Plan Event) (t : Option ℕ) (here : List Event) (d : World) → streamed_of (ending t here d (run k telling_bus p)) ≡ stream_on p k t d
ending-streams k p None here d = refl
ending-streams k p (Some moment) here d = by (run k telling_bus p moment d)
  where
    by : (o : Option (Result (World × List Event) (ℕ × (World × Fault)))) → streamed_of (with_front here o) ≡ streamed_of o
    by None = refl
    by (Some (Ok end)) = refl
    by (Some (Err stop)) = refl

pub instant-streams : (k : ℕ) (p : Plan Event) (now : ℕ) (w a b c d : World) (t : Option ℕ) → all telling_bus now (p.early now) w ≡ Ok a → all telling_bus now (turns telling_bus p now a) a ≡ Ok b
    → all telling_bus now (p.late now) b ≡ Ok c → t ≡ next p now (dues c) (next_change c) → all telling_bus now (passing telling_bus p now t) c ≡ Ok d
    → streamed_of (run (suc k) telling_bus p now w) ≡ stream_on p k t d
instant-streams k p now w a b c d t one two three is four =
    let u = next p now (dues c) (next_change c) in
    ap streamed_of
    (to_passing k p now w a b c one two three
    ∙ ap (λ o. on_ok o (λ x. ending u (instant telling_bus p now a c) x (run k telling_bus p))) (subst (λ o. all telling_bus now (passing telling_bus p now o) c ≡ Ok d) is four))
    ∙ ending-streams k p u (instant telling_bus p now a c) d ∙ ap (λ o. stream_on p k o d) (sym is)

-- ---- instants enough

next-later : (p : Plan Event) (now t : ℕ) (o : Option ℕ) → onward p now o ≡ Some t → (now < t) × (t ≤ p.until)
next-later p now t None is = absurd cc
next-later p now t (Some m) is = by (nat_lt now m) (nat_le m p.until) refl refl is
  where
    by : (a b : Bool) → nat_lt now m ≡ a → nat_le m p.until ≡ b → (if a && b then Some m else None) ≡ Some t → (now < t) × (t ≤ p.until)
    by true true later within is = let same : m ≡ t = cc in subst (λ n. (now < n) × (n ≤ p.until)) same (ltb-true now m later, leb-true m p.until within)
    by true false later within is = absurd cc
    by false b later within is = absurd cc

-- one instant more than the moments that are left makes no difference
pub more-instants : (k : ℕ) (p : Plan Event) (now : ℕ) (w : World) → now ≤ p.until → p.until < now + k → run (suc k) telling_bus p now w ≡ run k telling_bus p now w
more-instants zero p now w begun enough = absurd (omega (arith, begun, enough))
more-instants (suc k) p now w begun enough =
    from-early telling_bus (suc k) p now w
    ∙ same (all telling_bus now (p.early now) w) (from_turns telling_bus (suc k) p now) (from_turns telling_bus k p now)
    (λ a. same (all telling_bus now (turns telling_bus p now a) a) (from_late telling_bus (suc k) p now a) (from_late telling_bus k p now a)
    (λ b. same (all telling_bus now (p.late now) b) (from_passing telling_bus (suc k) p now a) (from_passing telling_bus k p now a)
    (λ c. let t = next p now (dues c) (next_change c) in
    same (all telling_bus now (passing telling_bus p now t) c) (λ d. ending t (instant telling_bus p now a c) d (run (suc k) telling_bus p)) (λ d. ending t (instant telling_bus p now a c) d (run k telling_bus p))
    (λ d. goes-on t (instant telling_bus p now a c) d
    (λ at is. let later = next-later p now at (earlier (p.later now) (earlier (next_change c) (next_turn p now 0 (dues c)))) is in more-instants k p at d later.1 (omega (arith, later.0, enough)))))))
    ∙ sym (from-early telling_bus k p now w)
  where
    same : (o : Result World (ℕ × (World × Fault))) (f g : World → Option (Result (World × List Event) (ℕ × (World × Fault)))) → ((a : World) → f a ≡ g a) → on_ok o f ≡ on_ok o g
    same (Ok a) f g is = is a
    same (Err stop) f g is = refl

    goes-on : (t : Option ℕ) (here : List Event) (d : World) → ((at : ℕ) → t ≡ Some at → run (suc k) telling_bus p at d ≡ run k telling_bus p at d)
        → ending t here d (run (suc k) telling_bus p) ≡ ending t here d (run k telling_bus p)
    goes-on None here d rest = refl
    goes-on (Some at) here d rest = ap (with_front here) (rest at refl)
