-- An instant of any machine: what a run has of it.
use Rattle.std.proofs.Common.{◌≡◌, ◌∙◌, ap, sym, subst, refl, arith, ℕ, zero, suc, ◌+◌, ◌<◌, ◌≤◌, ◌&&◌, nat_lt, nat_le, Bool, true, false, if◌then◌else◌, length, map, List, [], ◌∷◌, ◌++◌, Option, Some, None, Ok, Err, Result}
use Rattle.std.specs.Prelude.{slice_get}
use Rattle.std.proofs.lemmas.Bool.{leb-true, ltb-true}
use Rattle.law_turn.specs.Stations.{earlier}
use Rattle.law_model.specs.World.{Event, Turn}
use Rattle.law_model.specs.Step.{step}
use Rattle.law_runs.specs.Runs.{Machine, Plan, all, and_then, due_at, ending, instant, next, next_turn, on_ok, one_by_one, onward, passing, places, run, turns, wanted, wants, with_front}
use Rattle.law_runs.specs.Bus.{dues}
use Rattle.law_runs.specs.Histories.{LeavesOthers}
use Rattle.law_runs.specs.Premises.{Course}
use Rattle.law_runs.proofs.OnTheBus.{turns-leave-others}
use Rattle.law_streams.specs.Audits.{watched_bus}
use Rattle.law_streams.proofs.Following.{from-early, from_late, from_passing, from_turns}
use Rattle.pb_stream.proofs.Courses.{watched-ok}

-- ---- events of a moment

pub all-one : {W E R F : Type 0} (m : Machine W E R F) (now : ℕ) (w u : W) (r : R) (e : E) (es : List E) → m.step w e ≡ Ok (u, r) → all m now (e ∷ es) w ≡ all m now es u
all-one m now w u r e es is = ap (λ o. and_then now o (all m now es)) is

pub all-refused : {W E R F : Type 0} (m : Machine W E R F) (now : ℕ) (w : W) (f : F) (e : E) (es : List E) → m.step w e ≡ Err f → all m now (e ∷ es) w ≡ Err (now, f)
all-refused m now w f e es is = ap (λ o. and_then now o (all m now es)) is

pub all-append : {W E R F : Type 0} (m : Machine W E R F) (now : ℕ) (xs ys : List E) (w u : W) → all m now xs w ≡ Ok u → all m now (xs ++ ys) w ≡ all m now ys u
all-append {W} {E} {R} {F} m now [] ys w u same = let is : w ≡ u = cc in ap (all m now ys) is
all-append {W} {E} {R} {F} m now (x ∷ xs) ys w u same = by (λ v. all-append m now xs ys v u) (m.step w x) refl same
  where
    by : ((v : W) → all m now xs v ≡ Ok u → all m now (xs ++ ys) v ≡ all m now ys u) → (o : Result (W × R) F) → m.step w x ≡ o
        → and_then now o (all m now xs) ≡ Ok u → all m now (x ∷ (xs ++ ys)) w ≡ all m now ys u
    by rest (Ok v) is same = all-one m now w v.0 v.1 x (xs ++ ys) is ∙ rest v.0 same
    by rest (Err f) is same = absurd cc

pub all-stops : {W E R F : Type 0} (m : Machine W E R F) (now : ℕ) (xs ys : List E) (w : W) (stop : ℕ × F) → all m now xs w ≡ Err stop → all m now (xs ++ ys) w ≡ Err stop
all-stops {W} {E} {R} {F} m now [] ys w stop same = absurd cc
all-stops {W} {E} {R} {F} m now (x ∷ xs) ys w stop same = by (λ v. all-stops m now xs ys v stop) (m.step w x) refl same
  where
    by : ((v : W) → all m now xs v ≡ Err stop → all m now (xs ++ ys) v ≡ Err stop) → (o : Result (W × R) F) → m.step w x ≡ o
        → and_then now o (all m now xs) ≡ Err stop → all m now (x ∷ (xs ++ ys)) w ≡ Err stop
    by rest (Ok v) is same = all-one m now w v.0 v.1 x (xs ++ ys) is ∙ rest v.0 same
    by rest (Err f) is same = ap (λ o. and_then now o (all m now (xs ++ ys))) is ∙ same

-- ---- turns, each tap tested just before its own, on any machine whose turns leave when the others are due

found : {W E R F : Type 0} (m : Machine W E R F) → LeavesOthers m → (p : Plan E) (now : ℕ) (ds : List (Option ℕ)) (tap : ℕ) (w : W) → ((j : ℕ) → slice_get (m.due w) (tap + j) ≡ slice_get ds j)
    → all m now (map m.turn (places tap (wanted p now tap ds))) w ≡ one_by_one m p now (length ds) tap w
found m law p now [] tap w same = refl
found {W} {E} {R} {F} m law p now (d ∷ ds) tap w same =
    by (λ u. found m law p now ds (tap + 1) u) (wants p now tap d) refl
  where
    here : due_at (slice_get (m.due w) tap) ≡ d
    here = let at : tap ≡ tap + 0 = omega arith in ap (λ i. due_at (slice_get (m.due w) i)) at ∙ ap due_at (same 0)

    later : (j : ℕ) → slice_get (m.due w) ((tap + 1) + j) ≡ slice_get ds j
    later j = let at : (tap + 1) + j ≡ tap + suc j = omega arith in ap (slice_get (m.due w)) at ∙ same (suc j)

    Rest : Type 0
    Rest = (u : W) → ((j : ℕ) → slice_get (m.due u) ((tap + 1) + j) ≡ slice_get ds j) → all m now (map m.turn (places (tap + 1) (wanted p now (tap + 1) ds))) u ≡ one_by_one m p now (length ds) (tap + 1) u

    after : Rest → (o : Result (W × R) F) → m.step w (m.turn tap) ≡ o
        → and_then now o (all m now (map m.turn (places (tap + 1) (wanted p now (tap + 1) ds)))) ≡ and_then now o (one_by_one m p now (length ds) (tap + 1))
    after rest (Err f) step = refl
    after rest (Ok next) step = rest next.0 (λ j. law w next.0 tap ((tap + 1) + j) next.1 (λ e. omega (arith, e)) step ∙ later j)

    tests : wants p now tap (due_at (slice_get (m.due w) tap)) ≡ wants p now tap d
    tests = ap (wants p now tap) here

    by : Rest → (b : Bool) → wants p now tap d ≡ b → all m now (map m.turn (places tap (wanted p now tap (d ∷ ds)))) w ≡ one_by_one m p now (length (d ∷ ds)) tap w
    by rest true is =
        ap (λ b. all m now (map m.turn (if b then tap ∷ places (tap + 1) (wanted p now (tap + 1) ds) else places (tap + 1) (wanted p now (tap + 1) ds))) w) is
        ∙ after rest (m.step w (m.turn tap)) refl
        ∙ sym (ap (λ b. if b then and_then now (m.step w (m.turn tap)) (one_by_one m p now (length ds) (tap + 1)) else one_by_one m p now (length ds) (tap + 1) w) (tests ∙ is))
    by rest false is =
        ap (λ b. all m now (map m.turn (if b then tap ∷ places (tap + 1) (wanted p now (tap + 1) ds) else places (tap + 1) (wanted p now (tap + 1) ds))) w) is
        ∙ rest w later
        ∙ sym (ap (λ b. if b then and_then now (m.step w (m.turn tap)) (one_by_one m p now (length ds) (tap + 1)) else one_by_one m p now (length ds) (tap + 1) w) (tests ∙ is))

turns-one-by-one : {W E R F : Type 0} (m : Machine W E R F) → LeavesOthers m → (p : Plan E) (now : ℕ) (w : W) → all m now (turns m p now w) w ≡ one_by_one m p now (length (m.due w)) 0 w
turns-one-by-one m law p now w = found m law p now (m.due w) 0 w (λ j. let at : 0 + j ≡ j = omega arith in ap (slice_get (m.due w)) at)

-- ---- an instant of a run

to_turns : {W E R F : Type 0} (m : Machine W E R F) (k : ℕ) (p : Plan E) (now : ℕ) (w a : W) → all m now (p.early now) w ≡ Ok a → run (suc k) m p now w ≡ from_turns m k p now a
to_turns m k p now w a one = from-early m k p now w ∙ ap (λ o. on_ok o (from_turns m k p now)) one

to_late : {W E R F : Type 0} (m : Machine W E R F) (k : ℕ) (p : Plan E) (now : ℕ) (w a b : W) → all m now (p.early now) w ≡ Ok a → all m now (turns m p now a) a ≡ Ok b
    → run (suc k) m p now w ≡ from_late m k p now a b
to_late m k p now w a b one two = to_turns m k p now w a one ∙ ap (λ o. on_ok o (from_late m k p now a)) two

to_passing : {W E R F : Type 0} (m : Machine W E R F) (k : ℕ) (p : Plan E) (now : ℕ) (w a b c : W) → all m now (p.early now) w ≡ Ok a → all m now (turns m p now a) a ≡ Ok b → all m now (p.late now) b ≡ Ok c
    → run (suc k) m p now w ≡ from_passing m k p now a c
to_passing m k p now w a b c one two three = to_late m k p now w a b one two ∙ ap (λ o. on_ok o (from_passing m k p now a)) three

pub run-stops-early : {W E R F : Type 0} (m : Machine W E R F) (k : ℕ) (p : Plan E) (now : ℕ) (w : W) (stop : ℕ × F) → all m now (p.early now) w ≡ Err stop → run (suc k) m p now w ≡ Some (Err stop)
run-stops-early m k p now w stop err = from-early m k p now w ∙ ap (λ o. on_ok o (from_turns m k p now)) err

pub run-stops-turns : {W E R F : Type 0} (m : Machine W E R F) (k : ℕ) (p : Plan E) (now : ℕ) (w a : W) (stop : ℕ × F) → all m now (p.early now) w ≡ Ok a → all m now (turns m p now a) a ≡ Err stop
    → run (suc k) m p now w ≡ Some (Err stop)
run-stops-turns m k p now w a stop one err = to_turns m k p now w a one ∙ ap (λ o. on_ok o (from_late m k p now a)) err

pub run-stops-late : {W E R F : Type 0} (m : Machine W E R F) (k : ℕ) (p : Plan E) (now : ℕ) (w a b : W) (stop : ℕ × F) → all m now (p.early now) w ≡ Ok a → all m now (turns m p now a) a ≡ Ok b
    → all m now (p.late now) b ≡ Err stop → run (suc k) m p now w ≡ Some (Err stop)
run-stops-late m k p now w a b stop one two err = to_late m k p now w a b one two ∙ ap (λ o. on_ok o (from_passing m k p now a)) err

pub run-stops-passing : {W E R F : Type 0} (m : Machine W E R F) (k : ℕ) (p : Plan E) (now : ℕ) (w a b c : W) (t : Option ℕ) (stop : ℕ × F) → all m now (p.early now) w ≡ Ok a → all m now (turns m p now a) a ≡ Ok b
    → all m now (p.late now) b ≡ Ok c → t ≡ next p now (m.due c) (m.change c) → all m now (passing m p now t) c ≡ Err stop → run (suc k) m p now w ≡ Some (Err stop)
run-stops-passing m k p now w a b c t stop one two three is err =
    let u = next p now (m.due c) (m.change c) in
    to_passing m k p now w a b c one two three
    ∙ ap (λ o. on_ok o (λ d. ending u (instant m p now a c) d (run k m p))) (subst (λ o. all m now (passing m p now o) c ≡ Err stop) is err)

pub run-goes-on : {W E R F : Type 0} (m : Machine W E R F) (k : ℕ) (p : Plan E) (now : ℕ) (w a b c d : W) (t : Option ℕ) → all m now (p.early now) w ≡ Ok a → all m now (turns m p now a) a ≡ Ok b
    → all m now (p.late now) b ≡ Ok c → t ≡ next p now (m.due c) (m.change c) → all m now (passing m p now t) c ≡ Ok d
    → run (suc k) m p now w ≡ ending t (instant m p now a c) d (run k m p)
run-goes-on m k p now w a b c d t one two three is four =
    let u = next p now (m.due c) (m.change c) in
    to_passing m k p now w a b c one two three
    ∙ ap (λ o. on_ok o (λ x. ending u (instant m p now a c) x (run k m p))) (subst (λ o. all m now (passing m p now o) c ≡ Ok d) is four)
    ∙ ap (λ o. ending o (instant m p now a c) d (run k m p)) (sym is)

-- ---- a watched bus

pub watched-leave-others : LeavesOthers watched_bus
watched-leave-others c u i j r other ok = turns-leave-others c.world u.world i j r other (watched-ok c u (Turn i) r (step c.world (Turn i)) ok)

pub watched-one-by-one : (p : Plan Event) (now n : ℕ) (c : Course) → n ≡ length (dues c.world) → all watched_bus now (turns watched_bus p now c) c ≡ one_by_one watched_bus p now n 0 c
watched-one-by-one p now n c same = turns-one-by-one watched_bus watched-leave-others p now c ∙ ap (λ k. one_by_one watched_bus p now k 0 c) (sym same)

-- ---- more instants than are left

next-later : {E : Type 0} (p : Plan E) (now t : ℕ) (o : Option ℕ) → onward p now o ≡ Some t → (now < t) × (t ≤ p.until)
next-later p now t None is = absurd cc
next-later p now t (Some m) is = by (nat_lt now m) (nat_le m p.until) refl refl is
  where
    by : (a b : Bool) → nat_lt now m ≡ a → nat_le m p.until ≡ b → (if a && b then Some m else None) ≡ Some t → (now < t) × (t ≤ p.until)
    by true true later within is = let same : m ≡ t = cc in subst (λ n. (now < n) × (n ≤ p.until)) same (ltb-true now m later, leb-true m p.until within)
    by true false later within is = absurd cc
    by false b later within is = absurd cc

-- one instant more than the moments that are left makes no difference
pub more-instants : {W E R F : Type 0} (m : Machine W E R F) (k : ℕ) (p : Plan E) (now : ℕ) (w : W) → now ≤ p.until → p.until < now + k → run (suc k) m p now w ≡ run k m p now w
more-instants m zero p now w begun enough = absurd (omega (arith, begun, enough))
more-instants {W} {E} {R} {F} m (suc k) p now w begun enough =
    from-early m (suc k) p now w
    ∙ same (all m now (p.early now) w) (from_turns m (suc k) p now) (from_turns m k p now)
    (λ a. same (all m now (turns m p now a) a) (from_late m (suc k) p now a) (from_late m k p now a)
    (λ b. same (all m now (p.late now) b) (from_passing m (suc k) p now a) (from_passing m k p now a)
    (λ c. let t = next p now (m.due c) (m.change c) in
    same (all m now (passing m p now t) c) (λ d. ending t (instant m p now a c) d (run (suc k) m p)) (λ d. ending t (instant m p now a c) d (run k m p))
    (λ d. goes-on t (instant m p now a c) d
    (λ at is. let later = next-later p now at (earlier (p.later now) (earlier (m.change c) (next_turn p now 0 (m.due c)))) is in more-instants m k p at d later.1 (omega (arith, later.0, enough)))))))
    ∙ sym (from-early m k p now w)
  where
    same : (o : Result W (ℕ × F)) (f g : W → Option (Result (W × List E) (ℕ × F))) → ((a : W) → f a ≡ g a) → on_ok o f ≡ on_ok o g
    same (Ok a) f g is = is a
    same (Err stop) f g is = refl

    goes-on : (t : Option ℕ) (here : List E) (d : W) → ((at : ℕ) → t ≡ Some at → run (suc k) m p at d ≡ run k m p at d) → ending t here d (run (suc k) m p) ≡ ending t here d (run k m p)
    goes-on None here d rest = refl
    goes-on (Some at) here d rest = ap (with_front here) (rest at refl)
