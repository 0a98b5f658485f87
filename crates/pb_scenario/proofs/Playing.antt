-- What is played is the run.
use Rattle.std.proofs.Common.{◌≡◌, ◌∙◌, ℕ, suc, List, [], ◌∷◌, ◌++◌, append_assoc, Option, Some, None, Ok, Err, Result, refl, ap, sym, subst}
use Rattle.std.specs.Prelude.{IfSome}
use Rattle.law_model.specs.World as model
use Rattle.law_model.specs.World.{World, Event, Reply, Fault}
use Rattle.law_model.specs.Step.{step}
use Rattle.pb_taps.specs.declared.faults.WorldFault.{WorldFault}
use Rattle.pb_taps.specs.Faults.{Refuses, world_fault}
use Rattle.law_runs.specs.Runs.{Plan, all, and_then, next, passing, on_ok, with_front, ending, instant, turns, run}
use Rattle.law_runs.specs.Bus.{bus, dues, next_change}
use Rattle.pb_scenario.specs.declared.faults.RunFault.{RunFault}
use Rattle.pb_scenario.specs.declared.faults.RunFault.TheVariants.{New, At}
use Rattle.pb_scenario.specs.Faults.{model_fault}
use Rattle.pb_scenario.specs.Plays.{Stops, run_with}
use Rattle.pb_world.proofs.Instants.{front-front, one-ok}

-- ---- faults

model-world : (g : Fault) → model_fault (world_fault g) ≡ Some g
model-world model.NoSuchTap = refl
model-world model.Running = refl
model-world model.NotRunning = refl
model-world model.NothingInAir = refl
model-world model.ZeroTime = refl
model-world (model.TooFar furthest) = refl
model-world model.ClockFull = refl
model-world model.QueueFull = refl
model-world (model.InboxFull tap) = refl
model-world model.TraceFull = refl

-- a fault of one outcome is one of another that ends so too
pub stops-too : {X Y : Type 0} (fault : RunFault) (f : ℕ × Fault → X) (g : ℕ × Fault → Y) (x : X) (y : Y) → ((r : ℕ × Fault) → x ≡ f r → y ≡ g r) → Stops f fault x → Stops g fault y
stops-too (New n) f g x y so stops = stops
stops-too (At moment wf) f g x y so stops = by (model_fault wf) stops
  where
    by : (o : Option Fault) → IfSome o (λ r. x ≡ f (moment, r)) → IfSome o (λ r. y ≡ g (moment, r))
    by None stops = stops
    by (Some r) stops = so (moment, r) stops

-- a fault of an event stops those that it begins
pub refused-stops : (now : ℕ) (w : World) (e : Event) (es : List Event) (fault : WorldFault) → IfSome (model_fault fault) (λ f. step w e ≡ Err f) → Stops Err (At now fault) (all bus now (e ∷ es) w)
refused-stops now w e es fault refused = by (model_fault fault) refused
  where
    by : (o : Option Fault) → IfSome o (λ f. step w e ≡ Err f) → IfSome o (λ r. all bus now (e ∷ es) w ≡ Err (now, r))
    by None is = is
    by (Some f) is = ap (λ o. and_then now o (all bus now es)) is

-- why an event is refused, memory apart
pub refused-by : (w : World) (e : Event) (fault : WorldFault) → Refuses w e (step w e) fault → IfSome (model_fault fault) (λ f. step w e ≡ Err f)
refused-by w e fault refuses = by (step w e) refl refuses
  where
    named : (o : Option Fault) (g : Fault) → o ≡ Some g → step w e ≡ Err g → IfSome o (λ f. step w e ≡ Err f)
    named None g none is = absurd cc
    named (Some r) g some is = let same : r ≡ g = cc in is ∙ ap (λ x. Err x) (sym same)

    unnamed : (o : Option Fault) → o ≡ None → IfSome o (λ f. step w e ≡ Err f)
    unnamed None none = tt
    unnamed (Some r) none = absurd cc

    by : (o : Result (World × Reply) Fault) → step w e ≡ o → Refuses w e o fault → IfSome (model_fault fault) (λ f. step w e ≡ Err f)
    by (Err g) is why = named (model_fault fault) g (ap model_fault why ∙ model-world g) is
    by (Ok next) is why = unnamed (model_fault fault) (ap model_fault why.1)

-- ---- events in a row

-- what stops events stops those that they begin
pub err-append : (now : ℕ) (xs ys : List Event) (w : World) (r : ℕ × Fault) → all bus now xs w ≡ Err r → all bus now (xs ++ ys) w ≡ Err r
err-append now [] ys w r same = absurd cc
err-append now (x ∷ xs) ys w r same = by (λ v. err-append now xs ys v r) (step w x) refl same
  where
    by : ((v : World) → all bus now xs v ≡ Err r → all bus now (xs ++ ys) v ≡ Err r) → (o : Result (World × Reply) Fault) → step w x ≡ o → and_then now o (all bus now xs) ≡ Err r
        → all bus now (x ∷ (xs ++ ys)) w ≡ Err r
    by rest (Ok v) is same = one-ok now w v.0 v.1 x (xs ++ ys) is ∙ rest v.0 same
    by rest (Err f) is same = ap (λ o. and_then now o (all bus now (xs ++ ys))) is ∙ same

-- ---- an instant

-- what follows in a run when time passes; after the turns; and after the early events
abbrev pub from_passing : ℕ → Plan Event → ℕ → World → World → Option (Result (World × List Event) (ℕ × Fault))
from_passing k p now a c =
    let t = next p now (dues c) (next_change c) in
    on_ok (all bus now (passing bus p now t) c) (λ d. ending t (instant bus p now a c) d (run k bus p))

abbrev pub from_late : ℕ → Plan Event → ℕ → World → World → Option (Result (World × List Event) (ℕ × Fault))
from_late k p now a b = on_ok (all bus now (p.late now) b) (from_passing k p now a)

abbrev pub from_turns : ℕ → Plan Event → ℕ → World → Option (Result (World × List Event) (ℕ × Fault))
from_turns k p now a = on_ok (all bus now (turns bus p now a) a) (from_late k p now a)

pub from-early : (k : ℕ) (p : Plan Event) (now : ℕ) (w : World) → run (suc k) bus p now w ≡ on_ok (all bus now (p.early now) w) (from_turns k p now)
unfolding run
from-early k p now w = refl

on_ok-ok : {A B F : Type 0} (o : Result A F) (a : A) (f : A → Option (Result B F)) → o ≡ Ok a → on_ok o f ≡ f a
on_ok-ok o a f ok = ap (λ r. on_ok r f) ok

on_ok-err : {A B F : Type 0} (o : Result A F) (x : F) (f : A → Option (Result B F)) → o ≡ Err x → on_ok o f ≡ Some (Err x)
on_ok-err o x f err = ap (λ r. on_ok r f) err

pub to_turns : (k : ℕ) (p : Plan Event) (now : ℕ) (w a : World) → all bus now (p.early now) w ≡ Ok a → run (suc k) bus p now w ≡ from_turns k p now a
to_turns k p now w a one = from-early k p now w ∙ on_ok-ok (all bus now (p.early now) w) a (from_turns k p now) one

pub to_late : (k : ℕ) (p : Plan Event) (now : ℕ) (w a b : World) → all bus now (p.early now) w ≡ Ok a → all bus now (turns bus p now a) a ≡ Ok b → run (suc k) bus p now w ≡ from_late k p now a b
to_late k p now w a b one two = to_turns k p now w a one ∙ on_ok-ok (all bus now (turns bus p now a) a) b (from_late k p now a) two

pub to_passing : (k : ℕ) (p : Plan Event) (now : ℕ) (w a b c : World) → all bus now (p.early now) w ≡ Ok a → all bus now (turns bus p now a) a ≡ Ok b → all bus now (p.late now) b ≡ Ok c
    → run (suc k) bus p now w ≡ from_passing k p now a c
to_passing k p now w a b c one two three = to_late k p now w a b one two ∙ on_ok-ok (all bus now (p.late now) b) c (from_passing k p now a) three

-- where some events of an instant are refused, its run ends so, whatever came before
pub run-stops : {A : Type 0} (fault : RunFault) (before : List Event) (o : Result A (ℕ × Fault)) (f : A → Option (Result (World × List Event) (ℕ × Fault))) (whole : Option (Result (World × List Event) (ℕ × Fault)))
    → whole ≡ on_ok o f → Stops Err fault o → Stops (λ r. Some (Err r)) fault (with_front before whole)
run-stops fault before o f whole is stops =
    stops-too fault Err (λ r. Some (Err r)) o (with_front before whole) (λ r err. ap (with_front before) (is ∙ on_ok-err o r f err)) stops

rest-ending : (k : ℕ) (p : Plan Event) (before here : List Event) (t : Option ℕ) (d : World) → with_front before (ending t here d (run k bus p)) ≡ run_with (before ++ here) p k t d
rest-ending k p before here None d = refl
rest-ending k p before here (Some moment) d = front-front before here (run k bus p moment d)

pub regroup : {E : Type 0} (xs a b c d : List E) → (((xs ++ a) ++ b) ++ c) ++ d ≡ xs ++ (a ++ (b ++ (c ++ d)))
regroup xs a b c d = simp (append_assoc) refl

-- an instant that is played is one of the run
pub instant-is : (k : ℕ) (p : Plan Event) (now : ℕ) (w a b c d : World) (before in_a in_b in_c in_d : List Event) (t : Option ℕ)
    → all bus now (p.early now) w ≡ Ok a → in_a ≡ before ++ p.early now
    → all bus now (turns bus p now a) a ≡ Ok b → in_b ≡ in_a ++ turns bus p now a
    → all bus now (p.late now) b ≡ Ok c → in_c ≡ in_b ++ p.late now
    → t ≡ next p now (dues c) (next_change c)
    → all bus now (passing bus p now t) c ≡ Ok d → in_d ≡ in_c ++ passing bus p now t
    → with_front before (run (suc k) bus p now w) ≡ run_with in_d p k t d
instant-is k p now w a b c d before in_a in_b in_c in_d t one are_a two are_b three are_c next_is four are_d =
    let nx = next p now (dues c) (next_change c) in
    let early = p.early now in
    let turned = turns bus p now a in
    let late = p.late now in
    let four_is : all bus now (passing bus p now nx) c ≡ Ok d = subst (λ o. all bus now (passing bus p now o) c ≡ Ok d) next_is four in
    let here : in_d ≡ before ++ instant bus p now a c
    = are_d ∙ ap (λ o. in_c ++ passing bus p now o) next_is ∙ ap (λ es. es ++ passing bus p now nx) (are_c ∙ ap (λ es. es ++ late) (are_b ∙ ap (λ es. es ++ turned) are_a)) ∙ regroup before early turned late (passing bus p now nx) in
    ap (with_front before) (to_passing k p now w a b c one two three ∙ on_ok-ok (all bus now (passing bus p now nx) c) d (λ x. ending nx (instant bus p now a c) x (run k bus p)) four_is)
    ∙ rest-ending k p before (instant bus p now a c) nx d ∙ ap (λ es. run_with es p k nx d) (sym here) ∙ ap (λ o. run_with in_d p k o d) (sym next_is)
