-- A machine that follows another: it does what the other does, in worlds and with faults that belong to those of the other.
use Rattle.std.proofs.Common.{◌≡◌, ◌∙◌, ap, sym, subst, refl, ℕ, zero, suc, ◌-◌, nat_lt, if◌then◌else◌, Bool, false, List, [], ◌∷◌, ◌++◌, map, Option, Some, None, Result, Ok, Err}
use Rattle.law_runs.specs.Runs.{Machine, Plan, all, and_then, ending, instant, next, on_ok, passing, places, run, turns, wanted, with_front}

-- ---- what belongs to a result of the other

abbrev pub of_step : {W V R F G : Type 0} → (W → V) → (F → G) → Result (W × R) F → Result (V × R) G
of_step f g (Ok next) = Ok (f next.0, next.1)
of_step f g (Err fault) = Err (g fault)

abbrev pub of_all : {W V F G : Type 0} → (W → V) → (F → G) → Result W (ℕ × F) → Result V (ℕ × G)
of_all f g (Ok w) = Ok (f w)
of_all f g (Err stop) = Err (stop.0, g stop.1)

abbrev pub of_run : {W V E F G : Type 0} → (W → V) → (F → G) → Option (Result (W × List E) (ℕ × F)) → Option (Result (V × List E) (ℕ × G))
of_run f g None = None
of_run f g (Some (Ok end)) = Some (Ok (f end.0, end.1))
of_run f g (Some (Err stop)) = Some (Err (stop.0, g stop.1))

-- ---- faults that it need not follow

abbrev pub step_is : {X F : Type 0} → (F → Bool) → Result X F → Bool
step_is q (Ok x) = false
step_is q (Err fault) = q fault

abbrev pub all_is : {X F : Type 0} → (F → Bool) → Result X (ℕ × F) → Bool
all_is q (Ok x) = false
all_is q (Err stop) = q stop.1

abbrev pub run_is : {X F : Type 0} → (F → Bool) → Option (Result X (ℕ × F)) → Bool
run_is q None = false
run_is q (Some o) = all_is q o

-- ---- it follows the other from worlds that are fit

pub record Follows {W V E R F G : Type 0} (m : Machine W E R F) (n : Machine V E R G) (f : W → V) (g : F → G) (q : F → Bool) (Fit : W → Type 0) : Type 0 where
  pub step : (w : W) (e : E) → Fit w → step_is q (m.step w e) ≡ false → n.step (f w) e ≡ of_step f g (m.step w e)
  pub keeps : (w next : W) (e : E) (reply : R) → Fit w → m.step w e ≡ Ok (next, reply) → Fit next
  pub due : (w : W) → Fit w → n.due (f w) ≡ m.due w
  pub change : (w : W) → Fit w → n.change (f w) ≡ m.change w
  pub turn : n.turn ≡ m.turn
  pub pass : n.pass ≡ m.pass

-- ---- events of a moment

pub all-keeps : {W V E R F G : Type 0} (m : Machine W E R F) (n : Machine V E R G) (f : W → V) (g : F → G) (q : F → Bool) (Fit : W → Type 0) → Follows m n f g q Fit
    → (now : ℕ) (es : List E) (w u : W) → Fit w → all m now es w ≡ Ok u → Fit u
all-keeps {W} {V} {E} {R} {F} {G} m n f g q Fit follows now [] w u fit ok = let same : w ≡ u = cc in subst Fit same fit
all-keeps {W} {V} {E} {R} {F} {G} m n f g q Fit follows now (e ∷ es) w u fit ok = by (λ v fit_v ok. all-keeps m n f g q Fit follows now es v u fit_v ok) (m.step w e) refl ok
  where
    by : ((v : W) → Fit v → all m now es v ≡ Ok u → Fit u) → (o : Result (W × R) F) → m.step w e ≡ o → and_then now o (all m now es) ≡ Ok u → Fit u
    by rest (Ok next) is ok = rest next.0 (follows.keeps w next.0 e next.1 fit is) ok
    by rest (Err fault) is ok = absurd cc

pub all-follows : {W V E R F G : Type 0} (m : Machine W E R F) (n : Machine V E R G) (f : W → V) (g : F → G) (q : F → Bool) (Fit : W → Type 0) → Follows m n f g q Fit
    → (now : ℕ) (es : List E) (w : W) → Fit w → all_is q (all m now es w) ≡ false → all n now es (f w) ≡ of_all f g (all m now es w)
all-follows {W} {V} {E} {R} {F} {G} m n f g q Fit follows now [] w fit calm = refl
all-follows {W} {V} {E} {R} {F} {G} m n f g q Fit follows now (e ∷ es) w fit calm = by (λ v fit_v still. all-follows m n f g q Fit follows now es v fit_v still) (m.step w e) refl calm (follows.step w e fit)
  where
    by : ((v : W) → Fit v → all_is q (all m now es v) ≡ false → all n now es (f v) ≡ of_all f g (all m now es v))
        → (o : Result (W × R) F) → m.step w e ≡ o → all_is q (and_then now o (all m now es)) ≡ false → (step_is q o ≡ false → n.step (f w) e ≡ of_step f g o)
        → and_then now (n.step (f w) e) (all n now es) ≡ of_all f g (and_then now o (all m now es))
    by rest (Ok next) is calm same = ap (λ r. and_then now r (all n now es)) (same refl) ∙ rest next.0 (follows.keeps w next.0 e next.1 fit is) calm
    by rest (Err fault) is calm same = ap (λ r. and_then now r (all n now es)) (same calm)

-- ---- a stage of an instant, and what comes after an instant

stage : {W V E F G : Type 0} (f : W → V) (g : F → G) (q : F → Bool) (o : Result W (ℕ × F)) (r : Result V (ℕ × G))
    (one : W → Option (Result (W × List E) (ℕ × F))) (two : V → Option (Result (V × List E) (ℕ × G)))
    → (all_is q o ≡ false → r ≡ of_all f g o) → ((a : W) → o ≡ Ok a → run_is q (one a) ≡ false → two (f a) ≡ of_run f g (one a))
    → run_is q (on_ok o one) ≡ false → on_ok r two ≡ of_run f g (on_ok o one)
stage f g q (Ok a) r one two same rest calm = ap (λ x. on_ok x two) (same refl) ∙ rest a refl calm
stage f g q (Err stop) r one two same rest calm = ap (λ x. on_ok x two) (same calm)

of-front : {W V E F G : Type 0} (f : W → V) (g : F → G) (es : List E) (o : Option (Result (W × List E) (ℕ × F))) → with_front es (of_run f g o) ≡ of_run f g (with_front es o)
of-front f g es None = refl
of-front f g es (Some (Ok end)) = refl
of-front f g es (Some (Err stop)) = refl

calm-front : {X E F : Type 0} (q : F → Bool) (es : List E) (o : Option (Result (X × List E) (ℕ × F))) → run_is q (with_front es o) ≡ run_is q o
calm-front q es None = refl
calm-front q es (Some (Ok end)) = refl
calm-front q es (Some (Err stop)) = refl

ends : {W V E F G : Type 0} (f : W → V) (g : F → G) (q : F → Bool) (t : Option ℕ) (es : List E) (d : W)
    (one : ℕ → W → Option (Result (W × List E) (ℕ × F))) (two : ℕ → V → Option (Result (V × List E) (ℕ × G)))
    → ((at : ℕ) → run_is q (one at d) ≡ false → two at (f d) ≡ of_run f g (one at d))
    → run_is q (ending t es d one) ≡ false → ending t es (f d) two ≡ of_run f g (ending t es d one)
ends f g q None es d one two rest calm = refl
ends f g q (Some at) es d one two rest calm =
    ap (with_front es) (rest at (sym (calm-front q es (one at d)) ∙ calm)) ∙ of-front f g es (one at d)

-- ---- the run

-- what follows in a run when time passes; after the turns; and after the early events
abbrev pub from_passing : {W E R F : Type 0} → Machine W E R F → ℕ → Plan E → ℕ → W → W → Option (Result (W × List E) (ℕ × F))
from_passing m k p now a c =
    let t = next p now (m.due c) (m.change c) in
    on_ok (all m now (passing m p now t) c) (λ d. ending t (instant m p now a c) d (run k m p))

abbrev pub from_late : {W E R F : Type 0} → Machine W E R F → ℕ → Plan E → ℕ → W → W → Option (Result (W × List E) (ℕ × F))
from_late m k p now a b = on_ok (all m now (p.late now) b) (from_passing m k p now a)

abbrev pub from_turns : {W E R F : Type 0} → Machine W E R F → ℕ → Plan E → ℕ → W → Option (Result (W × List E) (ℕ × F))
from_turns m k p now a = on_ok (all m now (turns m p now a) a) (from_late m k p now a)

pub from-early : {W E R F : Type 0} (m : Machine W E R F) (k : ℕ) (p : Plan E) (now : ℕ) (w : W) → run (suc k) m p now w ≡ on_ok (all m now (p.early now) w) (from_turns m k p now)
unfolding run
from-early m k p now w = refl

none-left : {W E R F : Type 0} (m : Machine W E R F) (p : Plan E) (now : ℕ) (w : W) → (let o : Option (Result (W × List E) (ℕ × F)) = None in run zero m p now w ≡ o)
unfolding run
none-left m p now w = refl

pub same-passing : {W V E R F G : Type 0} (m : Machine W E R F) (n : Machine V E R G) → n.pass ≡ m.pass → (p : Plan E) (now : ℕ) (t : Option ℕ) → passing n p now t ≡ passing m p now t
same-passing {W} {V} {E} {R} {F} {G} m n same p now None = ap (λ (pass : ℕ → E). if nat_lt now p.until then pass (p.until - now) ∷ [] else []) same
same-passing {W} {V} {E} {R} {F} {G} m n same p now (Some t) = ap (λ (pass : ℕ → E). pass (t - now) ∷ []) same

pub run-follows : {W V E R F G : Type 0} (m : Machine W E R F) (n : Machine V E R G) (f : W → V) (g : F → G) (q : F → Bool) (Fit : W → Type 0) → Follows m n f g q Fit
    → (k : ℕ) (p : Plan E) (now : ℕ) (w : W) → Fit w → run_is q (run k m p now w) ≡ false → run k n p now (f w) ≡ of_run f g (run k m p now w)
run-follows {W} {V} {E} {R} {F} {G} m n f g q Fit follows zero p now w fit calm = none-left n p now (f w) ∙ ap (of_run f g) (sym (none-left m p now w))
run-follows {W} {V} {E} {R} {F} {G} m n f g q Fit follows (suc k) p now w fit calm =
    from-early n k p now (f w)
    ∙ stage f g q (all m now (p.early now) w) (all n now (p.early now) (f w)) (from_turns m k p now) (from_turns n k p now)
    (all-follows m n f g q Fit follows now (p.early now) w fit) (λ a one. after-early (λ at d fit_d still. run-follows m n f g q Fit follows k p at d fit_d still) a (all-keeps m n f g q Fit follows now (p.early now) w a fit one))
    (ap (run_is q) (sym (from-early m k p now w)) ∙ calm)
    ∙ ap (of_run f g) (sym (from-early m k p now w))
  where
    same-turns : (a : W) → Fit a → turns n p now (f a) ≡ turns m p now a
    same-turns a fit =
        ap (λ (turn : ℕ → E). map turn (places 0 (wanted p now 0 (n.due (f a))))) follows.turn
        ∙ ap (λ (dues : List (Option ℕ)). map m.turn (places 0 (wanted p now 0 dues))) (follows.due a fit)

    same-next : (c : W) → Fit c → next p now (n.due (f c)) (n.change (f c)) ≡ next p now (m.due c) (m.change c)
    same-next c fit = ap (λ (dues : List (Option ℕ)). next p now dues (n.change (f c))) (follows.due c fit) ∙ ap (next p now (m.due c)) (follows.change c fit)

    goes-on : ((at : ℕ) (d : W) → Fit d → run_is q (run k m p at d) ≡ false → run k n p at (f d) ≡ of_run f g (run k m p at d)) → (t : Option ℕ) (here : List E) (d : W) → Fit d → run_is q (ending t here d (run k m p)) ≡ false → ending t here (f d) (run k n p) ≡ of_run f g (ending t here d (run k m p))
    goes-on rest t here d fit calm = ends f g q t here d (run k m p) (run k n p) (λ at still. rest at d fit still) calm

    passes : ((at : ℕ) (d : W) → Fit d → run_is q (run k m p at d) ≡ false → run k n p at (f d) ≡ of_run f g (run k m p at d)) → (a c : W) → Fit a → Fit c → run_is q (from_passing m k p now a c) ≡ false → from_passing n k p now (f a) (f c) ≡ of_run f g (from_passing m k p now a c)
    passes rest a c fit_a fit_c calm =
        let t = next p now (m.due c) (m.change c) in
        let s = next p now (n.due (f c)) (n.change (f c)) in
        let here = instant m p now a c in
        let whole : Option ℕ → List E → List E → Option (Result (V × List E) (ℕ × G)) = λ o pass es. on_ok (all n now pass (f c)) (λ d. ending o es d (run k n p)) in
        ap (λ es. whole s (passing n p now s) (p.early now ++ (es ++ (p.late now ++ passing n p now s)))) (same-turns a fit_a)
        ∙ ap (λ o. whole o (passing n p now o) (p.early now ++ (turns m p now a ++ (p.late now ++ passing n p now o)))) (same-next c fit_c)
        ∙ ap (λ pass. whole t pass (p.early now ++ (turns m p now a ++ (p.late now ++ pass)))) (same-passing m n follows.pass p now t)
        ∙ stage f g q (all m now (passing m p now t) c) (all n now (passing m p now t) (f c)) (λ d. ending t here d (run k m p)) (λ d. ending t here d (run k n p))
        (all-follows m n f g q Fit follows now (passing m p now t) c fit_c)
        (λ d one. goes-on rest t here d (all-keeps m n f g q Fit follows now (passing m p now t) c d fit_c one)) calm

    after-turns : ((at : ℕ) (d : W) → Fit d → run_is q (run k m p at d) ≡ false → run k n p at (f d) ≡ of_run f g (run k m p at d)) → (a b : W) → Fit a → Fit b → run_is q (from_late m k p now a b) ≡ false → from_late n k p now (f a) (f b) ≡ of_run f g (from_late m k p now a b)
    after-turns rest a b fit_a fit_b calm =
        stage f g q (all m now (p.late now) b) (all n now (p.late now) (f b)) (from_passing m k p now a) (from_passing n k p now (f a))
        (all-follows m n f g q Fit follows now (p.late now) b fit_b) (λ c one. passes rest a c fit_a (all-keeps m n f g q Fit follows now (p.late now) b c fit_b one)) calm

    after-early : ((at : ℕ) (d : W) → Fit d → run_is q (run k m p at d) ≡ false → run k n p at (f d) ≡ of_run f g (run k m p at d)) → (a : W) → Fit a → run_is q (from_turns m k p now a) ≡ false → from_turns n k p now (f a) ≡ of_run f g (from_turns m k p now a)
    after-early rest a fit_a calm =
        ap (λ es. on_ok (all n now es (f a)) (from_late n k p now (f a))) (same-turns a fit_a)
        ∙ stage f g q (all m now (turns m p now a) a) (all n now (turns m p now a) (f a)) (from_late m k p now a) (from_late n k p now (f a))
        (all-follows m n f g q Fit follows now (turns m p now a) a fit_a) (λ b one. after-turns rest a b fit_a (all-keeps m n f g q Fit follows now (turns m p now a) a b fit_a one)) calm
