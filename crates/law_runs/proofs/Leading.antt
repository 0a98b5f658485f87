-- The events of a run lead to its last state.
use Rattle.std.proofs.Common.{◌≡◌, ap, sym, subst, refl, ℕ, zero, suc, Err, List, [], ◌∷◌, ◌++◌, Option, Some, None, Ok, Result}
use Rattle.law_runs.specs.Runs.{Machine, Plan, next, passing, on_ok, and_then, all, ending, with_front, instant, turns, run}
use Rattle.law_runs.specs.Histories.{Leads}
use Rattle.law_runs.proofs.Following.{join}

pub all-leads : {W E R F : Type 0} (m : Machine W E R F) (now : ℕ) (es : List E) (w v : W) → all m now es w ≡ Ok v → Leads m w es v
unfolding Leads
all-leads {W} {E} {R} {F} m now [] w v same = ok-is same
  where
    ok-is : (let o : Result W (ℕ × F) = Ok w in o ≡ Ok v) → w ≡ v
    ok-is same = cc
all-leads {W} {E} {R} {F} m now (e ∷ es) w v same = by (λ u. all-leads m now es u v) (m.step w e) refl same
  where
    by : ((u : W) → all m now es u ≡ Ok v → Leads m u es v) → (o : Result (W × R) F) → m.step w e ≡ o → and_then now o (all m now es) ≡ Ok v → Leads m w (e ∷ es) v
    by rest (Ok next) step same = (next.0, next.1, step, rest next.0 same)
    by rest (Err f) step same = absurd cc

pub on_ok-some : {A B F : Type 0} (o : Result A F) (f : A → Option (Result B F)) (b : B) → on_ok o f ≡ Some (Ok b) → (a : A) × (o ≡ Ok a) × (f a ≡ Some (Ok b))
on_ok-some (Ok a) f b some = (a, refl, some)
on_ok-some (Err e) f b some = absurd cc

pub ended : {W E F : Type 0} (es : List E) (o : Option (Result (W × List E) F)) (v : W) (xs : List E) → with_front es o ≡ Some (Ok (v, xs)) → (ys : List E) × (o ≡ Some (Ok (v, ys))) × (xs ≡ es ++ ys)
ended es None v xs some = absurd cc
ended es (Some (Err f)) v xs some = absurd cc
ended {W} {E} es (Some (Ok end)) v xs some =
    let a : W × List E = (end.0, es ++ end.1) in
    let b : W × List E = (v, xs) in
    let same : a ≡ b = cc in
    (end.1, ap (λ w. Some (Ok (w, end.1))) (ap (λ (x : W × List E). x.0) same), sym (ap (λ (x : W × List E). x.1) same))

pub run-leads : {W E R F : Type 0} (k : ℕ) (m : Machine W E R F) (p : Plan E) (now : ℕ) (w v : W) (es : List E) → run k m p now w ≡ Some (Ok (v, es)) → Leads m w es v
unfolding run
run-leads zero m p now w v es some = absurd cc
run-leads {W} {E} {R} {F} (suc k) m p now w v es some =
    let a = on_ok-some (all m now (p.early now) w) _ (v, es) some in
    let b = on_ok-some (all m now (turns m p now a.0) a.0) _ (v, es) a.2 in
    let c = on_ok-some (all m now (p.late now) b.0) _ (v, es) b.2 in
    let t = next p now (m.due c.0) (m.change c.0) in
    let d = on_ok-some (all m now (passing m p now t) c.0) _ (v, es) c.2 in
    let here = instant m p now a.0 c.0 in
    let to_d : Leads m w here d.0 = join m (p.early now) (turns m p now a.0 ++ (p.late now ++ passing m p now t)) w a.0 d.0 (all-leads m now (p.early now) w a.0 a.1)
    (join m (turns m p now a.0) (p.late now ++ passing m p now t) a.0 b.0 d.0 (all-leads m now (turns m p now a.0) a.0 b.0 b.1)
    (join m (p.late now) (passing m p now t) b.0 c.0 d.0 (all-leads m now (p.late now) b.0 c.0 c.1) (all-leads m now (passing m p now t) c.0 d.0 d.1))) in
    by (λ at d ys. run-leads k m p at d v ys) d.0 here t to_d d.2
  where
    by : ((at : ℕ) (d : W) (ys : List E) → run k m p at d ≡ Some (Ok (v, ys)) → Leads m d ys v) → (d : W) (here : List E) (t : Option ℕ) → Leads m w here d → ending t here d (run k m p) ≡ Some (Ok (v, es)) → Leads m w es v
    by rest d here None to_d some =
        let a : W × List E = (d, here) in
        let b : W × List E = (v, es) in
        let same : a ≡ b = cc in
        subst (λ (x : W × List E). Leads m w x.1 x.0) same to_d
    by rest d here (Some at) to_d some =
        let e = ended here (run k m p at d) v es some in
        subst (λ xs. Leads m w xs v) (sym e.2) (join m here e.0 w d v to_d (rest at d e.0 e.1))
