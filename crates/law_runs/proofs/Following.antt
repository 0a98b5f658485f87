-- A history that is cut into instants is the run on one thread.
use Rattle.std.proofs.Common.{◌≡◌, ◌∙◌, ap, sym, subst, refl, arith, ℕ, zero, suc, ◌+◌, List, [], ◌∷◌, ◌++◌, append_assoc, length, take, map, Option, Some, None, Ok, Result}
use Rattle.std.proofs.lemmas.Grind.{common_steps}
use Rattle.law_runs.specs.Runs.{Machine, Plan, places, wanted, next, passing, on_ok, and_then, all, ending, with_front, instant, turns, run}
use Rattle.law_runs.specs.Histories.{Leads, EndsOr, IsRun, AreTrue, Commutes}
use Rattle.law_runs.proofs.Sorting.{in_order}

split : {W E R F : Type 0} (m : Machine W E R F) (xs ys : List E) (w v : W) → Leads m w (xs ++ ys) v → (u : W) × Leads m w xs u × Leads m u ys v
unfolding Leads
split m [] ys w v leads = (w, refl, leads)
split m (x ∷ xs) ys w v (u, r, one, rest) = let s = split m xs ys u v rest in (s.0, (u, r, one, s.1), s.2)

pub join : {W E R F : Type 0} (m : Machine W E R F) (xs ys : List E) (w u v : W) → Leads m w xs u → Leads m u ys v → Leads m w (xs ++ ys) v
unfolding Leads
join m [] ys w u v same leads = subst (λ x. Leads m x ys v) (sym same) leads
join m (x ∷ xs) ys w u v (t, r, one, rest) leads = (t, r, one, join m xs ys t u v rest leads)

okay-same : {W R F : Type 0} (u v : W) (r q : R) (o : Result (W × R) F) → o ≡ Ok (u, r) → o ≡ Ok (v, q) → u ≡ v
okay-same {W} {R} {F} u v r q o one two = let a : W × R = (u, r) in let b : W × R = (v, q) in let same : a ≡ b = cc in ap (λ (x : W × R). x.0) same

same_end : {W E R F : Type 0} (m : Machine W E R F) (es : List E) (w u v : W) → Leads m w es u → Leads m w es v → u ≡ v
unfolding Leads
same_end m [] w u v one two = sym one ∙ two
same_end m (e ∷ es) w u v (x, r, one, rest) (y, q, two, more) =
    same_end m es x u v rest (subst (λ z. Leads m z es v) (okay-same y x q r (m.step w e) two one) more)

all_ok : {W E R F : Type 0} (m : Machine W E R F) (now : ℕ) (es : List E) (w v : W) → Leads m w es v → all m now es w ≡ Ok v
unfolding Leads
all_ok m now [] w v same = ap (λ x. Ok x) same
all_ok m now (e ∷ es) w v (u, r, one, rest) = ap (λ o. and_then now o (all m now es)) one ∙ all_ok m now es u v rest

pub take_front : {E : Type 0} (xs ys : List E) → take (length xs) (xs ++ ys) ≡ xs
take_front xs ys = grind (arith, common_steps)

pub regroup : {E : Type 0} (f a b c d : List E) → f ++ (a ++ (b ++ (c ++ d))) ≡ (f ++ (a ++ (b ++ c))) ++ d
regroup f a b c d = simp (append_assoc) refl

pub regroup_all : {E : Type 0} (f a b c d e : List E) → f ++ (a ++ (b ++ (c ++ (d ++ e)))) ≡ (f ++ (a ++ (b ++ (c ++ d)))) ++ e
regroup_all f a b c d e = simp (append_assoc) refl

-- what is known after some events is so of the state that they lead to
known : {W E R F : Type 0} (m : Machine W E R F) (Knows : ℕ → List (Option ℕ) → Option ℕ → Type 0) (first : W) (history front back : List E) (place : ℕ) (due : List (Option ℕ)) (change : Option ℕ) (u : W)
    → AreTrue m first history Knows → Knows place due change → history ≡ front ++ back → length front ≡ place → Leads m first front u → (due ≡ m.due u) × (change ≡ m.change u)
known m Knows first history front back place due change u sound knows cut len leads =
    let s = sound place due change knows in
    let here : take place history ≡ front = ap (λ n. take n history) (sym len) ∙ ap (λ h. take (length front) h) cut ∙ take_front front back in
    let same : s.0 ≡ u = same_end m front first s.0 u (subst (λ es. Leads m first es s.0) here s.1) leads in
    (s.2 ∙ ap m.due same, s.3 ∙ ap m.change same)

on_ok-is : {A B F : Type 0} (o : Result A F) (a : A) (f : A → Option (Result B F)) (x : Option (Result B F)) → o ≡ Ok a → f a ≡ x → on_ok o f ≡ x
on_ok-is o a f x one two = ap (λ r. on_ok r f) one ∙ two

-- the run ends well in a state
abbrev pub Ends : {W E F : Type 0} → Option (Result (W × List E) F) → W → Type 0
Ends {W} {E} {F} o v = (es : List E) × (o ≡ Some (Ok (v, es)))

finish : {W E R F : Type 0} (m : Machine W E R F) (t : Option ℕ) (place : ℕ) (here rest : List E) (d v : W) (Rest : ℕ → ℕ → List E → Type 0) (f : ℕ → W → Option (Result (W × List E) (ℕ × F)))
    → EndsOr t place rest Rest → Leads m d rest v → ((at : ℕ) → Rest at place rest → Ends (f at d) v) → Ends (ending t here d f) v
unfolding Leads
finish m None place here rest d v Rest f none leads on = (here, ap (λ x. Some (Ok (x, here))) (subst (λ es. Leads m d es v) none leads))
finish m (Some t) place here rest d v Rest f goes leads on = let more = on t goes in (here ++ more.0, ap (with_front here) more.1)

-- A history that is cut into instants as the plan and sound outlooks say leads where the run on one thread leads.
pub is_the_run : {W E R F : Type 0} (k : ℕ) (m : Machine W E R F) (p : Plan E) (Knows : ℕ → List (Option ℕ) → Option ℕ → Type 0) (first : W) (history : List E)
    → Commutes m → AreTrue m first history Knows → (now place : ℕ) (front es : List E) (w v : W)
    → history ≡ front ++ es → length front ≡ place → Leads m first front w → IsRun k m p Knows now place es → Leads m w es v → Ends (run k m p now w) v
unfolding run IsRun
is_the_run zero m p Knows first history law sound now place front es w v cut len to_w i leads = absurd i
is_the_run (suc k) m p Knows first history law sound now place front es w v cut len to_w i leads =
    let t = next p now i.dues_after i.change_after in
    let early = p.early now in
    let turned = map m.turn i.taps in
    let late = p.late now in
    let passed = passing m p now t in
    let all_of_it : Leads m w (early ++ (turned ++ (late ++ (passed ++ i.rest)))) v = subst (λ xs. Leads m w xs v) i.cut leads in
    let one = split m early (turned ++ (late ++ (passed ++ i.rest))) w v all_of_it in
    let two = split m turned (late ++ (passed ++ i.rest)) one.0 v one.2 in
    let three = split m late (passed ++ i.rest) two.0 v two.2 in
    let four = split m passed i.rest three.0 v three.2 in
    let a = one.0 in
    let b = two.0 in
    let c = three.0 in
    let d = four.0 in
    let cut_a : history ≡ (front ++ early) ++ (turned ++ (late ++ (passed ++ i.rest))) = cut ∙ ap (λ xs. front ++ xs) i.cut ∙ sym (append_assoc front early (turned ++ (late ++ (passed ++ i.rest)))) in
    let len_a : length (front ++ early) ≡ place + length early = grind (arith, common_steps) in
    let know_a = known m Knows first history (front ++ early) (turned ++ (late ++ (passed ++ i.rest))) (place + length early) i.dues i.change a sound i.known cut_a len_a (join m front early first w a to_w one.1) in
    let before = early ++ (turned ++ late) in
    let to_c : Leads m w before c = join m early (turned ++ late) w a c one.1 (join m turned late a b c two.1 three.1) in
    let cut_c : history ≡ (front ++ before) ++ (passed ++ i.rest) = cut ∙ ap (λ xs. front ++ xs) i.cut ∙ regroup front early turned late (passed ++ i.rest) in
    let len_c : length (front ++ before) ≡ place + length before = grind (arith, common_steps) in
    let know_c = known m Knows first history (front ++ before) (passed ++ i.rest) (place + length before) i.dues_after i.change_after c sound i.known_after cut_c len_c (join m front before first w c to_w to_c) in
    let all_here = early ++ (turned ++ (late ++ passed)) in
    let to_d : Leads m w all_here d = join m early (turned ++ (late ++ passed)) w a d one.1 (join m turned (late ++ passed) a b d two.1 (join m late passed b c d three.1 four.1)) in
    let cut_d : history ≡ (front ++ all_here) ++ i.rest = cut ∙ ap (λ xs. front ++ xs) i.cut ∙ regroup_all front early turned late passed i.rest in
    let len_d : length (front ++ all_here) ≡ place + length all_here = grind (arith, common_steps) in
    let sorted : Leads m a (turns m p now a) b = subst (λ due. Leads m a (map m.turn (places 0 (wanted p now 0 due))) b) know_a.0 (in_order m law (wanted p now 0 i.dues) i.taps a b i.turned two.1) in
    let same : t ≡ next p now (m.due c) (m.change c) = ap (λ due. next p now due i.change_after) know_c.0 ∙ ap (λ change. next p now (m.due c) change) know_c.1 in
    let here = instant m p now a c in
    let ends : Ends (ending t here d (run k m p)) v = finish m t (place + length all_here) here i.rest d v (λ at next rest. IsRun k m p Knows at next rest) (run k m p) i.goes_on four.2
    (λ at goes. is_the_run k m p Knows first history law sound at (place + length all_here) (front ++ all_here) i.rest d v cut_d len_d (join m front all_here first w d to_w to_d) goes four.2) in (
      ends.0,
      on_ok-is (all m now early w) a _ _ (all_ok m now early w a one.1)
          (on_ok-is (all m now (turns m p now a) a) b _ _ (all_ok m now (turns m p now a) a b sorted)
          (on_ok-is (all m now late b) c _ _ (all_ok m now late b c three.1)
          (on_ok-is (all m now (passing m p now (next p now (m.due c) (m.change c))) c) d _ _ (ap (λ at. all m now (passing m p now at) c) (sym same) ∙ all_ok m now passed c d four.1)
          (ap (λ at. ending at here d (run k m p)) (sym same) ∙ ends.1)))),
    )
