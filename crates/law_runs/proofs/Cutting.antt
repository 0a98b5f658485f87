-- A run is itself a history that is cut into instants; in an instant each wanted tap takes one turn.
use Rattle.std.proofs.Common.{◌≡◌, ◌∙◌, ap, sym, subst, refl, arith, ℕ, zero, suc, ◌+◌, ◌==◌, true, false, cond, List, [], ◌∷◌, ◌++◌, append_assoc, append-nil, length, take, Bool, Option, Some, None, Ok, Result}
use Rattle.std.specs.Prelude.{slice_get, slice_set, count_by, if◌then◌else◌}
use Rattle.std.proofs.lemmas.Bool.{eqb-true, eqb-false}
use Rattle.std.proofs.lemmas.List.Sums.{sum_by-cons}
use Rattle.std.proofs.lemmas.Grind.{common_steps}
use Rattle.law_runs.specs.Runs.{Machine, Plan, places, wants, wanted, next, passing, all, ending, turns, run, due_at}
use Rattle.law_runs.specs.Histories.{Leads, Picks, IsSoAfter, EndsOr, IsRun, none_left}
use Rattle.law_runs.proofs.Accepting.{get-other}
use Rattle.law_runs.proofs.Following.{join, take_front, regroup, regroup_all}
use Rattle.law_runs.proofs.Leading.{on_ok-some, ended, all-leads}

-- ---- the turns of a run are picked

none_left-after : (front : List Bool) → none_left front ≡ true → none_left (front ++ false ∷ []) ≡ true
none_left-after [] none = refl
none_left-after (true ∷ front) none = let wrong : false ≡ true = none in absurd cc
none_left-after (false ∷ front) none = none_left-after front none

get-after : {X : Type 0} (front back : List X) (x : X) → slice_get (front ++ x ∷ back) (length front) ≡ Some x
get-after [] back x = refl
get-after (y ∷ front) back x = get-after front back x

set-after : {X : Type 0} (front back : List X) (x y : X) → slice_set (front ++ x ∷ back) (length front) y ≡ (front ++ y ∷ []) ++ back
set-after [] back x y = refl
set-after (z ∷ front) back x y = ap (λ xs. z ∷ xs) (set-after front back x y)

length-after : {X : Type 0} (front : List X) (x : X) → length (front ++ x ∷ []) ≡ length front + 1
length-after front x = grind (arith, common_steps)

-- behind what isn't wanted, the places of what is wanted pick it
picks-places : (front want : List Bool) → none_left front ≡ true → Picks (front ++ want) (places (length front) want)
unfolding Picks
picks-places front [] none = ap none_left (append-nil front) ∙ none
picks-places front (true ∷ want) none =
    let more = picks-places (front ++ false ∷ []) want (none_left-after front none) in (
      get-after front want true,
      subst (λ bs. Picks bs (places (length front + 1) want)) (sym (set-after front want true false))
          (subst (λ n. Picks ((front ++ false ∷ []) ++ want) (places n want)) (length-after front false) more),
    )
picks-places front (false ∷ want) none =
    let more = picks-places (front ++ false ∷ []) want (none_left-after front none) in
    let same : (front ++ false ∷ []) ++ want ≡ front ++ (false ∷ want) = append_assoc front (false ∷ []) want in
    subst (λ bs. Picks bs (places (length front + 1) want)) same (subst (λ n. Picks ((front ++ false ∷ []) ++ want) (places n want)) (length-after front false) more)

-- ---- a run, instant by instant

-- how a run goes on after an instant
abbrev Goes : {W E : Type 0} {F : Type 0} → Option ℕ → (ℕ → W → Option (Result (W × List E) F)) → W → W → List E → Type 0
Goes None f d v ys = ys ≡ []
Goes (Some at) f d v ys = f at d ≡ Some (Ok (v, ys))

goes : {W E F : Type 0} (t : Option ℕ) (here : List E) (d v : W) (es : List E) (f : ℕ → W → Option (Result (W × List E) F)) → ending t here d f ≡ Some (Ok (v, es))
    → (ys : List E) × (es ≡ here ++ ys) × Goes t f d v ys
goes {W} {E} {F} None here d v es f some =
    let a : W × List E = (d, here) in
    let b : W × List E = (v, es) in
    let same : a ≡ b = cc in
    ([], ap (λ (x : W × List E). x.1) (sym same) ∙ sym (append-nil here), refl)
goes (Some at) here d v es f some = let e = ended here (f at d) v es some in (e.0, e.2, e.1)

-- what is so after the front of a history
so-after : {W E R F : Type 0} (m : Machine W E R F) (first w : W) (history front back : List E) (place : ℕ) → history ≡ front ++ back → length front ≡ place → Leads m first front w
    → IsSoAfter m first history place (m.due w) (m.change w)
so-after m first w history front back place cut len leads =
    let here : take place history ≡ front = ap (λ n. take n history) (sym len) ∙ ap (λ h. take (length front) h) cut ∙ take_front front back in
    (w, subst (λ es. Leads m first es w) (sym here) leads, refl, refl)

ends-or : {W E R F : Type 0} (m : Machine W E R F) (t : Option ℕ) (f : ℕ → W → Option (Result (W × List E) (ℕ × F))) (d v : W) (place : ℕ) (ys : List E) (GoesOn : ℕ → ℕ → List E → Type 0)
    → Goes t f d v ys → ((at : ℕ) → f at d ≡ Some (Ok (v, ys)) → GoesOn at place ys) → EndsOr t place ys GoesOn
ends-or m None f d v place ys GoesOn none on = none
ends-or m (Some at) f d v place ys GoesOn some on = on at some

pub run-is-history : {W E R F : Type 0} (k : ℕ) (m : Machine W E R F) (p : Plan E) (first : W) (history : List E) (now place : ℕ) (front es : List E) (w v : W)
    → history ≡ front ++ es → length front ≡ place → Leads m first front w → run k m p now w ≡ Some (Ok (v, es)) → IsRun k m p (IsSoAfter m first history) now place es
unfolding run IsRun
run-is-history zero m p first history now place front es w v cut len to_w some = absurd cc
run-is-history (suc k) m p first history now place front es w v cut len to_w some =
    let a = on_ok-some (all m now (p.early now) w) _ (v, es) some in
    let b = on_ok-some (all m now (turns m p now a.0) a.0) _ (v, es) a.2 in
    let c = on_ok-some (all m now (p.late now) b.0) _ (v, es) b.2 in
    let t = next p now (m.due c.0) (m.change c.0) in
    let d = on_ok-some (all m now (passing m p now t) c.0) _ (v, es) c.2 in
    let early = p.early now in
    let turned = turns m p now a.0 in
    let late = p.late now in
    let passed = passing m p now t in
    let here = early ++ (turned ++ (late ++ passed)) in
    let before = early ++ (turned ++ late) in
    let rest = goes t here d.0 v es (run k m p) d.2 in
    let ys = rest.0 in
    let one = all-leads m now early w a.0 a.1 in
    let two = all-leads m now turned a.0 b.0 b.1 in
    let three = all-leads m now late b.0 c.0 c.1 in
    let four = all-leads m now passed c.0 d.0 d.1 in
    let cut_all : es ≡ early ++ (turned ++ (late ++ (passed ++ ys))) = rest.1 ∙ sym (regroup early turned late passed ys) in
    let cut_a : history ≡ (front ++ early) ++ (turned ++ (late ++ (passed ++ ys))) = cut ∙ ap (λ xs. front ++ xs) cut_all ∙ sym (append_assoc front early (turned ++ (late ++ (passed ++ ys)))) in
    let len_a : length (front ++ early) ≡ place + length early = grind (arith, common_steps) in
    let cut_c : history ≡ (front ++ before) ++ (passed ++ ys) = cut ∙ ap (λ xs. front ++ xs) cut_all ∙ regroup front early turned late (passed ++ ys) in
    let len_c : length (front ++ before) ≡ place + length before = grind (arith, common_steps) in
    let to_c = join m front before first w c.0 to_w (join m early (turned ++ late) w a.0 c.0 one (join m turned late a.0 b.0 c.0 two three)) in
    let cut_d : history ≡ (front ++ here) ++ ys = cut ∙ ap (λ xs. front ++ xs) cut_all ∙ regroup_all front early turned late passed ys in
    let len_d : length (front ++ here) ≡ place + length here = grind (arith, common_steps) in
    let to_d = join m front here first w d.0 to_w (join m early (turned ++ (late ++ passed)) w a.0 d.0 one (join m turned (late ++ passed) a.0 b.0 d.0 two (join m late passed b.0 c.0 d.0 three four))) in
    record {
      taps = places 0 (wanted p now 0 (m.due a.0));
      dues = m.due a.0;
      change = m.change a.0;
      dues_after = m.due c.0;
      change_after = m.change c.0;
      rest = ys;
      cut = cut_all;
      known = so-after m first a.0 history (front ++ early) (turned ++ (late ++ (passed ++ ys))) (place + length early) cut_a len_a (join m front early first w a.0 to_w one);
      turned = picks-places [] (wanted p now 0 (m.due a.0)) refl;
      known_after = so-after m first c.0 history (front ++ before) (passed ++ ys) (place + length before) cut_c len_c to_c;
      goes_on = ends-or m t (run k m p) d.0 v (place + length here) ys (λ at next rest. IsRun k m p (IsSoAfter m first history) at next rest) rest.2
          (λ at more. run-is-history k m p first history at (place + length here) (front ++ here) ys d.0 v cut_d len_d to_d more);
    }

-- ---- each wanted tap takes one turn

abbrev is_wanted : Option Bool → Bool
is_wanted None = false
is_wanted (Some b) = b

none-wanted : (want : List Bool) (tap : ℕ) → none_left want ≡ true → is_wanted (slice_get want tap) ≡ false
none-wanted [] tap none = refl
none-wanted (true ∷ want) tap none = let wrong : false ≡ true = none in absurd cc
none-wanted (false ∷ want) zero none = refl
none-wanted (false ∷ want) (suc tap) none = none-wanted want tap none

wanted-no-more : (want : List Bool) (tap : ℕ) → is_wanted (slice_get (slice_set want tap false) tap) ≡ false
wanted-no-more [] tap = refl
wanted-no-more (b ∷ want) zero = refl
wanted-no-more (b ∷ want) (suc tap) = wanted-no-more want tap

abbrev once : Bool → ℕ
once b = if b then 1 else 0

picked-once : (want : List Bool) (taps : List ℕ) (tap : ℕ) → Picks want taps → count_by (λ t. t == tap) taps ≡ once (is_wanted (slice_get want tap))
unfolding Picks
picked-once want [] tap none = sym (ap once (none-wanted want tap none))
picked-once want (t ∷ taps) tap picks = by (picked-once (slice_set want t false) taps tap picks.1) (t == tap) refl
  where
    by : count_by (λ t. t == tap) taps ≡ once (is_wanted (slice_get (slice_set want t false) tap)) → (b : Bool) → (t == tap) ≡ b
        → count_by (λ t. t == tap) (t ∷ taps) ≡ once (is_wanted (slice_get want tap))
    by rest true same =
        let is : t ≡ tap = eqb-true t tap same in
        let none : count_by (λ t. t == tap) taps ≡ 0 = rest ∙ ap (λ n. once (is_wanted (slice_get (slice_set want n false) tap))) is ∙ ap once (wanted-no-more want tap) in
        let here : once (is_wanted (slice_get want tap)) ≡ 1 = ap (λ n. once (is_wanted (slice_get want n))) (sym is) ∙ ap (λ o. once (is_wanted o)) picks.0 in
        sum_by-cons (λ n. cond (n == tap) 1 0) t taps ∙ ap (λ b. cond b 1 0 + count_by (λ t. t == tap) taps) same ∙ omega (arith, none, here)
    by rest false same =
        sum_by-cons (λ n. cond (n == tap) 1 0) t taps ∙ ap (λ b. cond b 1 0 + count_by (λ t. t == tap) taps) same ∙ omega (arith, rest, ap (λ o. once (is_wanted o)) (get-other want t tap false (eqb-false t tap same)))

wanted-at : {E : Type 0} (p : Plan E) (now base : ℕ) (dues : List (Option ℕ)) (tap : ℕ) → is_wanted (slice_get (wanted p now base dues) tap) ≡ wants p now (base + tap) (due_at (slice_get dues tap))
wanted-at p now base [] tap = refl
wanted-at p now base (due ∷ dues) zero = let same : base ≡ base + 0 = omega arith in ap (λ n. wants p now n due) same
wanted-at p now base (due ∷ dues) (suc tap) =
    let same : (base + 1) + tap ≡ base + suc tap = omega arith in wanted-at p now (base + 1) dues tap ∙ ap (λ n. wants p now n (due_at (slice_get dues tap))) same

pub turns-once : {E : Type 0} (p : Plan E) (now : ℕ) (dues : List (Option ℕ)) (taps : List ℕ) → Picks (wanted p now 0 dues) taps
    → (tap : ℕ) → count_by (λ t. t == tap) taps ≡ (if wants p now tap (due_at (slice_get dues tap)) then 1 else 0)
turns-once p now dues taps picks tap =
    let same : 0 + tap ≡ tap = omega arith in
    picked-once (wanted p now 0 dues) taps tap picks ∙ ap once (wanted-at p now 0 dues tap ∙ ap (λ n. wants p now n (due_at (slice_get dues tap))) same)
