-- The steps keep the rule of tickets.
use Rattle.std.proofs.Common.{◌≡◌, ℕ, ◌+◌, ◌-◌, ◌%◌, ◌^◌, ◌<◌, ◌≤◌, List, [], ◌∷◌, ◌++◌, length, refl, ap, sym, ◌∙◌, arith, subst, if◌then◌else◌, Bool, true, false, nat_lt, ⊎_elim}
use Rattle.std.specs.Prelude.{slice_index, slice_set, min}
use Rattle.std.proofs.lemmas.Bool.Decides.{nat_tests}
use Rattle.std.proofs.lemmas.Grind.{elements}
use Rattle.std.proofs.lemmas.List.{length-set}
use mathlib.Core.Option.{none, some, some-injective, some-ne-none}
use lib.ListN.{get_elem?}
use Rattle.atomic_table.specs.Table.{Allows, Joins, Me, Splits, State, keeps, step}
use Rattle.atomic_table.proofs.Lists.{at_set, at_snoc, set_else}
use Rattle.pb_fleet.specs.declared.rules.Key.{Key}
use Rattle.pb_fleet.specs.declared.rules.View.{View}
use Rattle.pb_fleet.specs.Rules.{Draws, IsGiven, after_draw, both, cut, once_below, times, total, view, weight}
use Rattle.pb_fleet.proofs.Totals.{next_drawn, none_counts, none_drawn, one_of_total, times_append, total_set, total_snoc, used_within}

abbrev pub Tables : Type 0
Tables = State (Unit {0}) View

-- what has to hold of a seat's new view where the word goes from one number to another
record Steps (k : Key) (n next : ℕ) (v w : View) : Type 0 where
  pub same : weight w ≡ weight v
  pub up : n ≤ next
  pub bound : (u : ℕ) → n ≤ k.limit + (u + v.used) → next ≤ k.limit + (u + w.used)
  pub each : (x : ℕ) → times x w.drawn + once_below x (min n k.limit) ≡ times x v.drawn + once_below x (min next k.limit)
  pub idle : weight w ≡ 0 → w.drawn ≡ []
  pub limits : 0 < weight w → w.limit ≡ k.limit
  pub ended : 0 < w.used → k.limit ≤ next

gives_step : (k : Key) (s : Tables) (id next : ℕ) (v w : View) → IsGiven k s → get_elem? s.views id ≡ some v → Steps k (slice_index s.words 0) next v w
    → IsGiven k (record { words = slice_set s.words 0 next; homes = s.homes; views = slice_set s.views id w })
gives_step k s id next v w g at t =
    let long : 0 < length s.words = omega (arith, g.one) in
    let word : slice_index (slice_set s.words 0 next) 0 ≡ next = grind (arith, elements) in
    record {
      one = length-set s.words 0 next ∙ g.one;
      shares = let sums = total_set weight s.views id v w at in omega (arith, sums, g.shares, t.same);
      bound =
          let used = λ (x : View). x.used in
          let sums = total_set used s.views id v w at in
          let some-used = one_of_total used s.views id v at in
          let rest : ℕ = total used s.views - v.used in
          let all : rest + v.used ≡ total used s.views = omega (arith, some-used) in
          let after : total used (slice_set s.views id w) ≡ rest + w.used = omega (arith, sums, all) in
          let more = t.bound rest (subst (λ (n : ℕ). slice_index s.words 0 ≤ k.limit + n) (sym all) g.bound) in
          rw (word, after) more;
      each = λ x.
          let sums = total_set (λ (y : View). times x y.drawn) s.views id v w at in
          let before = g.each x in
          let step = t.each x in
          rw word (omega (arith, sums, before, step));
      idle = λ i u here light. ⊎_elim (λ p. subst (λ (y : View). y.drawn ≡ []) p.1 (t.idle (ap weight p.1 ∙ light))) (λ q. g.idle i u q.1 light) (at_set s.views id i w u here);
      limits = λ i u here heavy.
          ⊎_elim (λ p. sym (ap (λ (y : View). y.limit) p.1) ∙ t.limits (subst (λ (y : View). 0 < weight y) (sym p.1) heavy)) (λ q. g.limits i u q.1 heavy) (at_set s.views id i w u here);
      ended = λ i u here some-used.
          rw word (⊎_elim (λ p. t.ended (subst (λ (y : View). 0 < y.used) (sym p.1) some-used)) (λ q. let over = g.ended i u q.1 some-used in omega (arith, over, t.up)) (at_set s.views id i w u here));
      fits = g.fits;
    }

-- ---- a draw

draw_some : (k : Key) (n : ℕ) (v : View) → 0 < v.parts → v.limit ≡ k.limit → n < k.limit → (0 < v.used → k.limit ≤ n) → Steps k n (n + 1) v (view v.limit v.parts v.used (v.drawn ++ n ∷ []))
draw_some k n v part limit small ended = record {
  same = refl;
  up = omega arith;
  bound = λ u few. omega (arith, small);
  each = λ x. next_drawn x n v.drawn k.limit small;
  idle = λ light. absurd (omega (arith, light, part));
  limits = λ heavy. limit;
  ended = λ some-used. let over = ended some-used in omega (arith, over);
}

draw_none : (k : Key) (n : ℕ) (v : View) → 0 < v.parts → v.limit ≡ k.limit → k.limit ≤ n → Steps k n (n + 1) v (view v.limit (v.parts - 1) (v.used + 1) v.drawn)
draw_none k n v part limit over = record {
  same = omega (arith, part);
  up = omega arith;
  bound = λ u few. omega (arith, few);
  each = λ x. let same = none_drawn x n k.limit over in omega (arith, same);
  idle = λ light. absurd (omega (arith, light));
  limits = λ heavy. limit;
  ended = λ some-used. omega (arith, over);
}

draw_case : (k : Key) (n : ℕ) (v : View) (b : Bool) → nat_lt n v.limit ≡ b → 0 < v.parts → v.limit ≡ k.limit → (0 < v.used → k.limit ≤ n)
    → Steps k n (n + 1) v (if b then view v.limit v.parts v.used (v.drawn ++ n ∷ []) else view v.limit (v.parts - 1) (v.used + 1) v.drawn)
draw_case k n v true test part limit ended = draw_some k n v part limit (let small : n < v.limit = grind (arith, nat_tests) in omega (arith, small, limit)) ended
draw_case k n v false test part limit ended = draw_none k n v part limit (let over : v.limit ≤ n = grind (arith, nat_tests) in omega (arith, over, limit))

wraps : (k : Key) (s : Tables) → IsGiven k s → (slice_index s.words 0 + 1) % 2 ^ 64 ≡ slice_index s.words 0 + 1
wraps k s g =
    let used = used_within s.views in
    let small : slice_index s.words 0 + 1 < 2 ^ 64 = omega (arith, used, g.shares, g.bound, g.fits) in
    omega (arith, small)

pub gives_draw : (k : Key) (slots id : ℕ) (me : Me (Unit {0}) View) → 0 < me.0.parts
    → Allows (IsGiven k) slots id me 0 (λ n. (n + 1) % 2 ^ 64) (Draws (step slots 0 1 0 none) me)
gives_draw k slots id me part s g homes at small =
    let v = me.0 in
    let n = slice_index s.words 0 in
    let heavy : 0 < weight v = omega (arith, part) in
    let moved = gives_step k s id (n + 1) v (after_draw v n) g at (draw_case k n v (nat_lt n v.limit) refl part (g.limits id v at heavy) (g.ended id v at)) in
    (after_draw v n, keeps, tt, rw (wraps k s g) moved, refl)

-- ---- a split

pub gives_split : (k : Key) (id : ℕ) (v : View) → 2 ≤ v.parts → Splits (IsGiven k) id v (cut v) (view v.limit 1 0 [])
gives_split k id v parts s g at =
    let w = cut v in
    let new = view v.limit 1 0 [] in
    let heavy : 0 < weight v = omega (arith, parts) in
    let used = λ (x : View). x.used in
    record {
      one = g.one;
      shares =
          let sums = total_set weight s.views id v w at in
          let longer = total_snoc weight (slice_set s.views id w) new in
          omega (arith, sums, longer, g.shares, parts);
      bound =
          let sums = total_set used s.views id v w at in
          let longer = total_snoc used (slice_set s.views id w) new in
          omega (arith, sums, longer, g.bound);
      each = λ x.
          let sums = total_set (λ (y : View). times x y.drawn) s.views id v w at in
          let longer = total_snoc (λ (y : View). times x y.drawn) (slice_set s.views id w) new in
          let before = g.each x in
          omega (arith, sums, longer, before);
      idle = λ i u here light.
          ⊎_elim
          (λ h. ⊎_elim (λ p. absurd (let same : weight w ≡ weight u = ap weight p.1 in omega (arith, same, light, parts))) (λ q. g.idle i u q.1 light) (at_set s.views id i w u h))
          (λ p. absurd (let same : weight new ≡ weight u = ap weight p in omega (arith, same, light)))
          (at_snoc (slice_set s.views id w) new u i here);
      limits = λ i u here weighs.
          ⊎_elim
          (λ h. ⊎_elim (λ p. sym (ap (λ (y : View). y.limit) p.1) ∙ g.limits id v at heavy) (λ q. g.limits i u q.1 weighs) (at_set s.views id i w u h))
          (λ p. sym (ap (λ (y : View). y.limit) p) ∙ g.limits id v at heavy)
          (at_snoc (slice_set s.views id w) new u i here);
      ended = λ i u here some-used.
          ⊎_elim
          (λ h. ⊎_elim (λ p. g.ended id v at (subst (λ (y : View). 0 < y.used) (sym p.1) some-used)) (λ q. g.ended i u q.1 some-used) (at_set s.views id i w u h))
          (λ p. absurd (let same : new.used ≡ u.used = ap used p in omega (arith, same, some-used)))
          (at_snoc (slice_set s.views id w) new u i here);
      fits = g.fits;
    }

-- ---- a join

joined_case : (k : Key) (n : ℕ) (v o : View) (b : Bool) → nat_lt 0 v.used ≡ b → (0 < v.used → k.limit ≤ n) → (0 < o.used → k.limit ≤ n) → 0 < v.used + o.used → k.limit ≤ n
joined_case k n v o true test one other some-used = one (grind (arith, nat_tests))
joined_case k n v o false test one other some-used = other (let none : v.used ≡ 0 = grind (arith, nat_tests) in omega (arith, none, some-used))

pub gives_join : (k : Key) (id other : ℕ) (v o : View) → 0 < weight v → Joins (IsGiven k) id v other o (both v o) (view 0 0 0 [])
gives_join k id other v o heavy s g at apart there =
    let w = both v o in
    let spent = view 0 0 0 [] in
    let mid = slice_set s.views id w in
    let used = λ (x : View). x.used in
    let was : get_elem? s.views other ≡ some o = sym (set_else s.views id other w apart) ∙ there in
    record {
      one = g.one;
      shares =
          let first = total_set weight s.views id v w at in
          let second = total_set weight mid other o spent there in
          omega (arith, first, second, g.shares);
      bound =
          let first = total_set used s.views id v w at in
          let second = total_set used mid other o spent there in
          omega (arith, first, second, g.bound);
      each = λ x.
          let first = total_set (λ (y : View). times x y.drawn) s.views id v w at in
          let second = total_set (λ (y : View). times x y.drawn) mid other o spent there in
          let joined = times_append x v.drawn o.drawn in
          let before = g.each x in
          omega (arith, first, second, joined, before);
      idle = λ i u here light.
          ⊎_elim (λ p. subst (λ (y : View). y.drawn ≡ []) p.1 refl)
          (λ q. ⊎_elim (λ p. absurd (let same : weight w ≡ weight u = ap weight p.1 in omega (arith, same, light, heavy))) (λ r. g.idle i u r.1 light) (at_set s.views id i w u q.1))
          (at_set mid other i spent u here);
      limits = λ i u here weighs.
          ⊎_elim (λ p. absurd (let same : weight spent ≡ weight u = ap weight p.1 in omega (arith, same, weighs)))
          (λ q. ⊎_elim (λ p. sym (ap (λ (y : View). y.limit) p.1) ∙ g.limits id v at heavy) (λ r. g.limits i u r.1 weighs) (at_set s.views id i w u q.1))
          (at_set mid other i spent u here);
      ended = λ i u here some-used.
          ⊎_elim (λ p. absurd (let same : spent.used ≡ u.used = ap used p.1 in omega (arith, same, some-used)))
          (λ q. ⊎_elim (λ p. joined_case k (slice_index s.words 0) v o (nat_lt 0 v.used) refl (g.ended id v at) (g.ended other o was) (subst (λ (y : View). 0 < y.used) (sym p.1) some-used)) (λ r. g.ended i u r.1 some-used) (at_set s.views id i w u q.1))
          (at_set mid other i spent u here);
      fits = g.fits;
    }

-- ---- the end

-- what one seat has drawn stands below the word and the limit
pub once_of : (k : Key) (s : Tables) (id : ℕ) (v : View) (x : ℕ) → IsGiven k s → get_elem? s.views id ≡ some v → times x v.drawn ≤ once_below x (min (slice_index s.words 0) k.limit)
once_of k s id v x g at =
    let one = one_of_total (λ (y : View). times x y.drawn) s.views id v at in
    let all = g.each x in
    omega (arith, one, all)

nothing_drawn : (x : ℕ) (xs : List ℕ) → xs ≡ [] → times x xs ≡ 0
nothing_drawn x xs empty = ap (λ (l : List ℕ). times x l) empty

-- the seat with all of the allowance has drawn them all
pub all_of : (k : Key) (s : Tables) (id : ℕ) (v : View) (x : ℕ) → IsGiven k s → get_elem? s.views id ≡ some v → weight v ≡ k.seats → times x v.drawn ≡ once_below x (min (slice_index s.words 0) k.limit)
all_of k s id v x g at whole =
    let spent = view 0 0 0 [] in
    let count = λ (y : View). times x y.drawn in
    let rest = slice_set s.views id spent in
    let light = total_set weight s.views id v spent at in
    let counted = total_set count s.views id v spent at in
    let empty : total weight rest ≡ 0 = omega (arith, light, whole, g.shares) in
    let nothing : total count rest ≡ 0 =
    none_counts count rest empty (λ i u here idle. ⊎_elim (λ p. sym (ap count p.1)) (λ q. nothing_drawn x u.drawn (g.idle i u q.1 idle)) (at_set s.views id i spent u here)) in
    let all = g.each x in
    omega (arith, counted, nothing, all)

pub found : (ws : List ℕ) (n : ℕ) → get_elem? ws 0 ≡ some n → slice_index ws 0 ≡ n
found [] n at = absurd (some-ne-none n (sym at))
found (x ∷ ws) n at = some-injective x n at
