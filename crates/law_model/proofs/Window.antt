-- What a pass tells a tap, for every cable delay: the bursts that begin and end while time passes from one clock to the next.
use Rattle.std.proofs.Common.{◌≡◌, ℕ, ◌<◌, ◌≤◌, ◌⊎◌, inl, inr, ⊎_elim, Bool, true, false, not, ◌&&◌, ◌||◌, List, [], ◌∷◌, refl, sym, ap, ◌∙◌, subst, arith, Option, Some, None}
use Rattle.std.specs.Prelude.{nat_lt, nat_le, find}
use Rattle.std.specs.List.{list_any}
use Rattle.std.proofs.lemmas.Bool.{and_parts, ltb-true, leb-true, lt-ltb, le-leb, eq-eqb, eqb-true, cases_lt}
use Rattle.law_turn.specs.Spans.{Span}
use Rattle.law_model.specs.Medium.{begins_at, ends_at, lasts_through, burst_begins, burst_ends, begins_in, ends_in}
use Rattle.law_model.proofs.Cases.{by_test}

abbrev pub EachSpan : (Span → Type 0) → List Span → Type 0
EachSpan P [] = Unit {0}
EachSpan P (x ∷ xs) = P x × EachSpan P xs

pub spans_map : (P Q : Span → Type 0) (xs : List Span) → ((x : Span) → P x → Q x) → EachSpan P xs → EachSpan Q xs
spans_map P Q [] f all = tt
spans_map P Q (x ∷ xs) f all = (f x all.0, spans_map P Q xs f all.1)

pub spans_both : (P Q R : Span → Type 0) (xs : List Span) → ((x : Span) → P x → Q x → R x) → EachSpan P xs → EachSpan Q xs → EachSpan R xs
spans_both P Q R [] f a b = tt
spans_both P Q R (x ∷ xs) f a b = (f x a.0 b.0, spans_both P Q R xs f a.1 b.1)

-- ---- searches

pub any_false : (test : Span → Bool) (xs : List Span) → list_any test xs ≡ false → EachSpan (λ x. test x ≡ false) xs
any_false test [] h = tt
any_false test (x ∷ xs) h = let b = split (test x) (list_any test xs) h in (b.0, any_false test xs b.1)
  where
    split : (a b : Bool) → (a || b) ≡ false → (a ≡ false) × (b ≡ false)
    split true b h = absurd cc
    split false b h = (refl, h)

pub all_false : (test : Span → Bool) (xs : List Span) → EachSpan (λ x. test x ≡ false) xs → list_any test xs ≡ false
all_false test [] h = refl
all_false test (x ∷ xs) h = ap (λ b. b || list_any test xs) h.0 ∙ all_false test xs h.1

pub found : (P : Span → Type 0) (test : Span → Bool) (xs : List Span) (x : Span) → EachSpan P xs → find test xs ≡ Some x → (test x ≡ true) × P x
found P test [] x all e = absurd cc
found P test (y ∷ ys) x all e =
    by_test (λ (o : Option Span). o ≡ Some x → (test x ≡ true) × P x) (test y) (Some y) (find test ys)
    (λ passes same. subst (λ z. (test z ≡ true) × P z) (let s : y ≡ x = cc in s) (passes, all.0)) (λ _ e. found P test ys x all.1 e) e

pub not_found : (test : Span → Bool) (xs : List Span) → find test xs ≡ None → EachSpan (λ x. test x ≡ false) xs
not_found test [] e = tt
not_found test (y ∷ ys) e =
    by_test (λ (o : Option Span). o ≡ None → EachSpan (λ x. test x ≡ false) (y ∷ ys)) (test y) (Some y) (find test ys)
    (λ _ e. absurd cc) (λ fails e. (fails, not_found test ys e)) e

-- ---- the window

-- it lasts for some time, and no end is passed
abbrev pub Solid : (from to : ℕ) → Span → Type 0
Solid from to x = (x.begin < x.end) × (from < x.end → to ≤ x.end)

abbrev pub SolidO : ℕ → ℕ → Option Span → Type 0
SolidO now to None = Unit {0}
SolidO now to (Some x) = Solid now to x

abbrev pub OverSince : (now q : ℕ) → List Span → Type 0
OverSince now q xs = EachSpan (λ x. (now ≤ x.begin) ⊎ (x.end ≤ q)) xs

abbrev pub NoBegin : (from to : ℕ) → List Span → Type 0
NoBegin from to xs = EachSpan (λ x. (x.begin < from) ⊎ (to ≤ x.begin)) xs

abbrev pub Opened : ℕ → List Span → Type 0
Opened to xs = (q : ℕ) → OverSince to q xs → to < q

abbrev pub ClosedAt : ℕ → List Span → Type 0
ClosedAt to xs = OverSince to to xs × ((q : ℕ) → OverSince to q xs → to ≤ q)

abbrev pub SensesS : Bool → ℕ → List Span → Type 0
SensesS true from xs = Opened from xs
SensesS false from xs = OverSince from from xs

-- the first that begins in the window
record Earliest (from to : ℕ) (xs : List Span) : Type 0 where
  m : ℕ
  low : from ≤ m
  high : m < to
  begins : list_any (begins_at m) xs ≡ true
  least : EachSpan (λ x. (x.begin < from) ⊎ (m ≤ x.begin)) xs

pub or_right : (a b : Bool) → b ≡ true → (a || b) ≡ true
or_right true b e = refl
or_right false b e = e

begins_first : (x : Span) (xs : List Span) → list_any (begins_at x.begin) (x ∷ xs) ≡ true
begins_first x xs = ap (λ b. b || list_any (begins_at x.begin) xs) (eq-eqb x.begin x.begin refl)

earliest : (from to : ℕ) (xs : List Span) → NoBegin from to xs ⊎ Earliest from to xs
earliest from to [] = inl tt
earliest from to (x ∷ xs) =
    ⊎_elim
    (λ (a : x.begin < from). outside (inl a) (λ m _. inl a) (earliest from to xs))
    (λ (a : from ≤ x.begin). ⊎_elim (λ (b : x.begin < to). inside a b (earliest from to xs)) (λ (b : to ≤ x.begin). outside (inr b) (λ m lt. inr (omega arith)) (earliest from to xs)) (cases_lt x.begin to))
    (cases_lt x.begin from)
  where
    outside : (x.begin < from) ⊎ (to ≤ x.begin) → ((m : ℕ) → m < to → (x.begin < from) ⊎ (m ≤ x.begin)) → NoBegin from to xs ⊎ Earliest from to xs → NoBegin from to (x ∷ xs) ⊎ Earliest from to (x ∷ xs)
    outside h g (inl none) = inl (h, none)
    outside h g (inr e) = inr (record { m = e.m; low = e.low; high = e.high; begins = or_right (begins_at e.m x) (list_any (begins_at e.m) xs) e.begins; least = (g e.m e.high, e.least) })

    inside : from ≤ x.begin → x.begin < to → NoBegin from to xs ⊎ Earliest from to xs → NoBegin from to (x ∷ xs) ⊎ Earliest from to (x ∷ xs)
    inside a b (inl none) = inr (record {
      m = x.begin;
      low = a;
      high = b;
      begins = begins_first x xs;
      least = (inr (omega arith), spans_map (λ y. (y.begin < from) ⊎ (to ≤ y.begin)) (λ y. (y.begin < from) ⊎ (x.begin ≤ y.begin)) xs (λ y h. ⊎_elim (λ (u : y.begin < from). inl u) (λ (v : to ≤ y.begin). inr (omega arith)) h) none);
    })
    inside a b (inr e) =
        ⊎_elim (λ (le : e.m < x.begin). inr (record { m = e.m; low = e.low; high = e.high; begins = or_right (begins_at e.m x) (list_any (begins_at e.m) xs) e.begins; least = (inr (omega arith), e.least) }))
        (λ (ge : x.begin ≤ e.m). inr (record {
          m = x.begin;
          low = a;
          high = b;
          begins = begins_first x xs;
          least = (inr (omega arith), spans_map (λ y. (y.begin < from) ⊎ (e.m ≤ y.begin)) (λ y. (y.begin < from) ⊎ (x.begin ≤ y.begin)) xs (λ y h. ⊎_elim (λ (u : y.begin < from). inl u) (λ (v : e.m ≤ y.begin). inr (omega arith)) h) e.least);
        }))
        (cases_lt e.m x.begin)

one_true : (a b : Bool) → (a ≡ true → ⊥) → (b ≡ true → ⊥) → (a || b) ≡ true → ⊥
one_true true b f g e = f refl
one_true false b f g e = g e

pub any_true : (test : Span → Bool) (xs : List Span) → list_any test xs ≡ true → EachSpan (λ x. test x ≡ true → ⊥) xs → ⊥
any_true test [] e all = cc
any_true test (x ∷ xs) e all = one_true (test x) (list_any test xs) all.0 (λ h. any_true test xs h all.1) e

pub through_false : (m : ℕ) (y : Span) → (m ≤ y.begin) ⊎ (y.end ≤ m) → lasts_through m y ≡ false
through_false m y h = grind (arith, h)

pub not_through : (m : ℕ) (y : Span) → lasts_through m y ≡ false → (m ≤ y.begin) ⊎ (y.end ≤ m)
not_through m y h = ⊎_elim (λ (a : y.begin < m). ⊎_elim (λ (b : m < y.end). absurd (grind (arith, h, a, b))) (λ (b : y.end ≤ m). inr b) (cases_lt m y.end)) (λ (a : m ≤ y.begin). inl a) (cases_lt y.begin m)

pub both_true : (a b : Bool) → a ≡ true → b ≡ true → (a && b) ≡ true
both_true true b e f = f
both_true false b e f = absurd cc

pub not_false : (b : Bool) → not b ≡ true → b ≡ false
not_false true e = absurd cc
not_false false e = refl

not_of : (b : Bool) → b ≡ false → not b ≡ true
not_of true e = absurd cc
not_of false e = refl

-- what begins in the window begins a burst that is the first
pub record BeginFound (from to : ℕ) (xs : List Span) (x : Span) : Type 0 where
  pub low : from ≤ x.begin
  pub high : x.begin < to
  pub none : EachSpan (λ y. (x.begin ≤ y.begin) ⊎ (y.end ≤ x.begin)) xs
  pub solid : Solid from to x

pub begin_found : (from to : ℕ) (xs : List Span) (x : Span) → EachSpan (Solid from to) xs → find (begins_in xs from to) xs ≡ Some x → BeginFound from to xs x
begin_found from to xs x solid e =
    let f = found (Solid from to) (begins_in xs from to) xs x solid e in
    let both = and_parts (nat_le from x.begin && nat_lt x.begin to) (burst_begins xs x.begin) f.0 in
    let window = and_parts (nat_le from x.begin) (nat_lt x.begin to) both.0 in
    let burst = and_parts (list_any (begins_at x.begin) xs) (not (list_any (lasts_through x.begin) xs)) both.1 in
    record {
      low = leb-true from x.begin window.0;
      high = ltb-true x.begin to window.1;
      none = spans_map (λ y. lasts_through x.begin y ≡ false) (λ y. (x.begin ≤ y.begin) ⊎ (y.end ≤ x.begin)) xs (λ y h. not_through x.begin y h) (any_false (lasts_through x.begin) xs (not_false (list_any (lasts_through x.begin) xs) burst.1));
      solid = f.1;
    }

no_begin : (from to : ℕ) (xs : List Span) → OverSince from from xs → find (begins_in xs from to) xs ≡ None → NoBegin from to xs
no_begin from to xs over e = by (earliest from to xs)
  where
    fails : EachSpan (λ x. begins_in xs from to x ≡ false) xs
    fails = not_found (begins_in xs from to) xs e

    none_lasts : (m : ℕ) → from ≤ m → EachSpan (λ x. (x.begin < from) ⊎ (m ≤ x.begin)) xs → list_any (lasts_through m) xs ≡ false
    none_lasts m low least =
        all_false (lasts_through m) xs (spans_both (λ y. (from ≤ y.begin) ⊎ (y.end ≤ from)) (λ y. (y.begin < from) ⊎ (m ≤ y.begin)) (λ y. lasts_through m y ≡ false) xs
        (λ y a b. through_false m y
        (⊎_elim (λ (u : y.begin < from). ⊎_elim (λ (v : from ≤ y.begin). absurd (omega arith)) (λ (v : y.end ≤ from). inr (omega arith)) a) (λ (u : m ≤ y.begin). inl u) b))
        over least)

    by : NoBegin from to xs ⊎ Earliest from to xs → NoBegin from to xs
    by (inl none) = none
    by (inr f) =
        absurd (any_true (begins_at f.m) xs f.begins
        (spans_map (λ x. begins_in xs from to x ≡ false) (λ x. begins_at f.m x ≡ true → ⊥) xs
        (λ x no_ at. let same : x.begin ≡ f.m = eqb-true x.begin f.m at in
        let yes_ : begins_in xs from to x ≡ true = subst (λ m. (nat_le from m && nat_lt m to && burst_begins xs m) ≡ true) (sym same)
        (both_true (nat_le from f.m && nat_lt f.m to) (burst_begins xs f.m) (both_true (nat_le from f.m) (nat_lt f.m to) (le-leb from f.m f.low) (lt-ltb f.m to f.high))
        (both_true (list_any (begins_at f.m) xs) (not (list_any (lasts_through f.m) xs)) f.begins (not_of (list_any (lasts_through f.m) xs) (none_lasts f.m f.low f.least)))) in
        let wrong : true ≡ false = sym yes_ ∙ no_ in cc) fails))

pub end_found : (from to : ℕ) (xs : List Span) (y : Span) → EachSpan (Solid from to) xs → find (ends_in xs from to) xs ≡ Some y → (y.end ≡ to) × ClosedAt to xs
end_found from to xs y solid e =
    let f = found (Solid from to) (ends_in xs from to) xs y solid e in
    let both = and_parts (nat_lt from y.end && nat_le y.end to) (burst_ends xs y.end) f.0 in
    let window = and_parts (nat_lt from y.end) (nat_le y.end to) both.0 in
    let low : from < y.end = ltb-true from y.end window.0 in
    let same : y.end ≡ to = omega (arith, leb-true y.end to window.1, f.1.1 low) in
    let burst = and_parts (list_any (ends_at y.end) xs) (not (list_any (lasts_through y.end) xs)) both.1 in
    let none = any_false (lasts_through y.end) xs (not_false (list_any (lasts_through y.end) xs) burst.1) in (
      same,
      (
        spans_map (λ z. lasts_through y.end z ≡ false) (λ z. (to ≤ z.begin) ⊎ (z.end ≤ to)) xs (λ z h. subst (λ m. (m ≤ z.begin) ⊎ (z.end ≤ m)) same (not_through y.end z h)) none,
        λ q over. let g = (found (λ z. (to ≤ z.begin) ⊎ (z.end ≤ q)) (ends_in xs from to) xs y over e).1 in
            ⊎_elim (λ (a : to ≤ y.begin). absurd (omega (arith, same, f.1.0))) (λ (b : y.end ≤ q). omega (arith, same)) g,
      ),
    )

no_end : (from to q : ℕ) (xs : List Span) → from < to → EachSpan (Solid from to) xs → find (ends_in xs from to) xs ≡ None → OverSince to q xs → q ≤ to → OverSince to from xs
no_end from to q xs later solid e over le = by (list_any (ends_at to) xs) refl
  where
    rest : EachSpan (λ z. z.end ≡ to → ⊥) xs → OverSince to from xs
    rest other =
        spans_both (λ z. (to ≤ z.begin) ⊎ (z.end ≤ q)) (λ z. Solid from to z × (z.end ≡ to → ⊥)) (λ z. (to ≤ z.begin) ⊎ (z.end ≤ from)) xs
        (λ z a b. ⊎_elim (λ (u : to ≤ z.begin). inl u)
        (λ (u : z.end ≤ q). ⊎_elim (λ (v : from < z.end). absurd (b.1 (omega (arith, b.0.1 v)))) (λ (v : z.end ≤ from). inr v) (cases_lt from z.end)) a)
        over (spans_both (Solid from to) (λ z. z.end ≡ to → ⊥) (λ z. Solid from to z × (z.end ≡ to → ⊥)) xs (λ z a b. (a, b)) solid other)

    none : list_any (lasts_through to) xs ≡ false
    none = all_false (lasts_through to) xs (spans_map (λ z. (to ≤ z.begin) ⊎ (z.end ≤ q)) (λ z. lasts_through to z ≡ false) xs
        (λ z a. through_false to z (⊎_elim (λ (u : to ≤ z.begin). inl u) (λ (u : z.end ≤ q). inr (omega arith)) a)) over)

    by : (b : Bool) → list_any (ends_at to) xs ≡ b → OverSince to from xs
    by false f = rest (spans_map (λ z. ends_at to z ≡ false) (λ z. z.end ≡ to → ⊥) xs (λ z h same. let yes_ : ends_at to z ≡ true = eq-eqb z.end to same in let wrong : true ≡ false = sym yes_ ∙ h in cc) (any_false (ends_at to) xs f))
    by true f = rest (spans_map (λ z. ends_in xs from to z ≡ false) (λ z. z.end ≡ to → ⊥) xs
        (λ z no_ same.
        let yes_ : ends_in xs from to z ≡ true = subst (λ m. (nat_lt from m && nat_le m to && burst_ends xs m) ≡ true) (sym same)
        (both_true (nat_lt from to && nat_le to to) (burst_ends xs to) (both_true (nat_lt from to) (nat_le to to) (lt-ltb from to later) (le-leb to to (omega arith)))
        (both_true (list_any (ends_at to) xs) (not (list_any (lasts_through to) xs)) f (not_of (list_any (lasts_through to) xs) none))) in
        let wrong : true ≡ false = sym yes_ ∙ no_ in cc)
        (not_found (ends_in xs from to) xs e))

-- what a pass brings, by whether the tap was busy, and the two searches
abbrev pub WindowOf : (from to : ℕ) (xs : List Span) → Bool → Option Span → Option Span → Type 0
WindowOf from to xs false None None = NoBegin from to xs
WindowOf from to xs false (Some x) None = (from ≤ x.begin) × (x.begin < to) × Opened to xs
WindowOf from to xs false None (Some y) = ⊥
WindowOf from to xs false (Some x) (Some y) = (from ≤ x.begin) × (x.begin < to) × (y.end ≡ to) × ClosedAt to xs
WindowOf from to xs true None None = Opened to xs
WindowOf from to xs true (Some x) e = ⊥
WindowOf from to xs true None (Some y) = (y.end ≡ to) × ClosedAt to xs

pub window : (from to : ℕ) (xs : List Span) (busy : Bool) (b e : Option Span) → from < to → EachSpan (Solid from to) xs → SensesS busy from xs
    → find (begins_in xs from to) xs ≡ b → find (ends_in xs from to) xs ≡ e → WindowOf from to xs busy b e
window from to xs false None None later solid senses fb fe = no_begin from to xs senses fb
window from to xs false (Some x) None later solid senses fb fe =
    let f = begin_found from to xs x solid fb in (
      f.low,
      f.high,
      λ q over. ⊎_elim (λ (a : to < q). a)
          (λ (a : q ≤ to).
          let none = no_end from to q xs later solid fe over a in
          let here = (found (λ z. (to ≤ z.begin) ⊎ (z.end ≤ from)) (begins_in xs from to) xs x none fb).1 in
          absurd (⊎_elim (λ (u : to ≤ x.begin). omega (arith, f.high)) (λ (u : x.end ≤ from). omega (arith, f.low, f.solid.0)) here))
          (cases_lt to q),
    )
window from to xs false None (Some y) later solid senses fb fe =
    let none = no_begin from to xs senses fb in
    let f = found (λ z. ((z.begin < from) ⊎ (to ≤ z.begin)) × ((from ≤ z.begin) ⊎ (z.end ≤ from)) × Solid from to z) (ends_in xs from to) xs y
    (spans_both (λ z. (z.begin < from) ⊎ (to ≤ z.begin)) (λ z. ((from ≤ z.begin) ⊎ (z.end ≤ from)) × Solid from to z) (λ z. ((z.begin < from) ⊎ (to ≤ z.begin)) × ((from ≤ z.begin) ⊎ (z.end ≤ from)) × Solid from to z) xs (λ z a b. (a, b.0, b.1)) none
    (spans_both (λ z. (from ≤ z.begin) ⊎ (z.end ≤ from)) (Solid from to) (λ z. ((from ≤ z.begin) ⊎ (z.end ≤ from)) × Solid from to z) xs (λ z a b. (a, b)) senses solid)) fe in
    let same = (end_found from to xs y solid fe).0 in
    omega (arith, f.1.0, f.1.1, f.1.2, same, later)
window from to xs false (Some x) (Some y) later solid senses fb fe =
    let f = begin_found from to xs x solid fb in
    let g = end_found from to xs y solid fe in (f.low, f.high, g.0, g.1)
window from to xs true None None later solid senses fb fe = λ q over. ⊎_elim (λ (a : to < q). a)
    (λ (a : q ≤ to).
    let none = no_end from to q xs later solid fe over a in
    let early : OverSince from from xs = spans_map (λ z. (to ≤ z.begin) ⊎ (z.end ≤ from)) (λ z. (from ≤ z.begin) ⊎ (z.end ≤ from)) xs (λ z h. ⊎_elim (λ (u : to ≤ z.begin). inl (omega arith)) (λ (u : z.end ≤ from). inr u) h) none in
    let h = senses from early in omega (arith, h))
    (cases_lt to q)
window from to xs true (Some x) e later solid senses fb fe =
    let f = begin_found from to xs x solid fb in
    let early : OverSince from from xs = spans_both (λ y. (x.begin ≤ y.begin) ⊎ (y.end ≤ x.begin)) (Solid from to) (λ z. (from ≤ z.begin) ⊎ (z.end ≤ from)) xs
    (λ y a s. ⊎_elim (λ (u : x.begin ≤ y.begin). inl (omega (arith, f.low)))
    (λ (u : y.end ≤ x.begin). ⊎_elim (λ (v : from < y.end). absurd (omega (arith, s.1 v, f.high))) (λ (v : y.end ≤ from). inr v) (cases_lt from y.end)) a) f.none solid in
    let h = senses from early in omega (arith, h)
window from to xs true None (Some y) later solid senses fb fe = end_found from to xs y solid fe
