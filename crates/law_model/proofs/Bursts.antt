-- Begins and Ends of the bursts of a tap take turns.
use Rattle.std.proofs.Common.{◌≡◌, ℕ, ◌<◌, ◌≤◌, ◌⊎◌, inl, inr, ⊎_elim, List, [], ◌∷◌, ◌++◌, Bool, true, false, if◌then◌else◌, not, ◌==◌, ◌&&◌, ◌||◌, refl, ap, sym, ◌∙◌, subst, arith, Option, Some, None}
use Rattle.std.specs.Prelude.{nat_lt, nat_le, is_some, find, IfSome}
use Rattle.std.specs.List.{list_any}
use Rattle.std.specs.Option.{option_map}
use Rattle.std.proofs.lemmas.Bool.{and_parts, leb-true, ltb-true, le-leb, lt-ltb, ne_eqb, eqb-true, cases_lt}
use Rattle.std.proofs.lemmas.Bool.Decides.{nat_tests}
use Rattle.law_turn.specs.Spans.{Span}
use Rattle.law_turn.specs.Marks.{Mark, End, Alternates}
use Rattle.law_model.specs.Trace.{Entry}
use Rattle.law_model.specs.Medium.{Tap, sensed, begins_at, ends_at, lasts_through, burst_begins, burst_ends, burst_characters, begins_in, ends_in, begin_mark, end_mark, marks_between}
use Rattle.law_model.specs.Laws.{is_open, begin_of, marks_of_pass}
use Rattle.law_model.proofs.Cases.{by_test}
use Rattle.law_model.proofs.Window.{EachSpan, spans_map, Solid, OverSince, NoBegin, Opened, SensesS, WindowOf, window, begin_found, any_false, all_false, any_true, not_false, not_found, through_false, not_through, both_true}

-- ---- what is open

senses_by : (m : ℕ) (xs : List Span) (b : Bool) → is_open xs m ≡ b → SensesS b m xs
senses_by m xs false shut = spans_map (λ x. lasts_through m x ≡ false) (λ x. (m ≤ x.begin) ⊎ (x.end ≤ m)) xs (λ x h. not_through m x h) (any_false (lasts_through m) xs shut)
senses_by m xs true lasts =
    λ q over. ⊎_elim (λ (later : m < q). later)
    (λ (early : q ≤ m). absurd (any_true (lasts_through m) xs lasts
    (spans_map (λ x. (m ≤ x.begin) ⊎ (x.end ≤ q)) (λ x. lasts_through m x ≡ true → ⊥) xs
    (λ x h through. let shut : lasts_through m x ≡ false = through_false m x (⊎_elim (λ (a : m ≤ x.begin). inl a) (λ (a : x.end ≤ q). inr (omega arith)) h) in
    let wrong : true ≡ false = sym through ∙ shut in cc) over)))
    (cases_lt m q)

pub senses : (m : ℕ) (xs : List Span) → SensesS (is_open xs m) m xs
senses m xs = senses_by m xs (is_open xs m) refl

pub shut_at : (m : ℕ) (xs : List Span) → OverSince m m xs → is_open xs m ≡ false
shut_at m xs over = all_false (lasts_through m) xs (spans_map (λ x. (m ≤ x.begin) ⊎ (x.end ≤ m)) (λ x. lasts_through m x ≡ false) xs (λ x h. through_false m x h) over)

open_by : (m : ℕ) (xs : List Span) → Opened m xs → (b : Bool) → is_open xs m ≡ b → is_open xs m ≡ true
open_by m xs opened true is = is
open_by m xs opened false is = absurd (let wrong = opened m (senses_by m xs false is) in omega (arith, wrong))

pub open_at : (m : ℕ) (xs : List Span) → Opened m xs → is_open xs m ≡ true
open_at m xs opened = open_by m xs opened (is_open xs m) refl

-- what was over, and begins no more, is over later
still_over : (from to : ℕ) (xs : List Span) → from < to → OverSince from from xs → NoBegin from to xs → OverSince to to xs
still_over from to [] later over none = tt
still_over from to (x ∷ xs) later over none = (
  ⊎_elim (λ (a : x.begin < from). ⊎_elim (λ (b : from ≤ x.begin). absurd (omega arith)) (λ (b : x.end ≤ from). inr (omega arith)) over.0) (λ (a : to ≤ x.begin). inl a) none.0,
  still_over from to xs later over.1 none.1,
)

-- ---- the marks of a window

alternates_by : (delay : ℕ) (tap : ℕ) (t : Tap) (trace : List Entry) (from to : ℕ) (xs : List Span) (busy : Bool) (b e : Option Span) → from < to → SensesS busy from xs → WindowOf from to xs busy b e
    → Alternates busy (begin_mark to b ++ end_mark delay tap t trace to e) (is_open xs to)
alternates_by delay tap t trace from to xs false None None later over w = sym (shut_at to xs (still_over from to xs later over w))
alternates_by delay tap t trace from to xs false (Some x) None later over w = sym (open_at to xs w.2)
alternates_by delay tap t trace from to xs false None (Some y) later over w = absurd w
alternates_by delay tap t trace from to xs false (Some x) (Some y) later over w = sym (shut_at to xs w.3.0)
alternates_by delay tap t trace from to xs true None None later over w = sym (open_at to xs w)
alternates_by delay tap t trace from to xs true (Some x) e later over w = absurd w
alternates_by delay tap t trace from to xs true None (Some y) later over w = sym (shut_at to xs w.1.0)

pub alternates-spans : (delay : ℕ) (tap : ℕ) (t : Tap) (trace : List Entry) (from to : ℕ) (spans : List Span) → from < to → EachSpan (Solid from to) spans
    → Alternates (is_open spans from) (begin_mark to (find (begins_in spans from to) spans) ++ end_mark delay tap t trace to (find (ends_in spans from to) spans)) (is_open spans to)
alternates-spans delay tap t trace from to spans later solid =
    let b = find (begins_in spans from to) spans in
    let e = find (ends_in spans from to) spans in
    alternates_by delay tap t trace from to spans (is_open spans from) b e later (senses from spans) (window from to spans (is_open spans from) b e later solid (senses from spans) refl refl)

-- ---- the marks of a window, exactly

-- a stretch that a search finds stands among those that are solid
pub found_solid : (t u : ℕ) (test : Span → Bool) (xs : List Span) → EachSpan (Solid t u) xs
    → IfSome (find test xs) (λ x. (test x ≡ true) × Solid t u x)
found_solid t u test [] solid = tt
found_solid t u test (x ∷ xs) solid =
    by_test (λ (o : Option Span). IfSome o (λ x. (test x ≡ true) × Solid t u x)) (test x) (Some x) (find test xs)
    (λ passes. (passes, solid.0)) (λ _. found_solid t u test xs solid.1)

is_some-cond : {X : Type 0} (b : Bool) (x : X) (o : Option X) → is_some (if b then Some x else o) ≡ (b || is_some o)
is_some-cond {X} true x o = refl
is_some-cond {X} false x o = refl

pub is_some-find : {X : Type 0} (test : X → Bool) (xs : List X) → is_some (find test xs) ≡ list_any test xs
is_some-find {X} test [] = refl
is_some-find {X} test (x ∷ xs) =
    is_some-cond (test x) x (find test xs) ∙ ap (λ (b : Bool). test x || b) (is_some-find test xs)

-- tests that agree on each span agree on the list
agree : (t u : ℕ) (f g : Span → Bool) → ((x : Span) → Solid t u x → f x ≡ g x) → (xs : List Span) → EachSpan (Solid t u) xs → list_any f xs ≡ list_any g xs
agree t u f g same [] solid = refl
agree t u f g same (x ∷ xs) solid =
    ap (λ (b : Bool). b || list_any f xs) (same x solid.0) ∙ ap (λ (b : Bool). g x || b) (agree t u f g same xs solid.1)

or_and : (a b c : Bool) → ((a && c) || (b && c)) ≡ ((a || b) && c)
or_and true true true = refl
or_and true true false = refl
or_and true false true = refl
or_and true false false = refl
or_and false b c = refl

list_any-and : {X : Type 0} (f : X → Bool) (c : Bool) (xs : List X) → list_any (λ x. f x && c) xs ≡ (list_any f xs && c)
list_any-and {X} f c [] = refl
list_any-and {X} f c (x ∷ xs) = ap (λ (b : Bool). (f x && c) || b) (list_any-and f c xs) ∙ or_and (f x) (list_any f xs) c

and_again : (a b : Bool) → (a && (a && b)) ≡ (a && b)
and_again true b = refl
and_again false b = refl

ends_in_numbers : (t u e : ℕ) → t < u → (t < e → u ≤ e) → (burst : ℕ → Bool) → (nat_lt t e && nat_le e u && burst e) ≡ ((e == u) && burst u)
ends_in_numbers t u e later solid burst = grind (arith, nat_tests)

ends-found : (from to : ℕ) (spans : List Span) → from < to → EachSpan (Solid from to) spans → is_some (find (ends_in spans from to) spans) ≡ burst_ends spans to
ends-found from to spans later solid =
    is_some-find (ends_in spans from to) spans
    ∙ agree from to (ends_in spans from to) (λ x. ends_at to x && burst_ends spans to) (λ x s. ends_in_numbers from to x.end later s.1 (burst_ends spans)) spans solid
    ∙ list_any-and (ends_at to) (burst_ends spans to) spans
    ∙ and_again (list_any (ends_at to) spans) (not (list_any (lasts_through to) spans))

end_mark-exact : (delay : ℕ) (tap : ℕ) (t : Tap) (trace : List Entry) (from to : ℕ) (spans : List Span) (o : Option Span) (b : Bool) → is_some o ≡ b
    → IfSome o (λ x. (ends_in spans from to x ≡ true) × Solid from to x)
    → end_mark delay tap t trace to o ≡ (if b then End to to (burst_characters delay tap t trace to) ∷ [] else [])
end_mark-exact delay tap t trace from to spans None true e found = absurd cc
end_mark-exact delay tap t trace from to spans None false e found = refl
end_mark-exact delay tap t trace from to spans (Some x) true e found =
    let both = and_parts (nat_lt from x.end && nat_le x.end to) (burst_ends spans x.end) found.0 in
    let window = and_parts (nat_lt from x.end) (nat_le x.end to) both.0 in
    let after : from < x.end = ltb-true from x.end window.0 in
    let same : x.end ≡ to = omega (arith, leb-true x.end to window.1, found.1.1 after) in
    ap (λ (m : ℕ). End m to (burst_characters delay tap t trace m) ∷ []) same
end_mark-exact delay tap t trace from to spans (Some x) false e found = absurd cc

-- when the burst begins that a pass tells of
abbrev pub begin_in : List Span → ℕ → ℕ → Option ℕ
begin_in spans from to = option_map (λ (x : Span). x.begin) (find (begins_in spans from to) spans)

begin_mark-of : (to : ℕ) (o : Option Span) → begin_mark to o ≡ begin_of to (option_map (λ (x : Span). x.begin) o)
begin_mark-of to None = refl
begin_mark-of to (Some x) = refl

pub marks_between-exact : (delay : ℕ) (tap : ℕ) (t : Tap) (trace : List Entry) (from to : ℕ) → from < to → EachSpan (Solid from to) (sensed delay tap t.since trace)
    → marks_between delay tap t trace from to ≡ marks_of_pass delay tap t trace (begin_in (sensed delay tap t.since trace) from to) to
marks_between-exact delay tap t trace from to later solid =
    let spans = sensed delay tap t.since trace in
    ap (λ (ms : List Mark). ms ++ end_mark delay tap t trace to (find (ends_in spans from to) spans)) (begin_mark-of to (find (begins_in spans from to) spans))
    ∙ ap (λ (ms : List Mark). begin_of to (begin_in spans from to) ++ ms)
    (end_mark-exact delay tap t trace from to spans (find (ends_in spans from to) spans) (burst_ends spans to) (ends-found from to spans later solid) (found_solid from to (ends_in spans from to) spans solid))

-- ---- where bursts begin

begins_of : (from to : ℕ) (xs : List Span) (o : Option Span) → IfSome o (λ x. (begins_in xs from to x ≡ true) × Solid from to x)
    → IfSome (option_map (λ (x : Span). x.begin) o) (λ m. (from ≤ m) × (m < to) × (burst_begins xs m ≡ true))
begins_of from to xs None found = tt
begins_of from to xs (Some x) found =
    let both = and_parts (nat_le from x.begin && nat_lt x.begin to) (burst_begins xs x.begin) found.0 in
    let window = and_parts (nat_le from x.begin) (nat_lt x.begin to) both.0 in
    (leb-true from x.begin window.0, ltb-true x.begin to window.1, both.1)

pub begins-in : (from to : ℕ) (xs : List Span) → EachSpan (Solid from to) xs → IfSome (begin_in xs from to) (λ m. (from ≤ m) × (m < to) × (burst_begins xs m ≡ true))
begins-in from to xs solid = begins_of from to xs (find (begins_in xs from to) xs) (found_solid from to (begins_in xs from to) xs solid)

-- a burst that begins at a moment: something begins then, and nothing lasts through
burst_parts : (xs : List Span) (m : ℕ) → burst_begins xs m ≡ true → (list_any (begins_at m) xs ≡ true) × (list_any (lasts_through m) xs ≡ false)
burst_parts xs m burst =
    let parts = and_parts (list_any (begins_at m) xs) (not (list_any (lasts_through m) xs)) burst in (parts.0, not_false (list_any (lasts_through m) xs) parts.1)

-- of two bursts that begin in a window, neither begins before the other
not_sooner : (from to a b : ℕ) (xs : List Span) → from ≤ a → a < b → b < to → EachSpan (Solid from to) xs → list_any (begins_at a) xs ≡ true → list_any (lasts_through b) xs ≡ false → ⊥
not_sooner from to a b [] low less high solid begins none = cc
not_sooner from to a b (x ∷ xs) low less high solid begins none =
    let through = any_false (lasts_through b) (x ∷ xs) none in
    any_true (begins_at a) (x ∷ xs) begins (none_at (x ∷ xs) solid through)
  where
    none_at : (ys : List Span) → EachSpan (Solid from to) ys → EachSpan (λ y. lasts_through b y ≡ false) ys → EachSpan (λ y. begins_at a y ≡ true → ⊥) ys
    none_at [] solid through = tt
    none_at (y ∷ ys) solid through = (
      λ at. let same : y.begin ≡ a = eqb-true y.begin a at in
          ⊎_elim (λ (h : b ≤ y.begin). omega (arith, same, less)) (λ (h : y.end ≤ b). omega (arith, same, low, high, h, solid.0.0, solid.0.1 (omega (arith, same, low, solid.0.0)))) (not_through b y through.0),
      none_at ys solid.1 through.1,
    )

pub one-begins : (from to : ℕ) (xs : List Span) → EachSpan (Solid from to) xs → (m : ℕ) → from ≤ m → m < to → burst_begins xs m ≡ true → begin_in xs from to ≡ Some m
one-begins from to xs solid m low high burst = by (find (begins_in xs from to) xs) refl
  where
    shut_before : (ys : List Span) (n : ℕ) → EachSpan (λ y. (n ≤ y.begin) ⊎ (y.end ≤ n)) ys → list_any (lasts_through n) ys ≡ false
    shut_before ys n none = all_false (lasts_through n) ys (spans_map (λ y. (n ≤ y.begin) ⊎ (y.end ≤ n)) (λ y. lasts_through n y ≡ false) ys (λ y h. through_false n y h) none)

    found_begins : (x : Span) → find (begins_in xs from to) xs ≡ Some x → list_any (begins_at x.begin) xs ≡ true
    found_begins x found =
        let f = begins_of from to xs (Some x) (subst (λ o. IfSome o (λ x. (begins_in xs from to x ≡ true) × Solid from to x)) found (found_solid from to (begins_in xs from to) xs solid)) in
        (burst_parts xs x.begin f.2).0

    by : (o : Option Span) → find (begins_in xs from to) xs ≡ o → option_map (λ (x : Span). x.begin) o ≡ Some m
    by None none =
        absurd (any_true (begins_at m) xs (burst_parts xs m burst).0
        (spans_map (λ x. begins_in xs from to x ≡ false) (λ x. begins_at m x ≡ true → ⊥) xs
        (λ x no_ at. let same : x.begin ≡ m = eqb-true x.begin m at in
        let yes_ : begins_in xs from to x ≡ true = subst (λ n. (nat_le from n && nat_lt n to && burst_begins xs n) ≡ true) (sym same)
        (both_true (nat_le from m && nat_lt m to) (burst_begins xs m) (both_true (nat_le from m) (nat_lt m to) (le-leb from m low) (lt-ltb m to high)) burst) in
        let wrong : true ≡ false = sym yes_ ∙ no_ in cc) (not_found (begins_in xs from to) xs none)))
    by (Some x) found =
        let f = begin_found from to xs x solid found in
        let first = shut_before xs x.begin f.none in
        let parts = burst_parts xs m burst in
        ⊎_elim (λ (less : x.begin < m). absurd (not_sooner from to x.begin m xs f.low less high solid (found_begins x found) parts.1))
        (λ (ge : m ≤ x.begin). ⊎_elim (λ (less : m < x.begin). absurd (not_sooner from to m x.begin xs low less f.high solid parts.0 first))
        (λ (le : x.begin ≤ m). ap (λ (n : ℕ). Some n) (let same : x.begin ≡ m = omega arith in same)) (cases_lt m x.begin)) (cases_lt x.begin m)

-- ---- between the clocks

any_none : (P : Span → Type 0) (f : Span → Bool) → ((x : Span) → P x → f x ≡ false) → (xs : List Span) → EachSpan P xs → list_any f xs ≡ false
any_none P f fails xs all = all_false f xs (spans_map P (λ x. f x ≡ false) xs fails all)

-- where all begins by a moment, no burst begins later
pub begins-none : (by : ℕ) (spans : List Span) → EachSpan (λ x. x.begin ≤ by) spans → (m : ℕ) → by < m → burst_begins spans m ≡ false
begins-none by spans soon m later =
    ap (λ (b : Bool). b && not (list_any (lasts_through m) spans))
    (any_none (λ x. x.begin ≤ by) (begins_at m) (λ x h. ne_eqb x.begin m (λ (e : x.begin ≡ m). omega arith)) spans soon)

pub ends-none : (from to : ℕ) (spans : List Span) → EachSpan (Solid from to) spans → (m : ℕ) → from < m → m < to → burst_ends spans m ≡ false
ends-none from to spans solid m later before =
    ap (λ (b : Bool). b && not (list_any (lasts_through m) spans))
    (any_none (Solid from to) (ends_at m) (λ x h. ne_eqb x.end m (λ (e : x.end ≡ m). omega (arith, h.1 (omega arith)))) spans solid)
