-- Which telegram a tap hears whole.
use Rattle.std.proofs.Common.{◌≡◌, ℕ, ◌+◌, ◌<◌, List, [], ◌∷◌, ◌++◌, Bool, true, false, not, ◌||◌, ◌&&◌, ◌==◌, refl, ap, sym, ◌∙◌, subst, arith, Option, Some, None}
use Rattle.std.specs.Prelude.{nat_lt, slice_get, find, count_by}
use Rattle.std.specs.List.{list_any}
use Rattle.std.proofs.lemmas.Bool.{and_parts, or_parts, ne_eqb, eqb-true, eq-eqb, lt-ltb, both_ways}
use Rattle.std.proofs.lemmas.Bool.Decides.{nat_tests}
use Rattle.pb_telegram.specs.declared.chars.RxChar.{RxChar}
use Rattle.pb_telegram.specs.declared.chars.RxChar.TheVariants.{Bad}
use Rattle.law_turn.specs.Spans.{Span}
use Rattle.law_model.specs.Trace.{Record, Entry, Sent, Noise}
use Rattle.law_model.specs.Medium.{Tap, overlaps, reaches, is_unheard, sensed, hears_from, sends_during, fills_burst, fills_burst_to, entry_characters, burst_characters, burst_begins, burst_ends}
use Rattle.law_model.specs.Laws.{FillsBurst, FillsAlone}
use Rattle.law_model.proofs.Cases.{by_test}

-- ---- what fills a burst

not_true : (b : Bool) → not b ≡ true → b ≡ false
not_true true e = cc
not_true false e = refl

pub fills_alone : (delay : ℕ) (tap : ℕ) (t : Tap) (trace : List Entry) (r : Record) → fills_burst delay tap t trace r ≡ true → FillsAlone delay tap t trace r
fills_alone delay tap t trace r e =
    let span = reaches delay r in
    let others : Bool = r.tap == tap || is_unheard (slice_get r.heard tap) in
    let alone : Bool = count_by (overlaps span) (sensed delay tap t.since trace) == 1 in
    let sends : Bool = list_any (sends_during tap span) trace in
    let silent = and_parts (not others && hears_from t span.begin && alone) (not sends) e in
    let lone = and_parts (not others && hears_from t span.begin) alone silent.0 in
    let ran = and_parts (not others) (hears_from t span.begin) lone.0 in
    record {
      reached = (or_parts (r.tap == tap) (is_unheard (slice_get r.heard tap)) (not_true others ran.0)).1;
      another = λ own. both_ways others (not_true others ran.0) (ap (λ (b : Bool). b || is_unheard (slice_get r.heard tap)) (eq-eqb r.tap tap own));
      ran = ran.1;
      alone = eqb-true (count_by (overlaps span) (sensed delay tap t.since trace)) 1 lone.1;
      silent = not_true sends silent.1;
    }

-- ---- the characters of a burst

-- what a search finds stands in the list
pub record FoundIn {X : Type 0} (test : X → Bool) (xs : List X) (x : X) : Type 0 where
  pub before : List X
  pub after : List X
  pub stands : xs ≡ before ++ x ∷ after
  pub passes : test x ≡ true

found_in : {X : Type 0} (test : X → Bool) (xs : List X) (x : X) → find test xs ≡ Some x → FoundIn test xs x
found_in {X} test [] x = λ e. absurd cc
found_in {X} test (y ∷ xs) x =
    by_test (λ (o : Option X). o ≡ Some x → FoundIn test (y ∷ xs) x) (test y) (Some y) (find test xs)
    (λ passes e. let same : y ≡ x = cc in record { before = []; after = xs; stands = ap (λ (z : X). z ∷ xs) same; passes = subst (λ (z : X). test z ≡ true) same passes })
    (λ _ e. let rest = found_in test xs x e in record { before = y ∷ rest.before; after = rest.after; stands = ap (λ (zs : List X). y ∷ zs) rest.stands; passes = rest.passes })

-- the burst's characters, by what was found: one damaged character, or those of a telegram that fills it
by_found : (delay : ℕ) (tap : ℕ) (t : Tap) (trace : List Entry) (m : ℕ) (o : Option Entry) → find (fills_burst_to delay tap t trace m) trace ≡ o
    → (entry_characters tap o ≡ Bad ∷ [] → ⊥) → FillsBurst delay tap t trace m (entry_characters tap o)
by_found delay tap t trace m None e good = absurd (good refl)
by_found delay tap t trace m (Some (Noise span)) e good = absurd (good refl)
by_found delay tap t trace m (Some (Sent r)) e good =
    let found = found_in (fills_burst_to delay tap t trace m) trace (Sent r) e in
    let both = and_parts ((reaches delay r).end == m) (fills_burst delay tap t trace r) found.passes in
    record { before = found.before; telegram = r; after = found.after; in_trace = found.stands; fills = both.1; ends = eqb-true (reaches delay r).end m both.0; characters = refl }

pub fills-burst_characters : (delay : ℕ) (tap : ℕ) (t : Tap) (trace : List Entry) (m : ℕ) → (burst_characters delay tap t trace m ≡ Bad ∷ [] → ⊥)
    → FillsBurst delay tap t trace m (burst_characters delay tap t trace m)
fills-burst_characters delay tap t trace m good = by_found delay tap t trace m (find (fills_burst_to delay tap t trace m) trace) refl good

-- an element that passes the test is found, it or one before it
some_found : {X : Type 0} (test : X → Bool) (before : List X) (x : X) (after : List X) → test x ≡ true → find test (before ++ x ∷ after) ≡ None → ⊥
some_found {X} test [] x after passes = by_test (λ (o : Option X). o ≡ None → ⊥) (test x) (Some x) (find test after) (λ _ e. cc) (λ fails e. both_ways (test x) fails passes)
some_found {X} test (y ∷ before) x after passes =
    by_test (λ (o : Option X). o ≡ None → ⊥) (test y) (Some y) (find test (before ++ x ∷ after)) (λ _ e. cc) (λ _. some_found test before x after passes)

-- a telegram that fills a burst alone gives its characters: it, or one that fills the same burst
by_filled : (delay : ℕ) (tap : ℕ) (t : Tap) (trace : List Entry) (m : ℕ) (o : Option Entry) → find (fills_burst_to delay tap t trace m) trace ≡ o
    → (o ≡ None → ⊥) → FillsBurst delay tap t trace m (entry_characters tap o)
by_filled delay tap t trace m None e some = absurd (some refl)
by_filled delay tap t trace m (Some (Noise span)) e some =
    absurd (let wrong : false ≡ true = (found_in (fills_burst_to delay tap t trace m) trace (Noise span) e).passes in cc)
by_filled delay tap t trace m (Some (Sent r)) e some =
    let found = found_in (fills_burst_to delay tap t trace m) trace (Sent r) e in
    let both = and_parts ((reaches delay r).end == m) (fills_burst delay tap t trace r) found.passes in
    record { before = found.before; telegram = r; after = found.after; in_trace = found.stands; fills = both.1; ends = eqb-true (reaches delay r).end m both.0; characters = refl }

pub burst_characters-filled : (delay : ℕ) (tap : ℕ) (t : Tap) (trace : List Entry) (m : ℕ) (chars : List RxChar) → FillsBurst delay tap t trace m chars
    → FillsBurst delay tap t trace m (burst_characters delay tap t trace m)
burst_characters-filled delay tap t trace m chars filled =
    let test = fills_burst_to delay tap t trace m in
    let passes : test (Sent filled.telegram) ≡ true =
    ap (λ (b : Bool). b && fills_burst delay tap t trace filled.telegram) (eq-eqb (reaches delay filled.telegram).end m filled.ends) ∙ filled.fills in
    by_filled delay tap t trace m (find test trace) refl
    (λ none. some_found test filled.before (Sent filled.telegram) filled.after passes (ap (find test) (sym filled.in_trace) ∙ none))

-- ---- two telegrams of one instant

true_among : {X : Type 0} (test : X → Bool) (before : List X) (x : X) (after : List X) → test x ≡ true → list_any test (before ++ x ∷ after) ≡ true
true_among {X} test [] x after passes = ap (λ (b : Bool). b || list_any test after) passes
true_among {X} test (y ∷ before) x after passes = ap (λ (b : Bool). test y || b) (true_among test before x after passes) ∙ or_true (test y)
  where
    or_true : (b : Bool) → (b || true) ≡ true
    or_true true = refl
    or_true false = refl

-- a telegram that reaches a tap while that sends fills no burst of it
fills_burst-sending : (delay : ℕ) (tap : ℕ) (t : Tap) (trace before after : List Entry) (q r : Record) → trace ≡ before ++ Sent q ∷ after → q.tap ≡ tap
    → overlaps (record { begin = q.begin; end = q.end }) (reaches delay r) ≡ true → fills_burst delay tap t trace r ≡ false
fills_burst-sending delay tap t trace before after q r in_trace own overlap = by_case (fills_burst delay tap t trace r) refl
  where
    sends : list_any (sends_during tap (reaches delay r)) trace ≡ true
    sends = ap (list_any (sends_during tap (reaches delay r))) in_trace
        ∙ true_among (sends_during tap (reaches delay r)) before (Sent q) after
        (ap (λ (b : Bool). b && overlaps (record { begin = q.begin; end = q.end }) (reaches delay r)) (eq-eqb q.tap tap own) ∙ overlap)

    by_case : (b : Bool) → fills_burst delay tap t trace r ≡ b → b ≡ false
    by_case false e = refl
    by_case true e = absurd (both_ways (list_any (sends_during tap (reaches delay r)) trace) (fills_alone delay tap t trace r e).silent sends)

pub fills_burst-one_instant : (delay : ℕ) (tap : ℕ) (t : Tap) (trace before after : List Entry) (q r : Record) → trace ≡ before ++ Sent q ∷ after → q.tap ≡ tap
    → q.begin ≡ r.begin → r.begin + delay < q.end → r.begin < r.end → fills_burst delay tap t trace r ≡ false
fills_burst-one_instant delay tap t trace before after q r in_trace own same some some' =
    fills_burst-sending delay tap t trace before after q r in_trace own
    (ap (λ (b : Bool). b && nat_lt (r.begin + delay) q.end) (lt-ltb q.begin (r.end + delay) (omega arith)) ∙ lt-ltb (r.begin + delay) q.end (omega arith))

-- ---- what fills a burst, the other way

-- a telegram of another that reaches the tap from its beginning, alone, while the tap is silent, fills a burst
pub fills_burst-alone : (delay : ℕ) (tap : ℕ) (t : Tap) (trace : List Entry) (r : Record) → FillsAlone delay tap t trace r → fills_burst delay tap t trace r ≡ true
fills_burst-alone delay tap t trace r alone =
    let span = reaches delay r in
    let n = count_by (overlaps span) (sensed delay tap t.since trace) in
    let sends : Bool = list_any (sends_during tap span) trace in
    ap (λ (b : Bool). ((not (b || is_unheard (slice_get r.heard tap)) && hears_from t span.begin) && n == 1) && not sends) (ne_eqb r.tap tap alone.another)
    ∙ ap (λ (b : Bool). ((not (false || b) && hears_from t span.begin) && n == 1) && not sends) alone.reached
    ∙ ap (λ (b : Bool). (b && n == 1) && not sends) alone.ran
    ∙ ap (λ (b : Bool). b && not sends) (eq-eqb n 1 alone.alone)
    ∙ ap not alone.silent

ends_at_touch : (a b c d : ℕ) → a < b → c < d → b ≡ c
    → ((b == b || (d == b || false)) && not ((nat_lt a b && nat_lt b b) || ((nat_lt c b && nat_lt b d) || false))) ≡ true
ends_at_touch a b c d some some' touch = grind (arith, nat_tests)

begins_at_touch : (a b c d : ℕ) → a < b → c < d → b ≡ c
    → ((a == c || (c == c || false)) && not ((nat_lt a c && nat_lt c b) || ((nat_lt c c && nat_lt c d) || false))) ≡ true
begins_at_touch a b c d some some' touch = grind (arith, nat_tests)

-- of two stretches that touch, a burst ends and another begins
pub touching_apart : (a b : Span) → a.begin < a.end → b.begin < b.end → a.end ≡ b.begin
    → (burst_ends (a ∷ b ∷ []) a.end ≡ true) × (burst_begins (a ∷ b ∷ []) b.begin ≡ true)
touching_apart a b some some' touch =
    (ends_at_touch a.begin a.end b.begin b.end some some' touch, begins_at_touch a.begin a.end b.begin b.end some some' touch)

no_begin_within : (a b c d : ℕ) → a < c → c < b → ((a == c || (c == c || false)) && not ((nat_lt a c && nat_lt c b) || ((nat_lt c c && nat_lt c d) || false))) ≡ false
no_begin_within a b c d later within = grind (arith, nat_tests)

no_end_within : (a b c d : ℕ) → c < b → b < d → ((b == b || (d == b || false)) && not ((nat_lt a b && nat_lt b b) || ((nat_lt c b && nat_lt b d) || false))) ≡ false
no_end_within a b c d within later = grind (arith, nat_tests)

begins_first : (a b c d : ℕ) → a < c → ((a == a || (c == a || false)) && not ((nat_lt a a && nat_lt a b) || ((nat_lt c a && nat_lt a d) || false))) ≡ true
begins_first a b c d first = grind (arith, nat_tests)

ends_last : (a b c d : ℕ) → b < d → ((b == d || (d == d || false)) && not ((nat_lt a d && nat_lt d b) || ((nat_lt c d && nat_lt d d) || false))) ≡ true
ends_last a b c d later = grind (arith, nat_tests)

-- the burst of both begins with the first and ends with the second
pub overlapping_ends : (a b : Span) → a.begin < b.begin → b.begin < a.end → a.end < b.end
    → (burst_begins (a ∷ b ∷ []) a.begin ≡ true) × (burst_ends (a ∷ b ∷ []) b.end ≡ true)
overlapping_ends a b first within later = (begins_first a.begin a.end b.begin b.end first, ends_last a.begin a.end b.begin b.end later)

-- two stretches that overlap are one burst: none begins where the second does, and none ends where the first does
pub overlapping_joined : (a b : Span) → a.begin < b.begin → b.begin < a.end → a.end < b.end
    → (burst_begins (a ∷ b ∷ []) b.begin ≡ false) × (burst_ends (a ∷ b ∷ []) a.end ≡ false)
overlapping_joined a b first within later =
    (no_begin_within a.begin a.end b.begin b.end first within, no_end_within a.begin a.end b.begin b.end within later)
