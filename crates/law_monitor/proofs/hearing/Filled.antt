-- A burst that spells a telegram is that telegram alone.
use Rattle.std.proofs.Common.{◌≡◌, ℕ, ◌+◌, ◌<◌, ◌≤◌, ◌⊎◌, inl, inr, ⊎_elim, Bool, true, false, if◌then◌else◌, not, ◌==◌, ◌&&◌, ◌||◌, List, [], ◌∷◌, ◌++◌, refl, sym, ap, ◌∙◌, subst, arith, cond, Option, Some, None}
use Rattle.std.specs.Prelude.{nat_lt, max, slice_get, count_by}
use Rattle.std.specs.List.{cons_option}
use Rattle.std.specs.Option.{option_and_then}
use Rattle.std.proofs.lemmas.Bool.{ltb-true, ltb-false, lt-ltb, eqb-true, ne_eqb, cases_lt}
use Rattle.std.proofs.lemmas.List.Sums.{sum_by-cons}
use Rattle.pb_telegram.specs.declared.chars.RxChar.{RxChar}
use Rattle.law_turn.specs.Arrivals.{NoTelegram, arrival_of}
use Rattle.law_turn.specs.Spans.{Span}
use Rattle.law_model.specs.Trace.{Record, Entry, Sent, characters_at}
use Rattle.law_model.specs.Medium.{Tap, overlaps, reaches, is_unheard, part_after, sensed, hears_from, burst_characters}
use Rattle.law_model.specs.Laws.{FillsBurst, FillsAlone}
use Rattle.law_model.proofs.WholeTelegrams.{fills_alone, fills-burst_characters}
use Rattle.law_token.specs.Lists.{Each}
use Rattle.law_token.specs.Places.{IsOver}
use Rattle.law_token.proofs.bus.Lists.{each_map}
use Rattle.law_token.proofs.pass.Brings.{HasLength}
use Rattle.pb_monitor.specs.Captures.{Burst, Has, Fills}
use Rattle.law_monitor.proofs.hearing.Ears.{Ear, at_ear, IsClearAt, Clear, Told}
use Rattle.law_monitor.proofs.hearing.Spelled.{SpellsOne}
use Rattle.law_monitor.proofs.hearing.Whole.{whole_at}

-- ---- only one of what is heard passes a test

abbrev Misses : (Span → Bool) → Option Span → Type 0
Misses test None = Unit {0}
Misses test (Some s) = test s ≡ false

abbrev AllMiss : Ear → (Span → Bool) → List Entry → Type 0
AllMiss x test es = Each (λ e. Misses test (at_ear x e)) es

counted : (test : Span → Bool) (s : Span) (xs : List Span) → count_by test (s ∷ xs) ≡ (cond (test s) 1 0) + count_by test xs
counted test s xs = sum_by-cons (λ (y : Span). cond (test y) 1 0) s xs

none_first : (test : Span → Bool) (o : Option Span) (xs : List Span) → count_by test (cons_option o xs) ≡ 0 → Misses test o × (count_by test xs ≡ 0)
none_first test None xs h = (tt, h)
none_first test (Some s) xs h = by (test s) refl (sym (counted test s xs) ∙ h)
  where
    by : (b : Bool) → test s ≡ b → (cond b 1 0) + count_by test xs ≡ 0 → (test s ≡ false) × (count_by test xs ≡ 0)
    by true e z = absurd (omega (arith, z))
    by false e z = (e, omega (arith, z))

none_count : (x : Ear) (test : Span → Bool) (es : List Entry) → count_by test (sensed x.delay x.tap x.since es) ≡ 0 → AllMiss x test es
none_count x test [] h = tt
none_count x test (e ∷ es) h = let f = none_first test (at_ear x e) (sensed x.delay x.tap x.since es) h in (f.0, none_count x test es f.1)

at_split : (P : Entry → Type 0) (before : List Entry) (e : Entry) (after : List Entry) → Each P (before ++ e ∷ after) → P e
at_split P [] e after all = all.0
at_split P (y ∷ before) e after all = at_split P before e after all.1

-- where one passes the test, no other does
one_count : (x : Ear) (test : Span → Bool) (before : List Entry) (e : Entry) (after : List Entry) (s : Span) → at_ear x e ≡ Some s → test s ≡ true
    → count_by test (sensed x.delay x.tap x.since (before ++ e ∷ after)) ≡ 1 → AllMiss x test before × AllMiss x test after
one_count x test [] e after s is passes h =
    let z : (cond (test s) 1 0) + count_by test (sensed x.delay x.tap x.since after) ≡ 1 = sym (counted test s (sensed x.delay x.tap x.since after)) ∙ subst (λ o. count_by test (cons_option o (sensed x.delay x.tap x.since after)) ≡ 1) is h in
    let n : 1 + count_by test (sensed x.delay x.tap x.since after) ≡ 1 = subst (λ b. (cond b 1 0) + count_by test (sensed x.delay x.tap x.since after) ≡ 1) passes z in
    (tt, none_count x test after (omega (arith, n)))
one_count x test (y ∷ before) e after s is passes h = by (at_ear x y) (λ z. one_count x test before e after s is passes z) h
  where
    rest : List Span
    rest = sensed x.delay x.tap x.since (before ++ e ∷ after)

    by : (o : Option Span) → (count_by test rest ≡ 1 → AllMiss x test before × AllMiss x test after) → count_by test (cons_option o rest) ≡ 1 → (Misses test o × AllMiss x test before) × AllMiss x test after
    by None rec z = let r = rec z in ((tt, r.0), r.1)
    by (Some t) rec z = on (test t) refl (sym (counted test t rest) ∙ z)
      where
        on : (b : Bool) → test t ≡ b → (cond b 1 0) + count_by test rest ≡ 1 → ((test t ≡ false) × AllMiss x test before) × AllMiss x test after
        on true f n =
            let all = none_count x test (before ++ e ∷ after) (omega (arith, n)) in
            let miss : test s ≡ false = subst (Misses test) is (at_split (λ e. Misses test (at_ear x e)) before e after all) in
            absurd (let w : true ≡ false = sym passes ∙ miss in cc)
        on false f n = let r = rec (omega (arith, n)) in ((f, r.0), r.1)

-- ---- a telegram that fills a burst alone

each_append : (P : Entry → Type 0) (before : List Entry) (e : Entry) (after : List Entry) → Each P before → P e → Each P after → Each P (before ++ e ∷ after)
each_append P [] e after a h b = (h, b)
each_append P (y ∷ before) e after a h b = (a.0, each_append P before e after a.1 h b)

has_append : (X : Entry → Type 0) (before : List Entry) (e : Entry) (after : List Entry) → X e → Has X (before ++ e ∷ after)
has_append X [] e after h = inl h
has_append X (y ∷ before) e after h = inr (has_append X before e after h)

-- it is heard from its begin
ran_since : (t : Tap) (m : ℕ) → hears_from t m ≡ true → t.since ≤ m
ran_since t m h = by (nat_lt t.since m) refl (t.since == m) refl h
  where
    by : (a : Bool) → nat_lt t.since m ≡ a → (b : Bool) → (t.since == m) ≡ b → (a || (b && not t.amid)) ≡ true → t.since ≤ m
    by true e b f z = let l = ltb-true t.since m e in omega (arith, l)
    by false e true f z = let s = eqb-true t.since m f in omega (arith, s)
    by false e false f z = absurd cc

heard_whole : (x : Ear) (r : Record) → (r.tap ≡ x.tap → ⊥) × (is_unheard (slice_get r.heard x.tap) ≡ false) → x.since ≤ r.begin + x.delay → r.begin < r.end → at_ear x (Sent r) ≡ Some (reaches x.delay r)
heard_whole x r alone from some =
    ap (λ b. option_and_then (part_after x.since) (if b then None else Some (reaches x.delay r))) (ap (λ b. b || is_unheard (slice_get r.heard x.tap)) (ne_eqb r.tap x.tap alone.0) ∙ alone.1)
    ∙ ap (λ b. if b then Some (record { begin = max (r.begin + x.delay) x.since; end = r.end + x.delay }) else None) (lt-ltb x.since (r.end + x.delay) (omega (arith, from, some)))
    ∙ ap (λ n. Some (record { begin = n; end = r.end + x.delay })) (let z : max (r.begin + x.delay) x.since ≡ r.begin + x.delay = omega (arith, from) in z)

-- two stretches that do not overlap
pub apart : (s y : Span) → overlaps s y ≡ false → (s.end ≤ y.begin) ⊎ (y.end ≤ s.begin)
apart s y h = by (nat_lt s.begin y.end) refl h
  where
    by : (b : Bool) → nat_lt s.begin y.end ≡ b → (b && nat_lt y.begin s.end) ≡ false → (s.end ≤ y.begin) ⊎ (y.end ≤ s.begin)
    by true e z = inl (ltb-false y.begin s.end z)
    by false e z = inr (ltb-false s.begin y.end e)

missed_clear : (x : Ear) (s : Span) (e : Entry) → Misses (overlaps s) (at_ear x e) → IsClearAt x s.begin s.end e
missed_clear x s e h = by (at_ear x e) h
  where
    by : (o : Option Span) → Misses (overlaps s) o → IsOver s.end s.begin o
    by None m = tt
    by (Some y) m = apart s y m

split_clear : (x : Ear) (s : Span) (e : Entry) → s.begin ≤ s.end → IsClearAt x s.begin s.end e → IsClearAt x s.begin s.begin e
split_clear x s e le h = by (at_ear x e) h
  where
    by : (o : Option Span) → IsOver s.end s.begin o → IsOver s.begin s.begin o
    by None m = tt
    by (Some y) m = ⊎_elim (λ (a : s.end ≤ y.begin). inl (omega (arith, a, le))) (λ (a : y.end ≤ s.begin). inr a) m

-- where nothing was heard just before a burst, and something lasts at each moment within it
pub filled : (x : Ear) (t : Tap) (trace : List Entry) (q b to : ℕ) (chars : List RxChar) → x.since ≡ t.since → q < to → Clear x q b trace → ((m : ℕ) → b < m → m < to → Clear x m m trace → ⊥)
    → Each SpellsOne trace → Each HasLength trace → chars ≡ burst_characters x.delay x.tap t trace to → (arrival_of chars ≡ NoTelegram → ⊥)
    → Has (Fills x.delay (record { begin = b; end = to; chars = chars })) trace × Each (Told x (record { begin = b; end = to; chars = chars })) trace
filled x t trace q b to chars same late clear through spelled long is spells = by (fills-burst_characters x.delay x.tap t trace to (λ bad. spells (ap arrival_of (is ∙ bad))))
  where
    burst : Burst
    burst = record { begin = b; end = to; chars = chars }

    by : FillsBurst x.delay x.tap t trace to (burst_characters x.delay x.tap t trace to) → Has (Fills x.delay burst) trace × Each (Told x burst) trace
    by f = (subst (Has (Fills x.delay burst)) (sym f.in_trace) (has_append (Fills x.delay burst) f.before (Sent r) f.after fill), subst (Each (Told x burst)) (sym f.in_trace) (each_append (Told x burst) f.before (Sent r) f.after (others f.before misses.0) (inl fill) (others f.after misses.1)))
      where
        r : Record
        r = f.telegram

        s : Span
        s = reaches x.delay r

        alone : FillsAlone x.delay x.tap t trace r
        alone = fills_alone x.delay x.tap t trace r f.fills

        some : r.begin < r.end
        some = at_split HasLength f.before (Sent r) f.after (subst (Each HasLength) f.in_trace long)

        from : x.since ≤ r.begin + x.delay
        from = let a = ran_since t (r.begin + x.delay) alone.ran in omega (arith, a, same)

        heard : at_ear x (Sent r) ≡ Some s
        heard = heard_whole x r (alone.another, alone.reached) from some

        ends : r.end + x.delay ≡ to
        ends = f.ends

        misses : AllMiss x (overlaps s) f.before × AllMiss x (overlaps s) f.after
        misses = one_count x (overlaps s) f.before (Sent r) f.after s heard
            (ap (λ c. c && nat_lt s.begin s.end) (lt-ltb s.begin s.end (omega (arith, some))) ∙ lt-ltb s.begin s.end (omega (arith, some)))
            (ap (λ l. count_by (overlaps s) (sensed x.delay x.tap x.since l)) (sym f.in_trace) ∙ ap (λ n. count_by (overlaps s) (sensed x.delay x.tap n trace)) same ∙ alone.alone)

        apart_from : (es : List Entry) → AllMiss x (overlaps s) es → Each (IsClearAt x s.begin s.end) es
        apart_from es m = each_map (λ e. Misses (overlaps s) (at_ear x e)) (IsClearAt x s.begin s.end) es (λ e h. missed_clear x s e h) m

        -- at its begin nothing lasts
        split : Clear x s.begin s.begin trace
        split = subst (Clear x s.begin s.begin) (sym f.in_trace)
            (each_append (IsClearAt x s.begin s.begin) f.before (Sent r) f.after
            (each_map (IsClearAt x s.begin s.end) (IsClearAt x s.begin s.begin) f.before (λ e h. split_clear x s e (omega (arith, some)) h) (apart_from f.before misses.0))
            (subst (IsOver s.begin s.begin) (sym heard) (inl (omega arith)))
            (each_map (IsClearAt x s.begin s.end) (IsClearAt x s.begin s.begin) f.after (λ e h. split_clear x s e (omega (arith, some)) h) (apart_from f.after misses.1)))

        -- so the burst begins with it
        no_sooner : b ≤ s.begin
        no_sooner = let c : (b ≤ s.begin) ⊎ (s.end ≤ q) = subst (IsOver b q) heard (at_split (IsClearAt x q b) f.before (Sent r) f.after (subst (Clear x q b) f.in_trace clear)) in
            ⊎_elim (λ (a : b ≤ s.begin). a) (λ (a : s.end ≤ q). absurd (omega (arith, a, late, ends))) c

        begins : b ≡ r.begin + x.delay
        begins = ⊎_elim (λ (a : b < s.begin). absurd (through s.begin a (omega (arith, some, ends)) split)) (λ (a : s.begin ≤ b). let c = no_sooner in omega (arith, a, c)) (cases_lt b s.begin)

        sound : SpellsOne (Sent r)
        sound = at_split SpellsOne f.before (Sent r) f.after (subst (Each SpellsOne) f.in_trace spelled)

        here : chars ≡ characters_at x.tap r
        here = is ∙ f.characters

        fill : Fills x.delay burst (Sent r)
        fill = (begins, sym ends, ap arrival_of here ∙ whole_at x.tap r sound (λ none. spells (ap arrival_of here ∙ none)))

        others : (es : List Entry) → AllMiss x (overlaps s) es → Each (Told x burst) es
        others es m = each_map (IsClearAt x s.begin s.end) (Told x burst) es (λ e h. inr (subst (λ n. IsClearAt x n to e) (sym begins) (subst (λ n. IsClearAt x s.begin n e) ends h))) (apart_from es m)
