-- What is active in the slot after a telegram is among the entries around it: those before have ended by its begin and its
-- end, those behind begin after the slot.
use Rattle.std.proofs.Common.{◌≡◌, ◌∙◌, ap, sym, subst, refl, arith, ℕ, zero, suc, ◌+◌, ◌-◌, ◌≤◌, Bool, true, false, not, if◌then◌else◌, ◌==◌, ◌&&◌, ◌||◌, List, [], ◌∷◌, ◌++◌, length, map, Option, Some, None, append_assoc}
use Rattle.std.specs.Prelude.{drop, take, min, nat_le, nat_lt, slice_get}
use Rattle.std.specs.List.{list_any}
use Rattle.std.proofs.lemmas.Bool.{leb-false, ltb-true}
use Rattle.std.proofs.lemmas.List.{drop_all, drop-map, take-map}
use Rattle.std.proofs.lemmas.Option.{none-some, same_Some}
use Rattle.law_model.specs.Trace.{Record, Entry, Sent, Noise, entry_begin}
use Rattle.law_model.specs.Medium.{reaches, reaches_taps}
use Rattle.law_turn.specs.Spans.{Span}
use Rattle.law_runs.specs.Activity.{active_at, is_silent, is_within}
use Rattle.law_runs.specs.Judging.{StandsFrom}
use Rattle.law_runs.specs.Naming.{first_that_heard}
use Rattle.pb_medium.specs.declared.entries.Entry as medium
use Rattle.pb_medium.specs.Entries.{entry_of}
use Rattle.pb_scenario.specs.Scenarios.{ScenarioView}
use Rattle.pb_export.specs.declared.holders.Part.{Part}
use Rattle.pb_export.specs.declared.holders.Role.{Role}
use Rattle.pb_export.specs.declared.holders.Role.TheVariants as role
use Rattle.pb_export.specs.Holders.{is_active, is_initiator, later, one_part, parts_after, parts_after_slot, parts_before, parts_by_role, parts_from, role_in, slot_end}
use Rattle.pb_export.specs.Gone.{AreGone, AreGoneAround, AreGoneAt, AreGoneIf}
use Rattle.pb_texts.proofs.Taps.{dropped}
use Rattle.pb_export.proofs.Waving.{drop-between}

-- ---- one entry

-- a stretch that has ended, or that has yet to begin
outside_before : (from to : ℕ) (span : Span) → span.end ≤ from → is_within from to span ≡ false
outside_before from to span over = by (nat_lt span.begin to) (nat_lt from span.end) refl
  where
    by : (b c : Bool) → nat_lt from span.end ≡ c → (b && c) ≡ false
    by false c e = refl
    by true false e = refl
    by true true e = let less = ltb-true from span.end e in absurd (omega (arith, over, less))

outside_behind : (from to : ℕ) (span : Span) → to ≤ span.begin → is_within from to span ≡ false
outside_behind from to span late = by (nat_lt span.begin to) refl
  where
    by : (b : Bool) → nat_lt span.begin to ≡ b → (b && nat_lt from span.end) ≡ false
    by false e = refl
    by true e = let less = ltb-true span.begin to e in absurd (omega (arith, late, less))

gone_off : (delay tap from to : ℕ) (e : Entry) → (reaches_taps delay e).end ≤ from → is_within from to (active_at delay tap e) ≡ false
gone_off delay tap from to (Noise span) over = outside_before from to span over
gone_off delay tap from to (Sent r) over = by (r.tap == tap)
  where
    by : (b : Bool) → is_within from to (if b then record { begin = r.begin; end = r.end } else reaches delay r) ≡ false
    by true = outside_before from to (record { begin = r.begin; end = r.end }) (omega (arith, over))
    by false = outside_before from to (reaches delay r) over

late_off : (delay tap from to : ℕ) (e : Entry) → to ≤ entry_begin e → is_within from to (active_at delay tap e) ≡ false
late_off delay tap from to (Noise span) late = outside_behind from to span late
late_off delay tap from to (Sent r) late = by (r.tap == tap)
  where
    by : (b : Bool) → is_within from to (if b then record { begin = r.begin; end = r.end } else reaches delay r) ≡ false
    by true = outside_behind from to (record { begin = r.begin; end = r.end }) late
    by false = outside_behind from to (reaches delay r) (omega (arith, late))

-- ---- some entries

silent_gone : (delay tap from to i : ℕ) (es : List Entry) → AreGone delay from (take i es) → is_silent delay tap es from to ≡ is_silent delay tap (drop i es) from to
silent_gone delay tap from to zero es gone = refl
silent_gone delay tap from to (suc i) [] gone = refl
silent_gone delay tap from to (suc i) (e ∷ es) (here, rest) =
    ap (λ (b : Bool). not (b || list_any (λ x. is_within from to (active_at delay tap x)) es)) (gone_off delay tap from to e here)
    ∙ silent_gone delay tap from to i es rest

none_late : (delay tap from to m : ℕ) (es : List Entry) → StandsFrom m es → to ≤ m → list_any (λ x. is_within from to (active_at delay tap x)) es ≡ false
none_late delay tap from to m [] stands late = refl
none_late delay tap from to m (e ∷ es) (here, rest) late =
    let later : to ≤ entry_begin e = omega (arith, late, here) in
    ap (λ (b : Bool). b || list_any (λ x. is_within from to (active_at delay tap x)) es) (late_off delay tap from to e later)
    ∙ none_late delay tap from to (entry_begin e) es rest later

any_late : (delay tap from to m n : ℕ) (es : List Entry) → StandsFrom m (drop n es) → to ≤ m
    → list_any (λ x. is_within from to (active_at delay tap x)) es ≡ list_any (λ x. is_within from to (active_at delay tap x)) (take n es)
any_late delay tap from to m zero es stands late = none_late delay tap from to m es stands late
any_late delay tap from to m (suc n) [] stands late = refl
any_late delay tap from to m (suc n) (e ∷ es) stands late =
    ap (λ (b : Bool). is_within from to (active_at delay tap e) || b) (any_late delay tap from to m n es stands late)

silent_around : (delay tap from to m i n : ℕ) (es : List Entry) → i ≤ n → AreGone delay from (take i es) → StandsFrom m (drop n es) → to ≤ m
    → is_silent delay tap es from to ≡ is_silent delay tap (take (n - i) (drop i es)) from to
silent_around delay tap from to m i n es less gone stands late =
    silent_gone delay tap from to i es gone
    ∙ ap not (any_late delay tap from to m (n - i) (drop i es) (subst (StandsFrom m) (drop-between i n es less) stands) late)

-- ---- the parts after the last token or request

-- two lists with the same silences in the slot, up to a moment
abbrev pub AgreeOn : ScenarioView → Option Record → (until : ℕ) → (es xs : List Entry) → Type 0
AgreeOn s None until es xs = Unit {0}
AgreeOn s (Some r) until es xs =
    (to : ℕ) → to ≤ until → is_silent s.scenario.params.ttd r.tap es r.end to ≡ is_silent s.scenario.params.ttd r.tap xs r.end to

slot_by : (s : ScenarioView) (r : Record) (over until : ℕ) (es xs : List Entry) → AgreeOn s (Some r) until es xs
    → parts_after_slot s es r over until ≡ parts_after_slot s xs r over until
slot_by s r over until es xs agree = by (nat_le until over) refl
  where
    by : (b : Bool) → nat_le until over ≡ b
        → (if b then [] else if is_active s.scenario.params.ttd r.tap es r.end over then one_part None until else one_part (Some r.tap) until)
        ≡ (if b then [] else if is_active s.scenario.params.ttd r.tap xs r.end over then one_part None until else one_part (Some r.tap) until)
    by true e = refl
    by false e =
        let less = leb-false until over e in
        ap (λ (b : Bool). if not b then one_part None until else one_part (Some r.tap) until) (agree over (omega (arith, less)))

role_by : (s : ScenarioView) (r : Record) (x : Role) (until : ℕ) (es xs : List Entry) → AgreeOn s (Some r) until es xs
    → parts_by_role s es r x until ≡ parts_by_role s xs r x until
role_by s r role.Nothing until es xs agree = refl
role_by s r role.Keeps until es xs agree = refl
role_by s r (role.Offers to) until es xs agree =
    ap (λ (z : List Part). one_part (Some r.tap) (min until r.end) ++ one_part (first_that_heard r.heard to 0 s.scenario.taps) (min until (slot_end s r)) ++ z)
    (slot_by s r (slot_end s r) until es xs agree)

pub after_by : (s : ScenarioView) (last : Option Record) (until : ℕ) (es xs : List Entry) → AgreeOn s last until es xs
    → parts_after s es last until ≡ parts_after s xs last until
after_by s None until es xs agree = refl
after_by s (Some r) until es xs agree = role_by s r (role_in r) until es xs agree

-- ---- along the trace

-- the entries before an index are over around the last token or request; there are none without it
abbrev pub GoneBefore : (delay : ℕ) → Option Record → List Entry → Type 0
GoneBefore delay None es = es ≡ []
GoneBefore delay (Some r) es = AreGoneAt delay r es

abbrev pub begin_of : Option Record → ℕ
begin_of None = 0
begin_of (Some r) = r.begin

agree_around : (s : ScenarioView) (last : Option Record) (until m i n : ℕ) (es : List Entry) → i ≤ n → GoneBefore s.scenario.params.ttd last (take i es) → StandsFrom m (drop n es) → until ≤ m
    → AgreeOn s last until es (take (n - i) (drop i es))
agree_around s None until m i n es less gone stands late = tt
agree_around s (Some r) until m i n es less gone stands late =
    λ to sooner. silent_around s.scenario.params.ttd r.tap r.end to m i n es less gone.1 stands (omega (arith, sooner, late))

-- before the end
pub before_around : (s : ScenarioView) (last : Option Record) (until from i n : ℕ) (es : List Entry) (e : Entry) → i ≤ n → GoneBefore s.scenario.params.ttd last (take i es)
    → StandsFrom from (drop n es) → slice_get es n ≡ Some e → parts_before s es last until e ≡ parts_before s (take (n - i) (drop i es)) last until e
before_around s last until from i n es (Noise span) less gone stands here = refl
before_around s last until from i n es (Sent r) less gone stands here =
    let front : StandsFrom from (Sent r ∷ drop (n + 1) es) = subst (StandsFrom from) (dropped es n (Sent r) here) stands in
    let again : StandsFrom r.begin (drop n es) = subst (StandsFrom r.begin) (sym (dropped es n (Sent r) here)) (omega arith, front.1) in
    ap (λ (z : List Part). if is_initiator r then z else [])
    (after_by s last (min r.begin until) es (take (n - i) (drop i es))
    (agree_around s last (min r.begin until) r.begin i n es less gone again (omega arith)))

-- at the end
pub after_around : (s : ScenarioView) (last : Option Record) (until i : ℕ) (es : List Entry) → GoneBefore s.scenario.params.ttd last (take i es)
    → parts_after s es last until ≡ parts_after s (drop i es) last until
after_around s last until i es gone = after_by s last until es (drop i es) (agree last gone)
  where
    agree : (o : Option Record) → GoneBefore s.scenario.params.ttd o (take i es) → AgreeOn s o until es (drop i es)
    agree None g = tt
    agree (Some r) g = λ to sooner. silent_gone s.scenario.params.ttd r.tap r.end to i es g.1

-- ---- the index

-- an entry that is over too
pub gone_more : (delay t i : ℕ) (es : List Entry) (e : Entry) → slice_get es i ≡ Some e → (reaches_taps delay e).end ≤ t → AreGone delay t (take i es) → AreGone delay t (take (i + 1) es)
gone_more delay t i [] e here over before = absurd (none-some e here)
gone_more delay t zero (x ∷ xs) e here over before = (subst (λ (y : Entry). (reaches_taps delay y).end ≤ t) (sym (same_Some x e here)) over, tt)
gone_more delay t (suc i) (x ∷ xs) e here over (first, rest) =
    let place : suc (i + 1) ≡ suc i + 1 = omega arith in
    subst (λ (n : ℕ). AreGone delay t (take n (x ∷ xs))) place (first, gone_more delay t i xs e here over rest)

-- later too
pub gone_later : (delay t u : ℕ) (es : List Entry) → t ≤ u → AreGone delay t es → AreGone delay u es
gone_later delay t u [] later gone = tt
gone_later delay t u (e ∷ es) later (here, rest) = (omega (arith, later, here), gone_later delay t u es later rest)

-- what is over around the last token or request is over when the next entry begins
pub gone_next : (delay : ℕ) (last : Option Record) (n : ℕ) (es gone : List Entry) (e : Entry) → GoneBefore delay last gone → StandsFrom (begin_of last) (drop n es) → slice_get es n ≡ Some e
    → AreGone delay (entry_begin e) gone
gone_next delay None n es gone e none stands here = subst (AreGone delay (entry_begin e)) (sym none) tt
gone_next delay (Some r) n es gone e over stands here =
    let front : StandsFrom r.begin (e ∷ drop (n + 1) es) = subst (StandsFrom r.begin) (dropped es n e here) stands in
    gone_later delay r.begin (entry_begin e) gone front.0 over.0

-- and then of the next one
pub gone_step : (delay : ℕ) (last : Option Record) (e : Entry) (old new : List Entry) → GoneBefore delay last old → AreGoneAround delay e old new → GoneBefore delay (later last e) new
gone_step delay last (Noise span) old new gone same = subst (GoneBefore delay last) (sym same) gone
gone_step delay last (Sent r) old new gone around = by (is_initiator r) around
  where
    by : (b : Bool) → AreGoneIf b delay r old new → GoneBefore delay (if b then Some r else last) new
    by true over = over
    by false same = subst (GoneBefore delay last) (sym same) gone

-- the order goes on
pub stands_step : (last : Option Record) (n : ℕ) (es : List Entry) (e : Entry) → StandsFrom (begin_of last) (drop n es) → slice_get es n ≡ Some e → StandsFrom (begin_of (later last e)) (drop (n + 1) es)
stands_step last n es e stands here = on e (subst (StandsFrom (begin_of last)) (dropped es n e here) stands)
  where
    weaker : (from m : ℕ) (xs : List Entry) → m ≤ from → StandsFrom from xs → StandsFrom m xs
    weaker from m [] less s = tt
    weaker from m (x ∷ xs) less (a, b) = (omega (arith, less, a), b)

    on : (x : Entry) → StandsFrom (begin_of last) (x ∷ drop (n + 1) es) → StandsFrom (begin_of (later last x)) (drop (n + 1) es)
    on (Noise span) (a, b) = weaker span.begin (begin_of last) (drop (n + 1) es) a b
    on (Sent r) (a, b) = by (is_initiator r)
      where
        by : (c : Bool) → StandsFrom (begin_of (if c then Some r else last)) (drop (n + 1) es)
        by true = b
        by false = weaker r.begin (begin_of last) (drop (n + 1) es) a b

-- ---- the loop over the trace

pub take_under : {X : Type 0} (i n : ℕ) (xs : List X) → i ≤ n → take i (take n xs) ≡ take i xs
take_under zero n xs less = refl
take_under (suc i) zero [] less = refl
take_under (suc i) (suc n) [] less = refl
take_under (suc i) zero (x ∷ xs) less = absurd (omega (arith, less))
take_under (suc i) (suc n) (x ∷ xs) less = ap (λ z. x ∷ z) (take_under i n xs (omega (arith, less)))

pub taken_length : {X : Type 0} (n : ℕ) (xs : List X) → length (take n xs) ≤ n
taken_length zero xs = omega arith
taken_length (suc n) [] = omega arith
taken_length (suc n) (x ∷ xs) = let rest = taken_length n xs in omega (arith, rest)

-- the entries before an index, of those before a later one
pub first_of : (i n : ℕ) (xs : List medium.Entry) → i ≤ n → take i (map entry_of (take n xs)) ≡ take i (map entry_of xs)
first_of i n xs less = ap (take i) (sym (take-map entry_of n xs)) ∙ take_under i n (map entry_of xs) less

pub part_of : (n i : ℕ) (xs : List medium.Entry) → map entry_of (take n (drop i xs)) ≡ take n (drop i (map entry_of xs))
part_of n i xs = sym (take-map entry_of n (drop i xs)) ∙ ap (take n) (sym (drop-map entry_of i xs))

pub text_step : (s : ScenarioView) (es around : List Entry) (last next : Option Record) (until n : ℕ) (e : Entry) (text after all : List Part)
    → slice_get es n ≡ Some e → next ≡ later last e → after ≡ text ++ parts_before s around last until e
    → parts_before s es last until e ≡ parts_before s around last until e
    → text ++ parts_from s es last until (drop n es) ≡ all → after ++ parts_from s es next until (drop (n + 1) es) ≡ all
text_step s es around last next until n e text after all here is_next is same so_far =
    let rest = drop (n + 1) es in
    let piece = parts_before s es last until e in
    ap (λ (o : Option Record). after ++ parts_from s es o until rest) is_next
    ∙ ap (λ (z : List Part). z ++ parts_from s es (later last e) until rest) (is ∙ ap (λ (z : List Part). text ++ z) (sym same))
    ∙ append_assoc text piece (parts_from s es (later last e) until rest)
    ∙ ap (λ (z : List Part). text ++ z) (sym (ap (parts_from s es last until) (dropped es n e here))) ∙ so_far

pub text_end : (s : ScenarioView) (es around : List Entry) (last : Option Record) (until n : ℕ) (text after all : List Part)
    → length es ≤ n → after ≡ text ++ parts_after s around last until → parts_after s es last until ≡ parts_after s around last until
    → text ++ parts_from s es last until (drop n es) ≡ all → after ≡ all
text_end s es around last until n text after all past is same so_far =
    is ∙ ap (λ (z : List Part). text ++ z) (sym same ∙ sym (ap (parts_from s es last until) (drop_all n es past))) ∙ so_far
