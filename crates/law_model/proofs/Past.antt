-- What has ended before everything recent began matters no more.
use Rattle.std.proofs.Common.{◌≡◌, ℕ, ◌+◌, ◌<◌, ◌≤◌, List, [], ◌∷◌, ◌++◌, Bool, true, false, cond, if◌then◌else◌, not, length, map, ◌&&◌, ◌||◌, ◌==◌, refl, ap, ◌∙◌, subst, arith, Option, Some, None}
use Rattle.std.specs.Prelude.{nat_lt, nat_le, max, slice_get, find, count_by}
use Rattle.std.specs.List.{list_any, list_all, cons_option}
use Rattle.std.specs.Option.{option_and_then}
use Rattle.std.proofs.lemmas.Bool.{ltb-true, leb-true, le-ltb, lt-leb, ne_eqb, and_parts}
use Rattle.std.proofs.lemmas.List.Elements.{filter_map-append}
use Rattle.std.proofs.lemmas.List.{map-append}
use Rattle.std.proofs.lemmas.List.Sums.{sum_by-cons}
use Rattle.std.proofs.lemmas.Bool.Decides.{nat_tests}
use Rattle.pb_telegram.specs.Faults.{is_bad}
use Rattle.law_turn.specs.Spans.{Span}
use Rattle.law_turn.specs.Marks.{Mark, End}
use Rattle.law_model.specs.Trace.{Heard, Record, Entry, Sent, Noise, entry_end, characters_at}
use Rattle.law_model.specs.Medium.{Tap, begins_at, ends_at, lasts_through, overlaps, part_after, reaches, reaches_taps, is_unheard, at_tap, sensed, burst_begins, burst_ends, hears_from, sends_during, fills_burst, fills_burst_to, entry_characters, begins_in, ends_in, begin_mark, end_mark, marks_between, is_whole_at, heard_in_the_end, heard_by, ends_between, entry_at}
use Rattle.law_turn.specs.Stations.{earlier}
use Rattle.law_model.specs.World.{later_end, next_end_of}
use Rattle.law_model.specs.Laws.{AllOver, AllFrom}
use Rattle.law_model.proofs.Cases.{by_test}

-- what has ended at all taps has ended at its speaker
pub ended-by : (delay m : ℕ) (e : Entry) → (reaches_taps delay e).end ≤ m → entry_end e ≤ m
ended-by delay m (Noise span) over = over
ended-by delay m (Sent r) over = omega (arith, over)

-- ---- lists whose front fails a test

-- stretches that have ended by a moment
abbrev pub AllEnded : ℕ → List Span → Type 0
AllEnded m [] = Unit {0}
AllEnded m (x ∷ xs) = (x.begin < x.end) × (x.end ≤ m) × AllEnded m xs

any-skip : (m : ℕ) (f : Span → Bool) → ((x : Span) → x.begin < x.end → x.end ≤ m → f x ≡ false) → (xs ys : List Span) → AllEnded m xs
    → list_any f (xs ++ ys) ≡ list_any f ys
any-skip m f fails [] ys ended = refl
any-skip m f fails (x ∷ xs) ys ended = ap (λ (b : Bool). b || list_any f (xs ++ ys)) (fails x ended.0 ended.1) ∙ any-skip m f fails xs ys ended.2

find-skip : (m : ℕ) (f : Span → Bool) → ((x : Span) → x.begin < x.end → x.end ≤ m → f x ≡ false) → (xs ys : List Span) → AllEnded m xs
    → find f (xs ++ ys) ≡ find f ys
find-skip m f fails [] ys ended = refl
find-skip m f fails (x ∷ xs) ys ended = ap (λ (b : Bool). cond b (Some x) (find f (xs ++ ys))) (fails x ended.0 ended.1) ∙ find-skip m f fails xs ys ended.2

count-skip : (m : ℕ) (f : Span → Bool) → ((x : Span) → x.begin < x.end → x.end ≤ m → f x ≡ false) → (xs ys : List Span) → AllEnded m xs
    → count_by f (xs ++ ys) ≡ count_by f ys
count-skip m f fails [] ys ended = refl
count-skip m f fails (x ∷ xs) ys ended =
    let rest : count_by f (xs ++ ys) ≡ count_by f ys = count-skip m f fails xs ys ended.2 in
    let one : Bool → ℕ = λ b. cond b 1 0 in
    let none : one (f x) ≡ 0 = ap one (fails x ended.0 ended.1) in
    sum_by-cons (λ (y : Span). one (f y)) x (xs ++ ys) ∙ (let total : one (f x) + count_by f (xs ++ ys) ≡ count_by f ys = omega (arith, rest, none) in total)

pub find-same : {X : Type 0} (f g : X → Bool) → ((x : X) → f x ≡ g x) → (xs : List X) → find f xs ≡ find g xs
find-same {X} f g same [] = refl
find-same {X} f g same (x ∷ xs) = ap (λ (b : Bool). cond b (Some x) (find f xs)) (same x) ∙ ap (λ (o : Option X). cond (g x) (Some x) o) (find-same f g same xs)

-- ---- what was sensed of the past

ended-part_after : (m since : ℕ) (span : Span) (rest : List Span) → span.begin < span.end → span.end ≤ m → AllEnded m rest
    → AllEnded m (cons_option (part_after since span) rest)
ended-part_after m since span rest some over ended =
    by_test (λ (o : Option Span). AllEnded m (cons_option o rest)) (nat_lt since span.end) (Some (record { begin = max span.begin since; end = span.end })) None
    (λ after. (omega (arith, ltb-true since span.end after), over, ended)) (λ _. ended)

ended-sensed : (delay : ℕ) (tap since m : ℕ) (old : List Entry) → AllOver delay m old → AllEnded m (sensed delay tap since old)
ended-sensed delay tap since m [] over = tt
ended-sensed delay tap since m (Noise span ∷ es) over = ended-part_after m since span (sensed delay tap since es) over.0 over.1 (ended-sensed delay tap since m es over.2)
ended-sensed delay tap since m (Sent r ∷ es) over =
    by_test (λ (o : Option Span). AllEnded m (cons_option (option_and_then (part_after since) o) (sensed delay tap since es)))
    (r.tap == tap || is_unheard (slice_get r.heard tap)) None (Some (reaches delay r))
    (λ _. ended-sensed delay tap since m es over.2)
    (λ _. ended-part_after m since (reaches delay r) (sensed delay tap since es) (omega (arith, over.0)) (omega (arith, over.1)) (ended-sensed delay tap since m es over.2))

sensed-append : (delay : ℕ) (tap since : ℕ) (old recent : List Entry) → sensed delay tap since (old ++ recent) ≡ sensed delay tap since old ++ sensed delay tap since recent
sensed-append delay tap since old recent = filter_map-append (λ e. option_and_then (part_after since) (at_tap delay tap e)) old recent

-- ---- bursts

not_through : (b m : ℕ) (x : Span) → x.begin < x.end → x.end ≤ m → m ≤ b → lasts_through b x ≡ false
not_through b m x some over later = grind (arith, nat_tests)

burst_begins-skip : (m : ℕ) (xs ys : List Span) → AllEnded m xs → (b : ℕ) → m ≤ b → burst_begins (xs ++ ys) b ≡ burst_begins ys b
burst_begins-skip m xs ys ended b later =
    ap (λ (c : Bool). c && not (list_any (lasts_through b) (xs ++ ys)))
    (any-skip m (begins_at b) (λ x some over. ne_eqb x.begin b (λ (e : x.begin ≡ b). omega arith)) xs ys ended)
    ∙ ap (λ (c : Bool). list_any (begins_at b) ys && not c) (any-skip m (lasts_through b) (λ x some over. not_through b m x some over later) xs ys ended)

burst_ends-skip : (m : ℕ) (xs ys : List Span) → AllEnded m xs → (e : ℕ) → m < e → burst_ends (xs ++ ys) e ≡ burst_ends ys e
burst_ends-skip m xs ys ended e later =
    ap (λ (c : Bool). c && not (list_any (lasts_through e) (xs ++ ys)))
    (any-skip m (ends_at e) (λ x some over. ne_eqb x.end e (λ (same : x.end ≡ e). omega arith)) xs ys ended)
    ∙ ap (λ (c : Bool). list_any (ends_at e) ys && not c) (any-skip m (lasts_through e) (λ x some over. not_through e m x some over (omega arith)) xs ys ended)

-- two conditions behind a test that is asked first need to agree only where it holds
behind_test : (a b c d : Bool) → (a ≡ true → c ≡ d) → ((a && b) && c) ≡ ((a && b) && d)
behind_test true b c d same = ap (λ (x : Bool). b && x) (same refl)
behind_test false b c d same = refl

begins_in-skip : (m t u : ℕ) (xs ys : List Span) → AllEnded m xs → m ≤ t → (x : Span) → begins_in (xs ++ ys) t u x ≡ begins_in ys t u x
begins_in-skip m t u xs ys ended later x =
    behind_test (nat_le t x.begin) (nat_lt x.begin u) (burst_begins (xs ++ ys) x.begin) (burst_begins ys x.begin)
    (λ from. burst_begins-skip m xs ys ended x.begin (omega (arith, leb-true t x.begin from)))

ends_in-skip : (m t u : ℕ) (xs ys : List Span) → AllEnded m xs → m ≤ t → (x : Span) → ends_in (xs ++ ys) t u x ≡ ends_in ys t u x
ends_in-skip m t u xs ys ended later x =
    behind_test (nat_lt t x.end) (nat_le x.end u) (burst_ends (xs ++ ys) x.end) (burst_ends ys x.end)
    (λ after. burst_ends-skip m xs ys ended x.end (omega (arith, ltb-true t x.end after)))

not_begun_before : (t u : ℕ) (burst : ℕ → Bool) (b e m : ℕ) → b < e → e ≤ m → m ≤ t → (nat_le t b && nat_lt b u && burst b) ≡ false
not_begun_before t u burst b e m some over later = ap (λ (c : Bool). (c && nat_lt b u) && burst b) (lt-leb t b (omega arith))

not_ended_before : (t u : ℕ) (burst : ℕ → Bool) (e m : ℕ) → e ≤ m → m ≤ t → (nat_lt t e && nat_le e u && burst e) ≡ false
not_ended_before t u burst e m over later = ap (λ (c : Bool). (c && nat_le e u) && burst e) (le-ltb t e (omega arith))

find_begin-skip : (m t u : ℕ) (xs ys : List Span) → AllEnded m xs → m ≤ t → find (begins_in (xs ++ ys) t u) (xs ++ ys) ≡ find (begins_in ys t u) ys
find_begin-skip m t u xs ys ended later =
    find-same (begins_in (xs ++ ys) t u) (begins_in ys t u) (begins_in-skip m t u xs ys ended later) (xs ++ ys)
    ∙ find-skip m (begins_in ys t u) (λ x some over. not_begun_before t u (burst_begins ys) x.begin x.end m some over later) xs ys ended

find_end-skip : (m t u : ℕ) (xs ys : List Span) → AllEnded m xs → m ≤ t → find (ends_in (xs ++ ys) t u) (xs ++ ys) ≡ find (ends_in ys t u) ys
find_end-skip m t u xs ys ended later =
    find-same (ends_in (xs ++ ys) t u) (ends_in ys t u) (ends_in-skip m t u xs ys ended later) (xs ++ ys)
    ∙ find-skip m (ends_in ys t u) (λ x some over. not_ended_before t u (burst_ends ys) x.end m over later) xs ys ended

-- what a search finds passes the test
pub passes_found : {X : Type 0} (test : X → Bool) (xs : List X) (x : X) → find test xs ≡ Some x → test x ≡ true
passes_found {X} test [] x = λ e. absurd cc
passes_found {X} test (y ∷ xs) x =
    by_test (λ (o : Option X). o ≡ Some x → test x ≡ true) (test y) (Some y) (find test xs)
    (λ passes e. let same : y ≡ x = cc in subst (λ (z : X). test z ≡ true) same passes) (λ _ e. passes_found test xs x e)

-- ---- telegrams

sends-skip : (delay : ℕ) (tap m : ℕ) (span : Span) (old recent : List Entry) → AllOver delay m old → m ≤ span.begin
    → list_any (sends_during tap span) (old ++ recent) ≡ list_any (sends_during tap span) recent
sends-skip delay tap m span [] recent over later = refl
sends-skip delay tap m span (Noise n ∷ old) recent over later = sends-skip delay tap m span old recent over.2 later
sends-skip delay tap m span (Sent q ∷ old) recent over later =
    ap (λ (b : Bool). b || list_any (sends_during tap span) (old ++ recent)) (not_during (q.tap == tap) q.begin q.end span.begin span.end (omega (arith, over.1)))
    ∙ sends-skip delay tap m span old recent over.2 later
  where
    not_during : (own : Bool) (b e c d : ℕ) → e ≤ c → (own && (nat_lt b d && nat_lt c e)) ≡ false
    not_during true b e c d before = grind (arith, nat_tests)
    not_during false b e c d before = refl

not_overlapping : (span x : Span) → x.end ≤ span.begin → overlaps span x ≡ false
not_overlapping span x before = grind (arith, nat_tests)

-- a telegram that began later fills a burst as if the past had not been
fills_burst-skip : (delay : ℕ) (tap m : ℕ) (t : Tap) (old recent : List Entry) (r : Record) → AllOver delay m old → m ≤ r.begin + delay
    → fills_burst delay tap t (old ++ recent) r ≡ fills_burst delay tap t recent r
fills_burst-skip delay tap m t old recent r over later =
    let span = reaches delay r in
    let heard : Bool = not (r.tap == tap || is_unheard (slice_get r.heard tap)) && hears_from t span.begin in
    let from : m ≤ span.begin = omega arith in
    let counted : count_by (overlaps span) (sensed delay tap t.since (old ++ recent)) ≡ count_by (overlaps span) (sensed delay tap t.since recent) =
    ap (count_by (overlaps span)) (sensed-append delay tap t.since old recent)
    ∙ count-skip m (overlaps span) (λ x some ended. not_overlapping span x (omega (arith, from))) (sensed delay tap t.since old) (sensed delay tap t.since recent)
    (ended-sensed delay tap t.since m old over) in
    ap (λ (n : ℕ). (heard && n == 1) && not (list_any (sends_during tap span) (old ++ recent))) counted
    ∙ ap (λ (b : Bool). (heard && count_by (overlaps span) (sensed delay tap t.since recent) == 1) && not b) (sends-skip delay tap m span old recent over from)

find_recent-skip : (delay : ℕ) (tap m e : ℕ) (t : Tap) (old recent es : List Entry) → AllOver delay m old → AllFrom delay m es
    → find (fills_burst_to delay tap t (old ++ recent) e) es ≡ find (fills_burst_to delay tap t recent e) es
find_recent-skip delay tap m e t old recent [] over from = refl
find_recent-skip delay tap m e t old recent (Noise n ∷ es) over from = find_recent-skip delay tap m e t old recent es over from.1
find_recent-skip delay tap m e t old recent (Sent r ∷ es) over from =
    ap (λ (b : Bool). cond ((reaches delay r).end == e && b) (Some (Sent r)) (find (fills_burst_to delay tap t (old ++ recent) e) es))
    (fills_burst-skip delay tap m t old recent r over from.0)
    ∙ ap (λ (o : Option Entry). cond ((reaches delay r).end == e && fills_burst delay tap t recent r) (Some (Sent r)) o)
    (find_recent-skip delay tap m e t old recent es over from.1)

find_filled-skip : (delay : ℕ) (tap m e : ℕ) (t : Tap) (old past recent : List Entry) → AllOver delay m old → AllOver delay m past → AllFrom delay m recent → m < e
    → find (fills_burst_to delay tap t (old ++ recent) e) (past ++ recent) ≡ find (fills_burst_to delay tap t recent e) recent
find_filled-skip delay tap m e t old [] recent over past from later = find_recent-skip delay tap m e t old recent recent over from
find_filled-skip delay tap m e t old (Noise n ∷ es) recent over past from later = find_filled-skip delay tap m e t old es recent over past.2 from later
find_filled-skip delay tap m e t old (Sent r ∷ es) recent over past from later =
    ap (λ (b : Bool). cond (b && fills_burst delay tap t (old ++ recent) r) (Some (Sent r)) (find (fills_burst_to delay tap t (old ++ recent) e) (es ++ recent)))
    (ne_eqb (reaches delay r).end e (λ (same : (reaches delay r).end ≡ e). omega (arith, past.1)))
    ∙ find_filled-skip delay tap m e t old es recent over past.2 from later

-- ---- marks

end_mark-skip : (delay : ℕ) (tap m from to : ℕ) (t : Tap) (old recent : List Entry) (spans : List Span) → AllOver delay m old → AllFrom delay m recent → m ≤ from
    → (o : Option Span) → find (ends_in spans from to) spans ≡ o → end_mark delay tap t (old ++ recent) to o ≡ end_mark delay tap t recent to o
end_mark-skip delay tap m from to t old recent spans over begun later None found = refl
end_mark-skip delay tap m from to t old recent spans over begun later (Some x) found =
    let ends = passes_found (ends_in spans from to) spans x found in
    let both = and_parts (nat_lt from x.end && nat_le x.end to) (burst_ends spans x.end) ends in
    let window = and_parts (nat_lt from x.end) (nat_le x.end to) both.0 in
    ap (λ (e : Option Entry). End x.end to (entry_characters tap e) ∷ [])
    (find_filled-skip delay tap m x.end t old old recent over over begun (omega (arith, ltb-true from x.end window.0)))

-- what has ended before everything recent began, and before the clock, makes no mark and damages none
pub marks_between-skip : (delay : ℕ) (tap m from to : ℕ) (t : Tap) (old recent : List Entry) → AllOver delay m old → AllFrom delay m recent → m ≤ from
    → marks_between delay tap t (old ++ recent) from to ≡ marks_between delay tap t recent from to
marks_between-skip delay tap m from to t old recent over begun later =
    let xs = sensed delay tap t.since old in
    let ys = sensed delay tap t.since recent in
    let ended = ended-sensed delay tap t.since m old over in
    ap (λ (spans : List Span). begin_mark to (find (begins_in spans from to) spans) ++ end_mark delay tap t (old ++ recent) to (find (ends_in spans from to) spans))
    (sensed-append delay tap t.since old recent)
    ∙ ap (λ (o : Option Span). begin_mark to o ++ end_mark delay tap t (old ++ recent) to (find (ends_in (xs ++ ys) from to) (xs ++ ys))) (find_begin-skip m from to xs ys ended later)
    ∙ ap (λ (o : Option Span). begin_mark to (find (begins_in ys from to) ys) ++ end_mark delay tap t (old ++ recent) to o) (find_end-skip m from to xs ys ended later)
    ∙ ap (λ (ms : List Mark). begin_mark to (find (begins_in ys from to) ys) ++ ms)
    (end_mark-skip delay tap m from to t old recent ys over begun later (find (ends_in ys from to) ys) refl)

-- ---- ends, and what telegrams were

-- the next end is one of a recent entry
pub next_end_of-skip : (delay : ℕ) (m now : ℕ) (old recent : List Entry) → AllOver delay m old → m ≤ now
    → next_end_of delay now (old ++ recent) ≡ next_end_of delay now recent
next_end_of-skip delay m now [] recent over later = refl
next_end_of-skip delay m now (Noise span ∷ old) recent over later =
    ap (λ (b : Bool). earlier (if b then Some span.end else None) (next_end_of delay now (old ++ recent))) (le-ltb now span.end (omega (arith, over.1)))
    ∙ next_end_of-skip delay m now old recent over.2 later
next_end_of-skip delay m now (Sent r ∷ old) recent over later =
    ap (λ (b : Bool). earlier (earlier (if b then Some r.end else None) (later_end now (reaches delay r).end)) (next_end_of delay now (old ++ recent))) (le-ltb now r.end (omega (arith, over.1)))
    ∙ ap (λ (b : Bool). earlier (earlier None (if b then Some (reaches delay r).end else None)) (next_end_of delay now (old ++ recent))) (le-ltb now (reaches delay r).end (omega (arith, over.1)))
    ∙ next_end_of-skip delay m now old recent over.2 later

is_whole_at-skip : (delay : ℕ) (tap m : ℕ) (t : Tap) (old recent : List Entry) (r : Record) → AllOver delay m old → m ≤ r.begin + delay
    → is_whole_at delay tap t (old ++ recent) r ≡ is_whole_at delay tap t recent r
is_whole_at-skip delay tap m t old recent r over later =
    ap (λ (b : Bool). ((t.running && b) && length (characters_at tap r) == length r.octets) && list_all (λ char. not (is_bad char)) (characters_at tap r))
    (fills_burst-skip delay tap m t old recent r over later)

heard_by-skip : (delay : ℕ) (m : ℕ) (old recent : List Entry) (r : Record) (tap : ℕ) (ts : List Tap) (hs : List Heard) → AllOver delay m old → m ≤ r.begin + delay
    → heard_by delay (old ++ recent) r tap ts hs ≡ heard_by delay recent r tap ts hs
heard_by-skip delay m old recent r tap [] hs over later = refl
heard_by-skip delay m old recent r tap (t ∷ ts) [] over later = refl
heard_by-skip delay m old recent r tap (t ∷ ts) (h ∷ hs) over later =
    ap (λ (b : Bool). heard_in_the_end b h ∷ heard_by delay (old ++ recent) r (tap + 1) ts hs) (is_whole_at-skip delay tap m t old recent r over later)
    ∙ ap (λ (rest : List Heard). heard_in_the_end (is_whole_at delay tap t recent r) h ∷ rest) (heard_by-skip delay m old recent r (tap + 1) ts hs over later)

-- what recent telegrams were at the taps is told by the recent entries alone
entries_at-skip : (delay : ℕ) (m from to : ℕ) (taps : List Tap) (old recent es : List Entry) → AllOver delay m old → AllFrom delay m es
    → map (entry_at delay taps (old ++ recent) from to) es ≡ map (entry_at delay taps recent from to) es
entries_at-skip delay m from to taps old recent [] over later = refl
entries_at-skip delay m from to taps old recent (Noise span ∷ es) over later =
    ap (λ (rest : List Entry). Noise span ∷ rest) (entries_at-skip delay m from to taps old recent es over later.1)
entries_at-skip delay m from to taps old recent (Sent r ∷ es) over later =
    ap (λ (hs : List Heard). (if ends_between from to (reaches delay r) then Sent (record r { heard = hs }) else Sent r) ∷ map (entry_at delay taps (old ++ recent) from to) es)
    (heard_by-skip delay m old recent r 0 taps r.heard over later.0)
    ∙ ap (λ (rest : List Entry). entry_at delay taps recent from to (Sent r) ∷ rest) (entries_at-skip delay m from to taps old recent es over later.1)

-- what has ended stays as it is
over-stays : (delay : ℕ) (m from to : ℕ) (taps : List Tap) (trace es : List Entry) → AllOver delay m es → m ≤ from
    → map (entry_at delay taps trace from to) es ≡ es
over-stays delay m from to taps trace [] over later = refl
over-stays delay m from to taps trace (Noise span ∷ es) over later = ap (λ (rest : List Entry). Noise span ∷ rest) (over-stays delay m from to taps trace es over.2 later)
over-stays delay m from to taps trace (Sent r ∷ es) over later =
    ap (λ (b : Bool). (if b && nat_le (reaches delay r).end to then Sent (record r { heard = heard_by delay trace r 0 taps r.heard }) else Sent r) ∷ map (entry_at delay taps trace from to) es)
    (le-ltb from (reaches delay r).end (omega (arith, over.1)))
    ∙ ap (λ (rest : List Entry). Sent r ∷ rest) (over-stays delay m from to taps trace es over.2 later)

pub trace_at-skip : (delay : ℕ) (m from to : ℕ) (taps : List Tap) (old recent : List Entry) → AllOver delay m old → AllFrom delay m recent → m ≤ from
    → map (entry_at delay taps (old ++ recent) from to) (old ++ recent) ≡ old ++ map (entry_at delay taps recent from to) recent
trace_at-skip delay m from to taps old recent over begun later =
    map-append (entry_at delay taps (old ++ recent) from to) old recent
    ∙ ap (λ (xs : List Entry). xs ++ map (entry_at delay taps (old ++ recent) from to) recent) (over-stays delay m from to taps (old ++ recent) old over later)
    ∙ ap (λ (xs : List Entry). old ++ xs) (entries_at-skip delay m from to taps old recent recent over begun)
