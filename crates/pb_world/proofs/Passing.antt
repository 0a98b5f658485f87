-- What a pass tells the taps.
use Rattle.std.proofs.Common.{◌≡◌, ℕ, zero, suc, ◌+◌, ◌<◌, ◌≤◌, List, [], ◌∷◌, ◌++◌, Bool, true, false, if◌then◌else◌, length, map, get_or, set, take, drop, refl, ap, sym, ◌∙◌, subst, arith, length-append, Option, Some, None}
use Rattle.std.specs.Prelude.{nat_lt, nat_le, ◌&&◌, find, is_some, IfSome}
use Rattle.std.specs.Option.{option_map}
use Rattle.std.proofs.lemmas.Bool.{ltb-true, ltb-false, leb-true, lt-ltb, le-ltb, and_parts}
use Rattle.std.proofs.lemmas.List.{append-nil, at_drop_more, length-map}
use Rattle.std.proofs.Math.Seq.{map-set_same}
use Rattle.law_turn.specs.Spans.{Span}
use Rattle.law_turn.specs.Marks.{Mark, End}
use Rattle.law_model.specs.Trace.{Entry, Sent, Noise}
use Rattle.law_model.specs.Medium.{Tap, sensed, fills_burst_to, entry_characters, burst_begins, burst_ends, burst_characters, begins_in, ends_in, begin_mark, end_mark, marks_between, new_marks}
use Rattle.law_model.specs.Laws.{begin_of}
use Rattle.law_model.specs.World.{mark_limit}
use Rattle.law_model.specs.Step.{told, first_full}
use Rattle.law_model.proofs.Cases.{by_test}
use Rattle.law_model.proofs.Past.{find-same, passes_found}
use Rattle.pb_medium.specs.Senses.{begin_between, end_between}
use Rattle.pb_taps.specs.declared.taps.Tap as declared
use Rattle.pb_taps.specs.Taps.{seat_of, tap_of}
use Rattle.pb_taps.proofs.Replacing.{changed-more, changed-at, changed-all}
use Rattle.pb_world.specs.Passes.{with_news, unread_after, end_of}

-- ---- what a pass tells

pub told-length : (delay : ℕ) (trace : List Entry) (from to tap : ℕ) (ts : List Tap) → length (told delay trace from to tap ts) ≡ length ts
told-length delay trace from to tap [] = refl
told-length delay trace from to tap (t ∷ ts) = ap (λ (n : ℕ). suc n) (told-length delay trace from to (tap + 1) ts)

pub told-at : (delay : ℕ) (trace : List Entry) (from to tap : ℕ) (ts : List Tap) (i n : ℕ) (d : Tap) → tap + i ≡ n → i < length ts
    → get_or (told delay trace from to tap ts) i d ≡ with_news delay n (get_or ts i d) trace from to
told-at delay trace from to tap [] i n d same within = absurd (omega arith)
told-at delay trace from to tap (t ∷ ts) zero n d same within = ap (λ (m : ℕ). with_news delay m t trace from to) (let e : tap ≡ n = omega arith in e)
told-at delay trace from to tap (t ∷ ts) (suc i) n d same within = told-at delay trace from to (tap + 1) ts i n d (omega arith) (omega arith)

-- where nothing is recent, nobody is told anything
nothing-new : (delay tap : ℕ) (t : Tap) (from to : ℕ) (runs : Bool) → (if runs then marks_between delay tap t [] from to else []) ≡ []
nothing-new delay tap t from to true = refl
nothing-new delay tap t from to false = refl

pub nobody-told : (delay from to tap : ℕ) (ts : List Tap) → told delay [] from to tap ts ≡ ts
nobody-told delay from to tap [] = refl
nobody-told delay from to tap (t ∷ ts) =
    ap (λ (ms : List Mark). record t { marks = t.marks ++ ms } ∷ told delay [] from to (tap + 1) ts) (nothing-new delay tap t from to t.running)
    ∙ ap (λ (ms : List Mark). record t { marks = ms } ∷ told delay [] from to (tap + 1) ts) (append-nil t.marks)
    ∙ ap (λ (xs : List Tap). t ∷ xs) (nobody-told delay from to (tap + 1) ts)

-- a tap that has more unread marks than it may is the first one, and else it is among the others
pub full-here : (tap : ℕ) (t : Tap) (ts : List Tap) → mark_limit < length t.marks → first_full tap (t ∷ ts) ≡ Some tap
full-here tap t ts full = ap (λ (b : Bool). if b then Some tap else first_full (tap + 1) ts) (lt-ltb mark_limit (length t.marks) full)

pub full-later : (tap : ℕ) (t : Tap) (ts : List Tap) → length t.marks ≤ mark_limit → first_full tap (t ∷ ts) ≡ first_full (tap + 1) ts
full-later tap t ts fits = ap (λ (b : Bool). if b then Some tap else first_full (tap + 1) ts) (le-ltb mark_limit (length t.marks) fits)

first-fits : (tap : ℕ) (t : Tap) (ts : List Tap) → first_full tap (t ∷ ts) ≡ None → length t.marks ≤ mark_limit
first-fits tap t ts =
    by_test (λ (o : Option ℕ). o ≡ None → length t.marks ≤ mark_limit) (nat_lt mark_limit (length t.marks)) (Some tap) (first_full (tap + 1) ts)
    (λ full none. absurd cc) (λ fits none. ltb-false mark_limit (length t.marks) fits)

none-full : (tap : ℕ) (ts : List Tap) → first_full tap ts ≡ None → (i : ℕ) (d : Tap) → i < length ts → length (get_or ts i d).marks ≤ mark_limit
none-full tap [] none i d within = absurd (omega arith)
none-full tap (t ∷ ts) none zero d within = first-fits tap t ts none
none-full tap (t ∷ ts) none (suc i) d within = none-full (tap + 1) ts (sym (full-later tap t ts (first-fits tap t ts none)) ∙ none) i d (omega arith)

-- where no tap is told more than it may have unread, there is room for the news of each
pub room-for-news : (delay : ℕ) (trace : List Entry) (from to : ℕ) (ts : List Tap) (i : ℕ) (d : Tap) → first_full 0 (told delay trace from to 0 ts) ≡ None
    → i < length ts → length (get_or ts i d).marks + length (new_marks delay i (get_or ts i d) trace from to) ≤ mark_limit
room-for-news delay trace from to ts i d none within =
    let at : get_or (told delay trace from to 0 ts) i d ≡ with_news delay i (get_or ts i d) trace from to = told-at delay trace from to 0 ts i i d (let e : 0 + i ≡ i = omega arith in e) within in
    let fits = none-full 0 (told delay trace from to 0 ts) none i d (omega (arith, within, told-length delay trace from to 0 ts)) in
    let sum : length (with_news delay i (get_or ts i d) trace from to).marks ≤ mark_limit = subst (λ (t : Tap). length t.marks ≤ mark_limit) at fits in
    omega (arith, sum, length-append (get_or ts i d).marks (new_marks delay i (get_or ts i d) trace from to))

-- what is told of the taps from a position on
pub from-position : {X : Type 0} (f : X → Tap) (delay : ℕ) (trace : List Entry) (from to : ℕ) (xs : List X) (i : ℕ) (x : X) → i < length xs → x ≡ get_or xs i x
    → told delay trace from to i (map f (drop i xs)) ≡ with_news delay i (f x) trace from to ∷ told delay trace from to (i + 1) (map f (drop (i + 1) xs))
from-position {X} f delay trace from to xs i x within is =
    at_drop_more (λ (ys : List X). told delay trace from to i (map f ys)) xs i x within
    ∙ ap (λ (y : X). with_news delay i (f y) trace from to ∷ told delay trace from to (i + 1) (map f (drop (i + 1) xs))) (sym is)

-- ---- the taps are told one after another

-- the taps before a position have been told; each station is where it was
pub record ToldTo (delay : ℕ) (trace : List Entry) (from to : ℕ) (old now : List declared.Tap) (i : ℕ) : Type 0 where
  pub told : map tap_of now ≡ take i (told delay trace from to 0 (map tap_of old)) ++ drop i (map tap_of old)
  pub seats : map seat_of now ≡ map seat_of old

told-long : (delay : ℕ) (trace : List Entry) (from to : ℕ) (old : List declared.Tap) → length (told delay trace from to 0 (map tap_of old)) ≡ length old
told-long delay trace from to old = told-length delay trace from to 0 (map tap_of old) ∙ length-map old tap_of

-- the one at the position is as it was
still-old : (delay : ℕ) (trace : List Entry) (from to : ℕ) (old now : List declared.Tap) (i : ℕ) (x : declared.Tap) → ToldTo delay trace from to old now i → i < length old
    → tap_of (get_or now i x) ≡ get_or (map tap_of old) i (tap_of x)
still-old delay trace from to old now i x so_far within =
    changed-at tap_of (told delay trace from to 0 (map tap_of old)) old now i x so_far.told (told-long delay trace from to old) within

-- it has room for its news
pub room-at : (delay : ℕ) (trace : List Entry) (from to : ℕ) (old now : List declared.Tap) (i : ℕ) (x : declared.Tap) → ToldTo delay trace from to old now i
    → first_full 0 (told delay trace from to 0 (map tap_of old)) ≡ None → i < length old → unread_after delay i (tap_of (get_or now i x)) trace from to ≤ mark_limit
room-at delay trace from to old now i x so_far none within =
    subst (λ (t : Tap). unread_after delay i t trace from to ≤ mark_limit) (sym (still-old delay trace from to old now i x so_far within))
    (room-for-news delay trace from to (map tap_of old) i (tap_of x) none (omega (arith, length-map old tap_of, within)))

-- it is told too
pub told-more : (delay : ℕ) (trace : List Entry) (from to : ℕ) (old now : List declared.Tap) (i : ℕ) (x new : declared.Tap) → ToldTo delay trace from to old now i → i < length old
    → tap_of new ≡ with_news delay i (tap_of (get_or now i x)) trace from to → seat_of new ≡ seat_of (get_or now i x) → ToldTo delay trace from to old (set now i new) (i + 1)
told-more delay trace from to old now i x new so_far within is seat = record {
  told = changed-more tap_of (told delay trace from to 0 (map tap_of old)) old now i new (tap_of x) so_far.told (told-long delay trace from to old) within
      (is ∙ ap (λ (t : Tap). with_news delay i t trace from to) (still-old delay trace from to old now i x so_far within)
      ∙ sym (told-at delay trace from to 0 (map tap_of old) i i (tap_of x) (let none : 0 + i ≡ i = omega arith in none) (omega (arith, length-map old tap_of, within))));
  seats = map-set_same seat_of now i new x seat ∙ so_far.seats;
}

-- all have been told
pub told-all : (delay : ℕ) (trace : List Entry) (from to : ℕ) (old now : List declared.Tap) (i : ℕ) → ToldTo delay trace from to old now i → length old ≤ i
    → map tap_of now ≡ told delay trace from to 0 (map tap_of old)
told-all delay trace from to old now i so_far over =
    changed-all tap_of (told delay trace from to 0 (map tap_of old)) old now i so_far.told (told-long delay trace from to old) over

-- ---- what one tap is told

begin_mark-of : (seen : ℕ) (o : Option Span) → begin_mark seen o ≡ begin_of seen (option_map (λ (x : Span). x.begin) o)
begin_mark-of seen None = refl
begin_mark-of seen (Some x) = refl

end_mark-of : (delay : ℕ) (tap : ℕ) (t : Tap) (trace : List Entry) (seen : ℕ) (o : Option Span) → end_mark delay tap t trace seen o ≡ end_of delay tap t trace seen (option_map (λ (x : Span). x.end) o)
end_mark-of delay tap t trace seen None = refl
end_mark-of delay tap t trace seen (Some x) = refl

-- what a tap that runs is told
pub told-running : (delay : ℕ) (tap : ℕ) (t : Tap) (trace : List Entry) (from to : ℕ) (begin end : Option ℕ) → t.running ≡ true
    → begin ≡ begin_between (sensed delay tap t.since trace) from to → end ≡ end_between (sensed delay tap t.since trace) from to
    → new_marks delay tap t trace from to ≡ begin_of to begin ++ end_of delay tap t trace to end
told-running delay tap t trace from to begin end runs b e =
    let spans = sensed delay tap t.since trace in
    ap (λ (r : Bool). if r then marks_between delay tap t trace from to else []) runs
    ∙ ap (λ (ms : List Mark). ms ++ end_mark delay tap t trace to (find (ends_in spans from to) spans)) (begin_mark-of to (find (begins_in spans from to) spans))
    ∙ ap (λ (ms : List Mark). begin_of to (begin_between spans from to) ++ ms) (end_mark-of delay tap t trace to (find (ends_in spans from to) spans))
    ∙ ap (λ (o : Option ℕ). begin_of to o ++ end_of delay tap t trace to (end_between spans from to)) (sym b)
    ∙ ap (λ (o : Option ℕ). begin_of to begin ++ end_of delay tap t trace to o) (sym e)

-- a tap that doesn't run is told nothing
pub told-stopped : (delay : ℕ) (tap : ℕ) (t : Tap) (trace : List Entry) (from to : ℕ) → t.running ≡ false → new_marks delay tap t trace from to ≡ []
told-stopped delay tap t trace from to rests = ap (λ (r : Bool). if r then marks_between delay tap t trace from to else []) rests

-- how much it is told
pub count-begin : (seen : ℕ) (o : Option ℕ) → length (begin_of seen o) ≡ (if is_some o then 1 else 0)
count-begin seen None = refl
count-begin seen (Some m) = refl

pub count-end : (delay : ℕ) (tap : ℕ) (t : Tap) (trace : List Entry) (seen : ℕ) (o : Option ℕ) → length (end_of delay tap t trace seen o) ≡ (if is_some o then 1 else 0)
count-end delay tap t trace seen None = refl
count-end delay tap t trace seen (Some m) = refl

-- a burst that a pass tells of begins and ends at a moment that is not later than the clock
begin-soon : (from to : ℕ) (xs : List Span) (o : Option Span) → find (begins_in xs from to) xs ≡ o → IfSome (option_map (λ (x : Span). x.begin) o) (λ m. m ≤ to)
begin-soon from to xs None found = tt
begin-soon from to xs (Some x) found =
    let both = and_parts (nat_le from x.begin && nat_lt x.begin to) (burst_begins xs x.begin) (passes_found (begins_in xs from to) xs x found) in
    omega (arith, ltb-true x.begin to (and_parts (nat_le from x.begin) (nat_lt x.begin to) both.0).1)

pub begin-by : (from to : ℕ) (xs : List Span) → IfSome (begin_between xs from to) (λ m. m ≤ to)
begin-by from to xs = begin-soon from to xs (find (begins_in xs from to) xs) refl

end-soon : (from to : ℕ) (xs : List Span) (o : Option Span) → find (ends_in xs from to) xs ≡ o → IfSome (option_map (λ (x : Span). x.end) o) (λ m. m ≤ to)
end-soon from to xs None found = tt
end-soon from to xs (Some x) found =
    let both = and_parts (nat_lt from x.end && nat_le x.end to) (burst_ends xs x.end) (passes_found (ends_in xs from to) xs x found) in
    leb-true x.end to (and_parts (nat_lt from x.end) (nat_le x.end to) both.0).1

pub end-by : (from to : ℕ) (xs : List Span) → IfSome (end_between xs from to) (λ m. m ≤ to)
end-by from to xs = end-soon from to xs (find (ends_in xs from to) xs) refl

pub some-by : (m n : ℕ) (o : Option ℕ) → m ≤ n → IfSome o (λ k. k ≤ m) → IfSome o (λ k. k ≤ n)
some-by m n None le by = tt
some-by m n (Some k) le by = omega (arith, le, by)

-- the unread marks don't matter to the characters of a burst
characters-unread : (delay : ℕ) (tap : ℕ) (t : Tap) (ms : List Mark) (trace : List Entry) (m : ℕ)
    → burst_characters delay tap (record t { marks = ms }) trace m ≡ burst_characters delay tap t trace m
characters-unread delay tap t ms trace m = ap (entry_characters tap) (find-same (fills_burst_to delay tap (record t { marks = ms }) trace m) (fills_burst_to delay tap t trace m) same trace)
  where
    same : (e : Entry) → fills_burst_to delay tap (record t { marks = ms }) trace m e ≡ fills_burst_to delay tap t trace m e
    same (Noise span) = refl
    same (Sent r) = refl

pub end-unread : (delay : ℕ) (tap : ℕ) (t : Tap) (ms : List Mark) (trace : List Entry) (seen : ℕ) (o : Option ℕ)
    → end_of delay tap (record t { marks = ms }) trace seen o ≡ end_of delay tap t trace seen o
end-unread delay tap t ms trace seen None = refl
end-unread delay tap t ms trace seen (Some m) = ap (λ chars. End m seen chars ∷ []) (characters-unread delay tap t ms trace m)
