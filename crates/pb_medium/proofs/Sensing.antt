-- What a tap senses: tests and choices over mapped lists, the next end, bursts and characters.
use Rattle.std.proofs.Common.{◌≡◌, ℕ, ◌+◌, ◌<◌, List, [], ◌∷◌, ◌++◌, Bool, true, false, cond, if◌then◌else◌, not, ◌||◌, ◌&&◌, ◌==◌, refl, ap, sym, ◌∙◌, arith, Option, Some, None, map, length, get_or, drop, append_assoc, add-one, drop-cons}
use Rattle.std.proofs.Math.Bool.{and-true}
use Rattle.std.proofs.lemmas.Bool.Decides.{nat_tests}
use Rattle.std.proofs.lemmas.List.{length-take-le}
use Rattle.pb_timers.specs.Timers.{bits}
use Rattle.std.specs.Prelude.{◌-◌, ◌/◌, ◌≤◌, take, nat_lt, nat_le, min, filter, filter_map, find, fold, count_by, slice_get}
use Rattle.std.specs.List.{list_any, list_all, cons_option, reduce}
use Rattle.std.specs.Option.{option_map}
use Rattle.pb_telegram.specs.Faults.{is_bad}
use Rattle.pb_telegram.specs.declared.chars.RxChar.{RxChar}
use Rattle.pb_telegram.specs.declared.chars.RxChar.TheVariants.{Good, Bad}
use Rattle.law_model.specs.Medium.{Tap, reaches, reaches_taps, is_unheard, sensed, hears_from, overlaps, sends_during, fills_burst, is_whole_at}
use Rattle.law_turn.specs.Stations.{earlier}
use Rattle.law_model.specs.Trace.{Hit, Record, Entry, hits_place, characters_from, characters_at}
use Rattle.law_model.specs.World.{later_end, entry_next_end, next_end_of}
use Rattle.law_runs.specs.Bus.{next_known}
use Rattle.pb_medium.specs.Senses.{is_alone, is_undamaged}

pub list_any-map : {X Y : Type 0} (test : Y → Bool) (f : X → Y) (xs : List X) → list_any test (map f xs) ≡ list_any (λ x. test (f x)) xs
list_any-map test f [] = refl
list_any-map test f (x ∷ xs) = ap (λ (b : Bool). test (f x) || b) (list_any-map test f xs)

pub filter_map-map : {X Y Z : Type 0} (h : Y → Option Z) (f : X → Y) (xs : List X) → filter_map h (map f xs) ≡ filter_map (λ x. h (f x)) xs
filter_map-map h f [] = refl
filter_map-map h f (x ∷ xs) = ap (cons_option (h (f x))) (filter_map-map h f xs)

-- the choice of a found element, once the test of the first is known
find-step : {X Y : Type 0} (f : X → Y) (b : Bool) (x : X) (o : Option X) (r : Option Y) → r ≡ option_map f o → cond b (Some (f x)) r ≡ option_map f (cond b (Some x) o)
find-step f true x o r e = refl
find-step f false x o r e = e

find-map : {X Y : Type 0} (test : Y → Bool) (f : X → Y) (xs : List X) → find test (map f xs) ≡ option_map f (find (λ x. test (f x)) xs)
find-map test f [] = refl
find-map test f (x ∷ xs) = find-step f (test (f x)) x (find (λ y. test (f y)) xs) (find test (map f xs)) (find-map test f xs)

map-seen : {X Y Z : Type 0} (f : Y → Z) (v : X → Y) (o : Option X) → option_map (λ x. f (v x)) o ≡ option_map f (option_map v o)
map-seen f v None = refl
map-seen f v (Some x) = refl

-- what is found through references
pub found-map : {X Y Z : Type 0} (test : Z → Bool) (f : Y → Z) (v : X → Y) (ys : List Y) (o : Option X) → option_map v o ≡ find (λ y. test (f y)) ys
    → option_map (λ x. f (v x)) o ≡ find test (map f ys)
found-map test f v ys o e = map-seen f v o ∙ ap (option_map f) e ∙ sym (find-map test f ys)

-- ---- the next end

earlier-assoc : (a b : ℕ) (o : Option ℕ) → earlier (Some (min a b)) o ≡ earlier (Some a) (earlier (Some b) o)
earlier-assoc a b None = refl
earlier-assoc a b (Some c) = ap (λ (n : ℕ). Some n) (omega arith)

fold-earlier : (a : ℕ) (xs : List ℕ) → Some (fold min a xs) ≡ earlier (Some a) (reduce min xs)
fold-earlier a [] = refl
fold-earlier a (x ∷ xs) = fold-earlier (min a x) xs ∙ earlier-assoc a x (reduce min xs) ∙ ap (earlier (Some a)) (sym (fold-earlier x xs))

-- the least of some moments with one more, if there is one
least-step : (o : Option ℕ) (ms : List ℕ) → reduce min (cons_option o ms) ≡ earlier o (reduce min ms)
least-step None ms = refl
least-step (Some m) ms = fold-earlier m ms

pub least-end : (delay now : ℕ) (es : List Entry) → reduce min (filter_map (entry_next_end delay now) es) ≡ next_end_of delay now es
least-end delay now [] = refl
least-end delay now (e ∷ es) =
    least-step (entry_next_end delay now e) (filter_map (entry_next_end delay now) es) ∙ ap (earlier (entry_next_end delay now e)) (least-end delay now es)

-- ---- the next begin

one-later : (m : ℕ) (o : Option ℕ) → option_map (λ n. n + 1) (earlier (Some m) o) ≡ earlier (Some (m + 1)) (option_map (λ n. n + 1) o)
one-later m None = refl
one-later m (Some n) = ap (λ (k : ℕ). Some k) (let same : min m n + 1 ≡ min (m + 1) (n + 1) = omega arith in same)

begin-step : (b c : Bool) (m : ℕ) (ms : List ℕ) → c ≡ b → option_map (λ n. n + 1) (reduce min (cond b (m ∷ ms) ms)) ≡ earlier (if c then Some (m + 1) else None) (option_map (λ n. n + 1) (reduce min ms))
begin-step true true m ms same = ap (option_map (λ n. n + 1)) (fold-earlier m ms) ∙ one-later m (reduce min ms)
begin-step false false m ms same = refl
begin-step true false m ms same = absurd cc
begin-step false true m ms same = absurd cc

begins-late : (now m : ℕ) → nat_lt now (m + 1) ≡ nat_le now m
begins-late now m = grind (arith, nat_tests)

pub least-later-begin : (delay now : ℕ) (es : List Entry) → option_map (λ n. n + 1) (reduce min (filter (λ m. nat_le now m) (map (λ e. (reaches_taps delay e).begin) es))) ≡ next_known delay now es
least-later-begin delay now [] = refl
least-later-begin delay now (e ∷ es) =
    let begin = (reaches_taps delay e).begin in
    let rest = filter (λ m. nat_le now m) (map (λ x. (reaches_taps delay x).begin) es) in
    begin-step (nat_le now begin) (nat_lt now (begin + 1)) begin rest (begins-late now begin)
    ∙ ap (earlier (later_end now (begin + 1))) (least-later-begin delay now es)

-- ---- bursts

second-first : (a b c d : Bool) → (b && (a && (c && d))) ≡ (a && b && c && d)
second-first true true c d = refl
second-first true false c d = refl
second-first false true c d = refl
second-first false false c d = refl

pub burst-filled : (delay tap : ℕ) (t : Tap) (trace : List Entry) (r : Record) (hears alone : Bool) → hears ≡ hears_from t (reaches delay r).begin → alone ≡ is_alone delay tap t.since trace r
    → (hears && alone) ≡ fills_burst delay tap t trace r
burst-filled delay tap t trace r hears alone h a =
    ap (λ (b : Bool). b && alone) h ∙ ap (λ (b : Bool). hears_from t (reaches delay r).begin && b) a
    ∙ second-first (not (r.tap == tap || is_unheard (slice_get r.heard tap))) (hears_from t (reaches delay r).begin)
    (count_by (overlaps (reaches delay r)) (sensed delay tap t.since trace) == 1) (not (list_any (sends_during tap (reaches delay r)) trace))

whole-parts : (a b c d : Bool) → a ≡ true → (b && (c && d)) ≡ (a && b && c && d)
whole-parts true true c d e = refl
whole-parts true false c d e = refl
whole-parts false b c d e = absurd cc

pub whole-filled : (delay tap : ℕ) (t : Tap) (trace : List Entry) (r : Record) (fills undamaged : Bool) → t.running ≡ true → fills ≡ fills_burst delay tap t trace r
    → undamaged ≡ is_undamaged tap r → (fills && undamaged) ≡ is_whole_at delay tap t trace r
whole-filled delay tap t trace r fills undamaged runs f u =
    ap (λ (b : Bool). b && undamaged) f ∙ ap (λ (b : Bool). fills_burst delay tap t trace r && b) u
    ∙ whole-parts t.running (fills_burst delay tap t trace r) (length (characters_at tap r) == length r.octets) (list_all (λ char. not (is_bad char)) (characters_at tap r)) runs

-- ---- characters

pub characters-step : (tap : ℕ) (hits : List Hit) (place : ℕ) (octets : List ℕ) (chars : List RxChar) (char : RxChar) → place < length octets
    → char ≡ (if list_any (hits_place tap place) hits then Bad else Good (get_or octets place 0))
    → (chars ++ char ∷ []) ++ characters_from tap hits (place + 1) (drop (place + 1) octets) ≡ chars ++ characters_from tap hits place (drop place octets)
characters-step tap hits place octets chars char within e =
    let rest = characters_from tap hits (place + 1) (drop (place + 1) octets) in
    let next : drop place octets ≡ get_or octets place 0 ∷ drop (place + 1) octets = rw add-one (drop-cons octets place 0 within) in
    append_assoc chars (char ∷ []) rest ∙ ap (λ (c : RxChar). chars ++ c ∷ rest) e ∙ ap (λ (xs : List ℕ). chars ++ characters_from tap hits place xs) (sym next)

characters-length : (tap place : ℕ) (hits : List Hit) (octets : List ℕ) → length (characters_from tap hits place octets) ≡ length octets
characters-length tap place hits [] = refl
characters-length tap place hits (octet ∷ octets) = omega (arith, characters-length tap (place + 1) hits octets)

unhit-good : (tap place : ℕ) (octets : List ℕ) → list_all (λ char. not (is_bad char)) (characters_from tap [] place octets) ≡ true
unhit-good tap place [] = refl
unhit-good tap place (octet ∷ octets) = unhit-good tap (place + 1) octets

-- octets that nothing hits come the same to all taps
unhit-anywhere : (one other place : ℕ) (octets : List ℕ) → characters_from one [] place octets ≡ characters_from other [] place octets
unhit-anywhere one other place [] = refl
unhit-anywhere one other place (octet ∷ octets) = ap (λ (chars : List RxChar). Good octet ∷ chars) (unhit-anywhere one other (place + 1) octets)

pub unhit-characters : (tap : ℕ) (r : Record) (sent : ℕ) → r.hits ≡ [] → take sent r.octets ≡ take ((r.end - r.begin) / bits 1) r.octets
    → characters_from 0 [] 0 (take sent r.octets) ≡ characters_at tap r
unhit-characters tap r sent none taken =
    unhit-anywhere 0 tap 0 (take sent r.octets) ∙ ap (characters_from tap [] 0) taken
    ∙ sym (ap (λ (hits : List Hit). characters_from tap hits 0 (take ((r.end - r.begin) / bits 1) r.octets)) none)

-- a telegram without a hit comes undamaged where all its octets went out
pub unhit-undamaged : (tap : ℕ) (r : Record) (sent : ℕ) → r.hits ≡ [] → take sent r.octets ≡ take ((r.end - r.begin) / bits 1) r.octets → sent ≤ length r.octets
    → (sent == length r.octets) ≡ is_undamaged tap r
unhit-undamaged tap r sent none taken few =
    let out = take ((r.end - r.begin) / bits 1) r.octets in
    let count : length (characters_at tap r) ≡ sent = characters-length tap 0 r.hits out ∙ ap length (sym taken) ∙ length-take-le sent r.octets few in
    let good : list_all (λ char. not (is_bad char)) (characters_at tap r) ≡ true =
    ap (λ (hits : List Hit). list_all (λ char. not (is_bad char)) (characters_from tap hits 0 out)) none ∙ unhit-good tap 0 out in
    sym (ap (λ (b : Bool). length (characters_at tap r) == length r.octets && b) good ∙ and-true _ ∙ ap (λ (n : ℕ). n == length r.octets) count)
