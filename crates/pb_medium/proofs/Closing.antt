-- What is over, and what is not.
use Rattle.std.proofs.Common.{◌≡◌, ◌∙◌, ap, sym, refl, subst, ℕ, suc, zero, None, Some, map, ◌≤◌, List, [], ◌∷◌, ◌++◌, ◌+◌, ◌-◌, max, length, Bool, true, false, cond, not, ◌&&◌, if◌then◌else◌, nat_lt, nat_le, arith}
use Rattle.std.specs.Prelude.{take, drop, unwrap_or}
use Rattle.std.specs.List.{fold, position, position_or_len}
use Rattle.std.proofs.Math.Seq.{take-add}
use Rattle.std.proofs.lemmas.Bool.{and_parts, ltb-false, leb-true}
use Rattle.std.proofs.lemmas.List.{drop-drop, drop-map, length-drop, take-append-drop, take-map, take_all}
use Rattle.law_model.specs.Trace.{Entry}
use Rattle.law_model.specs.Medium.{reaches_taps}
use Rattle.law_model.specs.Laws.{AllBegun, AllOver, AllFrom}
use Rattle.pb_medium.specs.Airs.{IsCut}
use Rattle.pb_medium.specs.Settling.{count_over, first_ended, latest_end, none_before, over_after}

over-later : (delay m n : ℕ) (es : List Entry) → m ≤ n → AllOver delay m es → AllOver delay n es
over-later delay m n [] le over = tt
over-later delay m n (e ∷ es) le over = (over.0, omega (arith, over.1, le), over-later delay m n es le over.2)

over-append : (delay m : ℕ) (xs ys : List Entry) → AllOver delay m xs → AllOver delay m ys → AllOver delay m (xs ++ ys)
over-append delay m [] ys over more = more
over-append delay m (x ∷ xs) ys over more = (over.0, over.1, over-append delay m xs ys over.2 more)

pub begun-behind : (now : ℕ) (xs ys : List Entry) → AllBegun now (xs ++ ys) → AllBegun now ys
begun-behind now [] ys begun = begun
begun-behind now (x ∷ xs) ys begun = begun-behind now xs ys begun.2

-- ---- those that have ended

first-over : (delay now : ℕ) (es : List Entry) → AllBegun now es → AllOver delay now (take (first_ended delay now es) es)
first-over delay now [] begun = tt
first-over delay now (e ∷ es) begun = by_end (first-over delay now es begun.2) (nat_lt now (reaches_taps delay e).end) refl
  where
    by_end : AllOver delay now (take (first_ended delay now es) es) → (b : Bool) → nat_lt now (reaches_taps delay e).end ≡ b
        → AllOver delay now (take (cond (not b) (1 + first_ended delay now es) 0) (e ∷ es))
    by_end rest true later = tt
    by_end rest false later =
        let same : suc (first_ended delay now es) ≡ 1 + first_ended delay now es = omega arith in
        subst (λ n. AllOver delay now (take n (e ∷ es))) same (begun.1, ltb-false now (reaches_taps delay e).end later, rest)

place-within : (test : Entry → Bool) (es : List Entry) → position_or_len test es ≤ length es
place-within test [] = omega arith
place-within test (e ∷ es) = by_test (place-within test es) (test e)
  where
    by_test : position_or_len test es ≤ length es → (b : Bool) → cond (not b) (1 + position_or_len test es) 0 ≤ suc (length es)
    by_test le true = omega arith
    by_test le false = omega (arith, le)

pub first-within : (delay now : ℕ) (es : List Entry) → first_ended delay now es ≤ length es
first-within delay now es = place-within (λ e. nat_lt now (reaches_taps delay e).end) es

-- ---- the latest end of some

abbrev latest_from : ℕ → ℕ → List Entry → ℕ
latest_from delay a es = fold (λ m e. max m (reaches_taps delay e).end) a es

latest-grows : (delay a : ℕ) (es : List Entry) → a ≤ latest_from delay a es
latest-grows delay a [] = omega arith
latest-grows delay a (e ∷ es) = let le = latest-grows delay (max a (reaches_taps delay e).end) es in omega (arith, le)

latest-covers : (delay a now : ℕ) (es : List Entry) → AllOver delay now es → AllOver delay (latest_from delay a es) es
latest-covers delay a now [] over = tt
latest-covers delay a now (e ∷ es) over =
    let next = max a (reaches_taps delay e).end in
    let le = latest-grows delay next es in
    (over.0, omega (arith, le), latest-covers delay next now es over.2)

latest-within : (delay a now : ℕ) (es : List Entry) → a ≤ now → AllOver delay now es → latest_from delay a es ≤ now
latest-within delay a now [] le over = le
latest-within delay a now (e ∷ es) le over = latest-within delay (max a (reaches_taps delay e).end) now es (omega (arith, le, over.1)) over.2

-- ---- the others

from-tested : (delay m : ℕ) (es : List Entry) → none_before delay m es ≡ true → AllFrom delay m es
from-tested delay m [] none = tt
from-tested delay m (e ∷ es) none =
    let both = and_parts (nat_le m (reaches_taps delay e).begin) (none_before delay m es) none in
    (leb-true m (reaches_taps delay e).begin both.0, from-tested delay m es both.1)

from-both : (delay m n : ℕ) (es : List Entry) → AllFrom delay m es → AllFrom delay n es → AllFrom delay (max m n) es
from-both delay m n [] one two = tt
from-both delay m n (e ∷ es) one two = (omega (arith, one.0, two.0), from-both delay m n es one.1 two.1)

from-drop : (delay m count : ℕ) (es : List Entry) → AllFrom delay m es → AllFrom delay m (drop count es)
from-drop delay m zero es from = from
from-drop delay m (suc count) [] from = tt
from-drop delay m (suc count) (e ∷ es) from = from-drop delay m count es from.1

-- ---- what a slice is cut into

-- a place that is looked for, or the length
pub found-place : (test : Entry → Bool) (es : List Entry) → unwrap_or (position test es) (length es) ≡ position_or_len test es
found-place test es = by_place (place-within test es) (nat_lt (position_or_len test es) (length es)) refl
  where
    by_place : position_or_len test es ≤ length es → (b : Bool) → nat_lt (position_or_len test es) (length es) ≡ b
        → unwrap_or (cond b (Some (position_or_len test es)) None) (length es) ≡ position_or_len test es
    by_place le true inside = refl
    by_place le false outside = let ge = ltb-false (position_or_len test es) (length es) outside in omega (arith, le, ge)

pub counted : (delay now ended : ℕ) (es : List Entry) (clear : Bool) → ended ≡ first_ended delay now es
    → clear ≡ none_before delay (latest_end delay (take ended es)) (drop ended es) → (if clear then ended else 0) ≡ count_over delay now es
counted delay now ended es clear is test =
    ap (λ (b : Bool). if b then ended else 0) test
    ∙ ap (λ (n : ℕ). if none_before delay (latest_end delay (take n es)) (drop n es) then n else 0) is

pub cut-in-two : {X : Type 0} (f : X → Entry) (delay ended latest : ℕ) (xs : List X) → latest ≡ latest_end delay (map f (take ended xs))
    → none_before delay latest (map f (take (length xs - ended) (drop ended xs)))
    ≡ none_before delay (latest_end delay (take ended (map f xs))) (drop ended (map f xs))
cut-in-two f delay ended latest xs is =
    ap (λ ys. none_before delay latest (map f ys)) (take_all (length xs - ended) (drop ended xs) (omega (arith, length-drop ended xs)))
    ∙ ap (λ m. none_before delay m (map f (drop ended xs))) (is ∙ ap (latest_end delay) (sym (take-map f ended xs)))
    ∙ ap (none_before delay (latest_end delay (take ended (map f xs)))) (sym (drop-map f ended xs))

-- ---- the mark

cut-further : (delay before now over ended : ℕ) (es : List Entry) → before ≤ now → IsCut delay before over es → ended ≤ length (drop over es)
    → AllOver delay now (take ended (drop over es))
    → none_before delay (latest_end delay (take ended (drop over es))) (drop ended (drop over es)) ≡ true
    → IsCut delay now (over + ended) es
cut-further delay before now over ended es le (m, at, some, old, recent) within all clear =
    let rest = drop over es in
    let latest = latest_end delay (take ended rest) in
    let to = max m latest in
    let in_time : latest ≤ now = latest-within delay 0 now (take ended rest) (omega arith) all in (
      to,
      omega (arith, at, le, in_time),
      omega (arith, some, within, length-drop over es),
      subst (AllOver delay to) (sym (take-add over ended es))
          (over-append delay to (take over es) (take ended rest)
          (over-later delay m to (take over es) (omega arith) old)
          (over-later delay latest to (take ended rest) (omega arith) (latest-covers delay 0 now (take ended rest) all))),
      subst (AllFrom delay to) (drop-drop ended over es)
          (from-both delay m latest (drop ended rest) (from-drop delay m ended rest recent) (from-tested delay latest (drop ended rest) clear)),
    )

cut-stays : (delay before now over : ℕ) (es : List Entry) → before ≤ now → IsCut delay before over es → IsCut delay now (over + 0) es
cut-stays delay before now over es le (m, at, some, old, recent) =
    subst (λ (n : ℕ). IsCut delay now n es) (let same : over ≡ over + 0 = omega arith in same) (m, omega (arith, at, le), some, old, recent)

pub cut-anew : (delay before now over : ℕ) (es : List Entry) → before ≤ now → IsCut delay before over es → AllBegun now es
    → IsCut delay now (over_after delay now over es) es
cut-anew delay before now over es le cut begun = by_clear (none_before delay (latest_end delay (take ended rest)) (drop ended rest)) refl
  where
    rest : List Entry
    rest = drop over es

    ended : ℕ
    ended = first_ended delay now rest

    by_clear : (b : Bool) → none_before delay (latest_end delay (take ended rest)) (drop ended rest) ≡ b → IsCut delay now (over + (if b then ended else 0)) es
    by_clear true clear =
        let behind = begun-behind now (take over es) rest (subst (AllBegun now) (sym (take-append-drop over es)) begun) in
        cut-further delay before now over ended es le cut (first-within delay now rest) (first-over delay now rest behind) clear
    by_clear false clear = cut-stays delay before now over es le cut
