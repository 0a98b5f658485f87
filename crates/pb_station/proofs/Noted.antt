-- Notes of marks, with the characters and the octets of them all.
use Rattle.std.proofs.Common.{◌≡◌, ◌∙◌, ap, sym, subst, refl, ℕ, ◌+◌, ◌*◌, ◌≤◌, ◌<◌, ◌++◌, List, [], ◌∷◌, length, arith, length-append, length-drop}
use Rattle.std.specs.Prelude.{take, drop, slice_index_or}
use Rattle.std.proofs.lemmas.List.{take-append-le, drop-append-le, take_all, drop_all, at_drop_more}
use Rattle.pb_telegram.specs.declared.chars.RxChar.{RxChar}
use Rattle.pb_timers.specs.Timers.{Params}
use Rattle.law_turn.specs.Hearing.{after_timer, after_mark}
use Rattle.law_turn.specs.Marks.{Mark, moment_of}
use Rattle.law_turn.specs.Stations.{Station}
use Rattle.law_turn.specs.Turns.{after_marks}
use Rattle.pb_station.specs.MarkViews.{AllOver}
use Rattle.pb_station.specs.Notes.{chars_of, octets_of, mark_with, marks_in, AreOf}
use Rattle.pb_station.specs.declared.notes.Note.{Note}
use Rattle.pb_station.specs.declared.notes.Note.TheVariants as note

-- ---- one mark more, behind the others

of-more : (ns : List Note) (chars new : List RxChar) (octets good : List ℕ) (n : Note) → AreOf ns chars octets
    → chars_of n ≡ length new → length new ≤ 255 → octets_of n ≡ length good → length good ≤ 255 → AreOf (ns ++ n ∷ []) (chars ++ new) (octets ++ good)
of-more [] chars new octets good n of size few many little =
    subst (λ (cs : List RxChar). AreOf (n ∷ []) (cs ++ new) (octets ++ good)) (sym of.0)
    (subst (λ (os : List ℕ). AreOf (n ∷ []) new (os ++ good)) (sym of.1) (
      omega (arith, size),
      omega (arith, size, few),
      omega (arith, many),
      omega (arith, many, little),
      (drop_all (chars_of n) new (omega (arith, size)), drop_all (octets_of n) good (omega (arith, many))),
    ))
of-more (m ∷ ns) chars new octets good n of size few many little = (
  omega (arith, of.0, length-append chars new),
  of.1,
  omega (arith, of.2, length-append octets good),
  of.3,
  subst (λ (cs : List RxChar). AreOf (ns ++ n ∷ []) cs (drop (octets_of m) (octets ++ good))) (sym (drop-append-le (chars_of m) chars new of.0))
      (subst (AreOf (ns ++ n ∷ []) (drop (chars_of m) chars ++ new)) (sym (drop-append-le (octets_of m) octets good of.2))
      (of-more ns (drop (chars_of m) chars) new (drop (octets_of m) octets) good n of.4 size few many little)),
)

marks-more : (ns : List Note) (chars new : List RxChar) (octets good : List ℕ) (n : Note) → AreOf ns chars octets → chars_of n ≡ length new → octets_of n ≡ length good
    → marks_in (ns ++ n ∷ []) (chars ++ new) (octets ++ good) ≡ marks_in ns chars octets ++ mark_with n new good ∷ []
marks-more [] chars new octets good n of size many =
    subst (λ (cs : List RxChar). marks_in (n ∷ []) (cs ++ new) (octets ++ good) ≡ mark_with n new good ∷ []) (sym of.0)
    (subst (λ (os : List ℕ). marks_in (n ∷ []) new (os ++ good) ≡ mark_with n new good ∷ []) (sym of.1)
    (ap (λ (cs : List RxChar). mark_with n cs (take (octets_of n) good) ∷ []) (take_all (chars_of n) new (omega (arith, size)))
    ∙ ap (λ (os : List ℕ). mark_with n new os ∷ []) (take_all (octets_of n) good (omega (arith, many)))))
marks-more (m ∷ ns) chars new octets good n of size many =
    let behind = marks_in (ns ++ n ∷ []) (drop (chars_of m) (chars ++ new)) (drop (octets_of m) (octets ++ good)) in
    ap (λ (cs : List RxChar). mark_with m cs (take (octets_of m) (octets ++ good)) ∷ behind) (take-append-le (chars_of m) chars new of.0)
    ∙ ap (λ (os : List ℕ). mark_with m (take (chars_of m) chars) os ∷ behind) (take-append-le (octets_of m) octets good of.2)
    ∙ ap (λ (ms : List Mark). mark_with m (take (chars_of m) chars) (take (octets_of m) octets) ∷ ms)
    (ap (λ (cs : List RxChar). marks_in (ns ++ n ∷ []) cs (drop (octets_of m) (octets ++ good))) (drop-append-le (chars_of m) chars new of.0)
    ∙ ap (marks_in (ns ++ n ∷ []) (drop (chars_of m) chars ++ new)) (drop-append-le (octets_of m) octets good of.2)
    ∙ marks-more ns (drop (chars_of m) chars) new (drop (octets_of m) octets) good n of.4 size many)

pub of-next : (ns ms : List Note) (chars longer new : List RxChar) (octets more good : List ℕ) (n : Note) → ms ≡ ns ++ n ∷ [] → longer ≡ chars ++ new
    → more ≡ octets ++ good → AreOf ns chars octets → chars_of n ≡ length new → length new ≤ 255 → octets_of n ≡ length good → length good ≤ 255
    → AreOf ms longer more
of-next ns ms chars longer new octets more good n last grown met of size few many little =
    subst (λ (xs : List Note). AreOf xs longer more) (sym last)
    (subst (λ (cs : List RxChar). AreOf (ns ++ n ∷ []) cs more) (sym grown)
    (subst (AreOf (ns ++ n ∷ []) (chars ++ new)) (sym met) (of-more ns chars new octets good n of size few many little)))

pub marks-next : (ns ms : List Note) (chars longer new : List RxChar) (octets more good : List ℕ) (n : Note) → ms ≡ ns ++ n ∷ [] → longer ≡ chars ++ new
    → more ≡ octets ++ good → AreOf ns chars octets → chars_of n ≡ length new → octets_of n ≡ length good
    → marks_in ms longer more ≡ marks_in ns chars octets ++ mark_with n new good ∷ []
marks-next ns ms chars longer new octets more good n last grown met of size many =
    ap (λ (xs : List Note). marks_in xs longer more) last
    ∙ ap (λ (cs : List RxChar). marks_in (ns ++ n ∷ []) cs more) grown
    ∙ ap (marks_in (ns ++ n ∷ []) (chars ++ new)) met
    ∙ marks-more ns chars new octets good n of size many

-- ---- how many there are

pub as-many : (ns : List Note) (chars : List RxChar) (octets : List ℕ) → length (marks_in ns chars octets) ≡ length ns
as-many [] chars octets = refl
as-many (n ∷ ns) chars octets = omega (arith, as-many ns (drop (chars_of n) chars) (drop (octets_of n) octets))

pub few-chars : (ns : List Note) (chars : List RxChar) (octets : List ℕ) → AreOf ns chars octets → length chars ≤ 255 * length ns
few-chars [] chars octets of = omega (arith, ap length of.0)
few-chars (n ∷ ns) chars octets of =
    omega (arith, of.0, of.1, few-chars ns (drop (chars_of n) chars) (drop (octets_of n) octets) of.4, length-drop (chars_of n) chars)

pub few-octets : (ns : List Note) (chars : List RxChar) (octets : List ℕ) → AreOf ns chars octets → length octets ≤ 255 * length ns
few-octets [] chars octets of = omega (arith, ap length of.1)
few-octets (n ∷ ns) chars octets of =
    omega (arith, of.2, of.3, few-octets ns (drop (chars_of n) chars) (drop (octets_of n) octets) of.4, length-drop (octets_of n) octets)

-- ---- when a mark was, whatever it brings

pub same-moment : (n : Note) (some others : List RxChar) (these those : List ℕ) → moment_of (mark_with n some these) ≡ moment_of (mark_with n others those)
same-moment (note.Begin at seen) some others these those = refl
same-moment (note.End at seen count) some others these those = refl
same-moment (note.GoodEnd at seen count) some others these those = refl
same-moment (note.Three at seen three) some others these those = refl
same-moment (note.Noise at seen) some others these those = refl

-- ---- one after the other

pub tails : {X : Type 0} {x y : X} {xs ys : List X} → x ∷ xs ≡ y ∷ ys → xs ≡ ys
tails e = cc

pub heads : {X : Type 0} {x y : X} {xs ys : List X} → x ∷ xs ≡ y ∷ ys → x ≡ y
heads e = cc

pub next-at : {X : Type 0} (xs : List X) (i : ℕ) (x : X) → i < length xs → x ≡ slice_index_or xs i x → drop i xs ≡ x ∷ drop (i + 1) xs
next-at xs i x there is = at_drop_more (λ ys. ys) xs i x there ∙ ap (λ y. y ∷ drop (i + 1) xs) (sym is)

-- the marks of notes, of which the first is read
pub marks-at : (ns rest : List Note) (n : Note) (chars brought behind : List RxChar) (octets good after : List ℕ) → ns ≡ n ∷ rest
    → brought ≡ take (chars_of n) chars → behind ≡ drop (chars_of n) chars → good ≡ take (octets_of n) octets → after ≡ drop (octets_of n) octets
    → marks_in ns chars octets ≡ mark_with n brought good ∷ marks_in rest behind after
marks-at ns rest n chars brought behind octets good after split front back first last =
    ap (λ (xs : List Note). marks_in xs chars octets) split
    ∙ ap (λ (cs : List RxChar). mark_with n cs (take (octets_of n) octets) ∷ marks_in rest (drop (chars_of n) chars) (drop (octets_of n) octets)) (sym front)
    ∙ ap (λ (os : List ℕ). mark_with n brought os ∷ marks_in rest (drop (chars_of n) chars) (drop (octets_of n) octets)) (sym first)
    ∙ ap (λ (cs : List RxChar). mark_with n brought good ∷ marks_in rest cs (drop (octets_of n) octets)) (sym back)
    ∙ ap (λ (os : List ℕ). mark_with n brought good ∷ marks_in rest behind os) (sym last)

pub of-at : (ns rest : List Note) (n : Note) (chars behind : List RxChar) (octets after : List ℕ) → ns ≡ n ∷ rest → behind ≡ drop (chars_of n) chars
    → after ≡ drop (octets_of n) octets → AreOf ns chars octets
    → (chars_of n ≤ length chars) × (chars_of n ≤ 255) × (octets_of n ≤ length octets) × (octets_of n ≤ 255) × AreOf rest behind after
of-at ns rest n chars behind octets after split back last of =
    let first : AreOf (n ∷ rest) chars octets = subst (λ (xs : List Note). AreOf xs chars octets) split of in (
      first.0,
      first.1,
      first.2,
      first.3,
      subst (λ (cs : List RxChar). AreOf rest cs after) (sym back) (subst (AreOf rest (drop (chars_of n) chars)) (sym last) first.4),
    )

pub over-at : (now : ℕ) (ms rest : List Mark) (m : Mark) → ms ≡ m ∷ rest → AllOver now ms → (moment_of m ≤ now) × AllOver now rest
over-at now ms rest m split over = subst (AllOver now) split over

-- a mark more is read
pub read-note : (p : Params) (first s timed after : Station) (all ms rest : List Mark) (m : Mark) (limit : ℕ)
    → after_marks p s ms ≡ after_marks p first all → ms ≡ m ∷ rest → limit ≡ moment_of m → timed ≡ after_timer p limit s → after ≡ after_mark p timed m
    → after_marks p after rest ≡ after_marks p first all
read-note p first s timed after all ms rest m limit same split at before is =
    ap (λ (x : Station). after_marks p x rest) (is ∙ ap (λ (x : Station). after_mark p x m) (before ∙ ap (λ (n : ℕ). after_timer p n s) at))
    ∙ sym (ap (after_marks p s) split) ∙ same

-- no mark is left
pub none-left : (ns : List Note) (i : ℕ) (chars : List RxChar) (octets : List ℕ) → length ns ≤ i → marks_in (drop i ns) chars octets ≡ []
none-left ns i chars octets over = ap (λ (xs : List Note). marks_in xs chars octets) (drop_all i ns over)
