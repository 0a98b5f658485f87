-- A new entry goes into the trace.
use Rattle.std.proofs.Common.{◌≡◌, ◌∙◌, ap, sym, refl, arith, ℕ, ◌<◌, ◌≤◌, ◌+◌, ◌==◌, ◌++◌, List, [], ◌∷◌, length, map, Bool, true, false, if◌then◌else◌, nat_lt, ◌||◌, ◌&&◌, append_assoc}
use Rattle.std.specs.Prelude.{take, drop, get_or, slice_index_or}
use Rattle.std.specs.List.{insert}
use Rattle.std.proofs.Math.ListN.{set, get_or-map}
use Rattle.std.proofs.lemmas.Bool.{le-ltb, ne_eqb}
use Rattle.std.proofs.lemmas.List.{take_more, drop-map, drop-drop, take-map, map-append, map-set, length-take-le}
use Rattle.std.proofs.lemmas.List.Edits.{get_or-insert_at}
use Rattle.std.proofs.Math.Seq.{take-add, set-append_seam}
use Rattle.law_model.specs.Trace.{Own, Pending, Entry, Sent, Noise, entry_begin, rank, goes_before, with_entry, heard_at_first}
use Rattle.law_model.specs.Laws.{AllOver}
use Rattle.law_model.proofs.Past.{ended-by}
use Rattle.pb_medium.specs.Speaking.{with_octets}
use Rattle.pb_medium.specs.Traces.{place_of}
use Rattle.pb_medium.proofs.Hitting.{place-at}

-- ---- its place

-- one more has been passed, or it goes before that one
pub passed : (e x : Entry) (xs : List Entry) (i : ℕ) → place_of e xs ≡ i + place_of e (drop i xs) → drop i xs ≡ x ∷ drop (i + 1) xs
    → (before : Bool) → goes_before e x ≡ before → place_of e xs ≡ (if before then i else (i + 1) + place_of e (drop (i + 1) xs))
passed e x xs i so_far left true before = so_far ∙ ap (λ ys. i + place_of e ys) left ∙ ap (λ n. i + n) (place-at (goes_before e) true x (drop (i + 1) xs) before) ∙ omega arith
passed e x xs i so_far left false behind = so_far ∙ ap (λ ys. i + place_of e ys) left ∙ ap (λ n. i + n) (place-at (goes_before e) false x (drop (i + 1) xs) behind) ∙ omega arith

-- it stands at its place
stands-at : (e : Entry) (xs : List Entry) → insert xs (place_of e xs) e ≡ with_entry e xs
stands-at e [] = refl
stands-at e (x ∷ xs) = by (stands-at e xs) (goes_before e x) refl
  where
    by : insert xs (place_of e xs) e ≡ with_entry e xs → (b : Bool) → goes_before e x ≡ b → insert (x ∷ xs) (place_of e (x ∷ xs)) e ≡ with_entry e (x ∷ xs)
    by rest true before = ap (λ n. insert (x ∷ xs) n e) (place-at (goes_before e) true x xs before) ∙ sym (ap (λ (b : Bool). if b then e ∷ x ∷ xs else x ∷ with_entry e xs) before)
    by rest false behind =
        ap (λ n. insert (x ∷ xs) n e) (place-at (goes_before e) false x xs behind) ∙ ap (λ ys. x ∷ ys) rest
        ∙ sym (ap (λ (b : Bool). if b then e ∷ x ∷ xs else x ∷ with_entry e xs) behind)

-- so it does behind what is over
pub stands-behind : (e : Entry) (over : ℕ) (xs : List Entry) → insert xs (over + place_of e (drop over xs)) e ≡ take over xs ++ with_entry e (drop over xs)
stands-behind e over xs =
    let rest = drop over xs in
    let place = place_of e rest in
    ap (λ ys. ys ++ e ∷ drop (over + place) xs) (take-add over place xs)
    ∙ append_assoc (take over xs) (take place rest) (e ∷ drop (over + place) xs)
    ∙ ap (λ ys. take over xs ++ (take place rest ++ e ∷ ys)) (sym (drop-drop place over xs))
    ∙ ap (λ ys. take over xs ++ ys) (stands-at e rest)

-- ---- it goes before nothing that is over

pub entered-behind : (delay m : ℕ) (e : Entry) (old recent : List Entry) → AllOver delay m old → m ≤ entry_begin e → with_entry e (old ++ recent) ≡ old ++ with_entry e recent
entered-behind delay m e [] recent over later = refl
entered-behind delay m e (x ∷ old) recent over later =
    ap (λ (b : Bool). if b || (entry_begin e == entry_begin x && nat_lt (rank e) (rank x)) then e ∷ x ∷ (old ++ recent) else x ∷ with_entry e (old ++ recent))
    (le-ltb (entry_begin e) (entry_begin x) (omega (arith, over.0, ended-by delay m x over.1, later)))
    ∙ ap (λ (b : Bool). if b && nat_lt (rank e) (rank x) then e ∷ x ∷ (old ++ recent) else x ∷ with_entry e (old ++ recent))
    (ne_eqb (entry_begin e) (entry_begin x) (λ same. omega (arith, same, over.0, ended-by delay m x over.1, later)))
    ∙ ap (λ es. x ∷ es) (entered-behind delay m e old recent over.2 later)

-- ---- what it is to each tap at first

heard-append : {X : Type 0} (speaker k : ℕ) (ts : List X) (t : X)
    → heard_at_first speaker k (ts ++ t ∷ []) ≡ heard_at_first speaker k ts ++ (if (k + length ts) == speaker then Own else Pending) ∷ []
heard-append speaker k [] t = ap (λ n. (if n == speaker then Own else Pending) ∷ []) (let same : k ≡ k + 0 = omega arith in same)
heard-append speaker k (x ∷ ts) t =
    ap (λ hs. (if k == speaker then Own else Pending) ∷ hs) (
    heard-append speaker (k + 1) ts t
    ∙ ap (λ n. heard_at_first speaker (k + 1) ts ++ (if n == speaker then Own else Pending) ∷ []) (let same : (k + 1) + length ts ≡ k + length (x ∷ ts) = omega arith in same))

pub heard-more : {X : Type 0} (speaker i : ℕ) (ts : List X) → i < length ts
    → heard_at_first speaker 0 (take (i + 1) ts) ≡ heard_at_first speaker 0 (take i ts) ++ (if i == speaker then Own else Pending) ∷ []
heard-more speaker i [] there = absurd (omega (arith, there))
heard-more speaker i (t ∷ ts) there =
    ap (heard_at_first speaker 0) (take_more (t ∷ ts) i t there) ∙ heard-append speaker 0 (take i (t ∷ ts)) (get_or (t ∷ ts) i t)
    ∙ ap (λ n. heard_at_first speaker 0 (take i (t ∷ ts)) ++ (if n == speaker then Own else Pending) ∷ [])
    (let count : length (take i (t ∷ ts)) ≡ i = length-take-le i (t ∷ ts) (omega (arith, there)) in let same : 0 + length (take i (t ∷ ts)) ≡ i = omega (arith, count) in same)

-- ---- it is put among others, and written where it stays

pub inserted : {X Y : Type 0} (f : X → Y) (xs : List X) (i : ℕ) (x : X) → map f (insert xs i x) ≡ insert (map f xs) i (f x)
inserted f xs i x =
    map-append f (take i xs) (x ∷ drop i xs)
    ∙ ap (λ ys. ys ++ f x ∷ map f (drop i xs)) (sym (take-map f i xs))
    ∙ ap (λ ys. take i (map f xs) ++ f x ∷ ys) (sym (drop-map f i xs))

-- its octets don't change its place
same-place : (octets : List ℕ) (e : Entry) (xs : List Entry) → place_of e xs ≡ place_of (with_octets octets e) xs
same-place octets (Noise span) xs = refl
same-place octets (Sent r) xs = refl

set-inserted : (xs : List Entry) (i : ℕ) (e x : Entry) → i ≤ length xs → set (insert xs i e) i x ≡ insert xs i x
set-inserted xs i e x some = ap (λ n. set (insert xs i e) n x) (sym (length-take-le i xs some)) ∙ set-append_seam (take i xs) e (drop i xs) x

pub spelt-behind : {X : Type 0} (f : X → Entry) (octets : List ℕ) (e : Entry) (over : ℕ) (xs : List Entry) (i : ℕ) (ys : List X) (x y : X)
    → i ≡ over + place_of e (drop over xs) → i ≤ length xs → map f ys ≡ insert xs i e → x ≡ slice_index_or ys i x → f y ≡ with_octets octets (f x)
    → map f (set ys i y) ≡ take over xs ++ with_entry (with_octets octets e) (drop over xs)
spelt-behind f octets e over xs i ys x y place some is here spelt =
    let same : f x ≡ e = ap f here ∙ sym (get_or-map f ys i x) ∙ ap (λ zs. get_or zs i (f x)) is ∙ get_or-insert_at xs i e (f x) some in
    map-set f ys i y
    ∙ ap (λ zs. set zs i (f y)) is
    ∙ ap (set (insert xs i e) i) (spelt ∙ ap (with_octets octets) same)
    ∙ set-inserted xs i e (with_octets octets e) some
    ∙ ap (λ n. insert xs n (with_octets octets e)) (place ∙ ap (λ n. over + n) (same-place octets e (drop over xs)))
    ∙ stands-behind (with_octets octets e) over xs
