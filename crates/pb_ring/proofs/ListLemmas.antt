-- What the whole list says of one more item.
use Rattle.std.proofs.Common.{inl, inr, Option, Some, None, ◌≡◌, ℕ, ◌+◌, ◌<◌, List, [], ◌∷◌, ◌++◌, Bool, true, false, ◌==◌, ◌&&◌, ◌||◌, refl, ap, sym, subst, ◌∙◌, ◌-◌, ◌≤◌, arith, cond, drop, length, length-append, drop_of_length-le, map, reverse, if◌then◌else◌}
use Rattle.std.specs.Prelude.{filter, not, nat_lt, count_by, unwrap_or, min}
use Rattle.std.specs.List.{after_last, prefix_len, suffix_len}
use Rattle.std.specs.Option.{option_or, option_map}
use Rattle.std.proofs.lemmas.Grind.{fold-append}
use Rattle.std.proofs.lemmas.List.{reverse-append, drop-append-le, length-reverse}
use Rattle.std.proofs.lemmas.List.Sums.{prefix_len-le-length}
use Rattle.std.proofs.Math.Bool.{and-true}
use Rattle.std.proofs.lemmas.Bool.{cases_Bool, and_right}
use Rattle.pb_ring.specs.declared.stages.HeardToken.{HeardToken}
use Rattle.pb_ring.specs.declared.stages.Place.{Place}
use Rattle.pb_ring.specs.declared.stages.Stage.{Stage}
use Rattle.pb_ring.specs.declared.stages.Stage.TheVariants.{Complete}
use Rattle.pb_ring.specs.AddressSets.{addresses, is_member, is_between, removes, with_address, without_address}
use Rattle.pb_ring.specs.Las.{is_repeated, own_of, corrected, skips_after, place_after, stage_heard, stage_entered, stage_removed, stage_readied}
use Rattle.pb_ring.specs.LasList.{Item, Token, Enters, Leaves, Joins, token_of, last_token, repeats_token, without_retries, set_of, Piece, closed_pieces, open_piece, first_repeated, last_rotation, own_next, own_after, verdict, last_verdict, members_after, is_about, skips, skipped_by, place_at, complete_with}
use Rattle.pb_ring.proofs.SetLemmas.{filter-addresses, filter-filter, option_or-assoc, option_or-none, with_address-addresses}

-- ---- retries

pub last_token-more : (before : Option HeardToken) (is : List Item) (i : Item) → last_token before (is ++ i ∷ []) ≡ option_or (token_of i) (last_token before is)
last_token-more before [] i = refl
last_token-more before (j ∷ is) i = last_token-more (option_or (token_of j) before) is i

pub without_retries-more : (last : Option HeardToken) (is : List Item) (i : Item)
    → without_retries last (is ++ i ∷ []) ≡ without_retries last is ++ (if repeats_token (last_token last is) i then [] else i ∷ [])
without_retries-more last [] i = refl
without_retries-more last (j ∷ is) i =
    let rest = without_retries-more (option_or (token_of j) last) is i in
    elim (repeats_token last j) as (λ b. (if b then without_retries (option_or (token_of j) last) (is ++ i ∷ []) else j ∷ without_retries (option_or (token_of j) last) (is ++ i ∷ []))
    ≡ (if b then without_retries (option_or (token_of j) last) is else j ∷ without_retries (option_or (token_of j) last) is) ++ (if repeats_token (last_token (option_or (token_of j) last) is) i then [] else i ∷ []))
    [ true ↦ rest | false ↦ ap (λ (xs : List Item). j ∷ xs) rest ]

-- ---- rotations

-- a piece with one more item behind it
abbrev pub later : Item → Piece → Piece
later i p = record { rotation = p.rotation; rest = p.rest ++ i ∷ [] }

-- the piece that an item closes
abbrev pub piece_closed : List ℕ → Item → List Piece
piece_closed sources (Token sa da) = if nat_lt sa da then [] else record { rotation = set_of (sources ++ sa ∷ []); rest = [] } ∷ []
piece_closed sources (Enters a) = []
piece_closed sources (Leaves a) = []
piece_closed sources (Joins ts) = []

-- the open piece after an item
abbrev pub piece_opened : List ℕ → Item → List ℕ
piece_opened sources (Token sa da) = if nat_lt sa da then sources ++ sa ∷ [] else []
piece_opened sources (Enters a) = sources
piece_opened sources (Leaves a) = sources
piece_opened sources (Joins ts) = sources

pub open_piece-more : (sources : List ℕ) (is : List Item) (i : Item) → open_piece sources (is ++ i ∷ []) ≡ piece_opened (open_piece sources is) i
open_piece-more sources [] (Token sa da) = refl
open_piece-more sources [] (Enters a) = refl
open_piece-more sources [] (Leaves a) = refl
open_piece-more sources [] (Joins ts) = refl
open_piece-more sources (Token sa da ∷ is) i =
    elim (nat_lt sa da) as (λ b. (if b then open_piece (sources ++ sa ∷ []) (is ++ i ∷ []) else open_piece [] (is ++ i ∷ []))
    ≡ piece_opened (if b then open_piece (sources ++ sa ∷ []) is else open_piece [] is) i)
    [ true ↦ open_piece-more (sources ++ sa ∷ []) is i | false ↦ open_piece-more [] is i ]
open_piece-more sources (Enters a ∷ is) i = open_piece-more sources is i
open_piece-more sources (Leaves a ∷ is) i = open_piece-more sources is i
open_piece-more sources (Joins ts ∷ is) i = open_piece-more sources is i

pub closed_pieces-more : (sources : List ℕ) (is : List Item) (i : Item)
    → closed_pieces sources (is ++ i ∷ []) ≡ map (later i) (closed_pieces sources is) ++ piece_closed (open_piece sources is) i
closed_pieces-more sources [] (Token sa da) = refl
closed_pieces-more sources [] (Enters a) = refl
closed_pieces-more sources [] (Leaves a) = refl
closed_pieces-more sources [] (Joins ts) = refl
closed_pieces-more sources (Token sa da ∷ is) i =
    elim (nat_lt sa da) as (λ b. (if b then closed_pieces (sources ++ sa ∷ []) (is ++ i ∷ []) else record { rotation = set_of (sources ++ sa ∷ []); rest = is ++ i ∷ [] } ∷ closed_pieces [] (is ++ i ∷ []))
    ≡ map (later i) (if b then closed_pieces (sources ++ sa ∷ []) is else record { rotation = set_of (sources ++ sa ∷ []); rest = is } ∷ closed_pieces [] is)
    ++ piece_closed (if b then open_piece (sources ++ sa ∷ []) is else open_piece [] is) i) [
      | true ↦ closed_pieces-more (sources ++ sa ∷ []) is i
      | false ↦ ap (λ (ps : List Piece). record { rotation = set_of (sources ++ sa ∷ []); rest = is ++ i ∷ [] } ∷ ps) (closed_pieces-more [] is i)
    ]
closed_pieces-more sources (Enters a ∷ is) i = closed_pieces-more sources is i
closed_pieces-more sources (Leaves a ∷ is) i = closed_pieces-more sources is i
closed_pieces-more sources (Joins ts ∷ is) i = closed_pieces-more sources is i

pub first_repeated-more : (before : Option (List ℕ)) (i : Item) (ps qs : List Piece)
    → first_repeated before (map (later i) ps ++ qs) ≡ option_or (option_map (later i) (first_repeated before ps)) (first_repeated (last_rotation before ps) qs)
first_repeated-more before i [] qs = refl
first_repeated-more before i (p ∷ ps) qs =
    elim (is_repeated p.rotation before) as (λ b. (if b then Some (later i p) else first_repeated (Some p.rotation) (map (later i) ps ++ qs))
    ≡ option_or (option_map (later i) (if b then Some p else first_repeated (Some p.rotation) ps)) (first_repeated (last_rotation (Some p.rotation) ps) qs))
    [ true ↦ refl | false ↦ first_repeated-more (Some p.rotation) i ps qs ]

pub last_rotation-more : (before : Option (List ℕ)) (i : Item) (ps qs : List Piece) → last_rotation before (map (later i) ps ++ qs) ≡ last_rotation (last_rotation before ps) qs
last_rotation-more before i [] qs = refl
last_rotation-more before i (p ∷ ps) qs = last_rotation-more (Some p.rotation) i ps qs

-- ---- members

pub own_after-more : (own : Option ℕ) (is : List Item) (i : Item) → own_after own (is ++ i ∷ []) ≡ own_next (own_after own is) i
own_after-more own [] i = refl
own_after-more own (j ∷ is) i = own_after-more (own_next own j) is i

pub last_verdict-more : (own : Option ℕ) (is : List Item) (i : Item) (a : ℕ)
    → last_verdict own (is ++ i ∷ []) a ≡ option_or (verdict (own_after own is) i a) (last_verdict own is a)
last_verdict-more own [] i a = option_or-none (verdict own i a)
last_verdict-more own (j ∷ is) i a =
    ap (λ (o : Option Bool). option_or o (verdict own j a)) (last_verdict-more (own_next own j) is i a)
    ∙ option_or-assoc (verdict (own_after (own_next own j) is) i a) (last_verdict (own_next own j) is a) (verdict own j a)

-- ---- tokens that skip

suffix-more : (test : Item → Bool) (is : List Item) (i : Item) → suffix_len test (is ++ i ∷ []) ≡ cond (test i) (1 + suffix_len test is) 0
suffix-more test is i = ap (prefix_len test) (reverse-append is (i ∷ []))

suffix-fits : (test : Item → Bool) (is : List Item) → suffix_len test is ≤ length is
suffix-fits test is = subst (λ n. suffix_len test is ≤ n) (length-reverse is) (prefix_len-le-length test (reverse is))

-- an item at which the test fails comes behind
after_last-more : (test : Item → Bool) (is : List Item) (i : Item) → test i ≡ false → after_last test (is ++ i ∷ []) ≡ after_last test is ++ i ∷ []
after_last-more test is i fails =
    let fail : Item → Bool = λ j. not (test j) in
    let more : suffix_len fail (is ++ i ∷ []) ≡ 1 + suffix_len fail is
    = subst (λ b. suffix_len fail (is ++ i ∷ []) ≡ cond (not b) (1 + suffix_len fail is) 0) fails (suffix-more fail is i) in
    let fits : suffix_len fail is ≤ length is = suffix-fits fail is in
    let longer : length (is ++ i ∷ []) ≡ length is + 1 = length-append is (i ∷ []) in
    let same : length (is ++ i ∷ []) - suffix_len fail (is ++ i ∷ []) ≡ length is - suffix_len fail is = omega arith in
    ap (λ (k : ℕ). drop k (is ++ i ∷ [])) same ∙ drop-append-le _ is (i ∷ []) (omega arith)

-- behind one at which it holds there is nothing
after_last-ends : (test : Item → Bool) (is : List Item) (i : Item) → test i ≡ true → after_last test (is ++ i ∷ []) ≡ []
after_last-ends test is i holds =
    let fail : Item → Bool = λ j. not (test j) in
    let none : suffix_len fail (is ++ i ∷ []) ≡ 0
    = subst (λ b. suffix_len fail (is ++ i ∷ []) ≡ cond (not b) (1 + suffix_len fail is) 0) holds (suffix-more fail is i) in
    drop_of_length-le (is ++ i ∷ []) (omega arith)

count-more : (test : Item → Bool) (is : List Item) (i : Item) → count_by test (is ++ i ∷ []) ≡ count_by test is + (if test i then 1 else 0)
count-more test is i = fold-append (λ (n : ℕ) (j : Item). n + (if test j then 1 else 0)) 0 is (i ∷ [])

-- ---- a complete list and one more item

-- what an item does to a stage, and to a table
abbrev pub stage_step : Stage → Item → Stage
stage_step stage (Token sa da) = stage_heard stage sa da
stage_step stage (Enters a) = stage_entered stage a
stage_step stage (Leaves a) = stage_removed stage a
stage_step stage (Joins ts) = stage_readied stage ts

-- the addresses of an item are those of stations
abbrev pub AreStations : Item → Type 0
AreStations (Token sa da) = (sa < 127) × (da < 127)
AreStations (Enters a) = a < 127
AreStations (Leaves a) = a < 127
AreStations (Joins ts) = ts < 127

own_of-place_at : (own : Option ℕ) (is : List Item) → own_of (place_at own is) ≡ own
own_of-place_at None is = refl
own_of-place_at (Some ts) is = refl

heard_verdict : (source destination goes : Bool) (o : Option Bool) (b : Bool)
    → (source || (destination || (unwrap_or o b && not goes))) ≡ unwrap_or (option_or (if source || destination then Some true else if goes then Some false else None) o) b
heard_verdict true destination goes o b = refl
heard_verdict false true goes o b = refl
heard_verdict false false true o b = and_right (unwrap_or o b) (not true) refl
heard_verdict false false false o b = and-true (unwrap_or o b)

entered_verdict : (same : Bool) (o : Option Bool) (b : Bool) → (same || unwrap_or o b) ≡ unwrap_or (option_or (if same then Some true else None) o) b
entered_verdict true o b = refl
entered_verdict false o b = refl

removed_verdict : (same : Bool) (o : Option Bool) (b : Bool) → (unwrap_or o b && not same) ≡ unwrap_or (option_or (if same then Some false else None) o) b
removed_verdict true o b = and_right (unwrap_or o b) (not true) refl
removed_verdict false o b = and-true (unwrap_or o b)

-- the members after one more item, by what it says of each address
members_after-more : (own : Option ℕ) (first : List ℕ) (is : List Item) (i : Item) (test : ℕ → Bool)
    → ((a : ℕ) → test a ≡ unwrap_or (option_or (verdict (own_after own is) i a) (last_verdict own is a)) (is_member first a))
    → filter test addresses ≡ members_after own first (is ++ i ∷ [])
members_after-more own first is i test same =
    filter-addresses test (λ a. unwrap_or (last_verdict own (is ++ i ∷ []) a) (is_member first a))
    (λ a low. same a ∙ ap (λ (o : Option Bool). unwrap_or o (is_member first a)) (sym (last_verdict-more own is i a)))

corrected-more : (own : Option ℕ) (first : List ℕ) (is : List Item) (sa da : ℕ) → sa < 127 → da < 127
    → corrected (members_after own first is) (own_after own is) sa da ≡ members_after own first (is ++ Token sa da ∷ [])
corrected-more own first is sa da source destination =
    let kept : ℕ → Bool = λ a. unwrap_or (last_verdict own is a) (is_member first a) in
    let left : ℕ → Bool = λ a. kept a && not (removes (own_after own is) sa da a) in
    ap (λ (xs : List ℕ). with_address sa (with_address da xs)) (filter-filter kept (λ a. not (removes (own_after own is) sa da a)) addresses)
    ∙ ap (with_address sa) (with_address-addresses left da destination)
    ∙ with_address-addresses (λ a. a == da || left a) sa source
    ∙ members_after-more own first is (Token sa da) (λ a. a == sa || (a == da || left a))
    (λ a. heard_verdict (a == sa) (a == da) (removes (own_after own is) sa da a) (last_verdict own is a) (is_member first a))

entered-more : (own : Option ℕ) (first : List ℕ) (is : List Item) (i : Item) (b : ℕ) → b < 127
    → ((a : ℕ) → verdict (own_after own is) i a ≡ (if a == b then Some true else None))
    → with_address b (members_after own first is) ≡ members_after own first (is ++ i ∷ [])
entered-more own first is i b station says =
    with_address-addresses (λ a. unwrap_or (last_verdict own is a) (is_member first a)) b station
    ∙ members_after-more own first is i (λ a. a == b || unwrap_or (last_verdict own is a) (is_member first a))
    (λ a. entered_verdict (a == b) (last_verdict own is a) (is_member first a)
    ∙ ap (λ (o : Option Bool). unwrap_or (option_or o (last_verdict own is a)) (is_member first a)) (sym (says a)))

removed-more : (own : Option ℕ) (first : List ℕ) (is : List Item) (b : ℕ)
    → without_address b (members_after own first is) ≡ members_after own first (is ++ Leaves b ∷ [])
removed-more own first is b =
    filter-filter (λ a. unwrap_or (last_verdict own is a) (is_member first a)) (λ a. not (a == b)) addresses
    ∙ members_after-more own first is (Leaves b) (λ a. unwrap_or (last_verdict own is a) (is_member first a) && not (a == b))
    (λ a. removed_verdict (a == b) (last_verdict own is a) (is_member first a))

-- ---- the own place after one more item

counted : (n k : ℕ) → min 255 (min 255 n + k) ≡ min 255 (n + k)
counted n k = omega arith

skipped_by-about : (ts : ℕ) (is : List Item) (i : Item) → is_about ts i ≡ true → skipped_by ts (is ++ i ∷ []) ≡ 0
skipped_by-about ts is i about = ap (λ (xs : List Item). min 255 (count_by (skips ts) xs)) (after_last-ends (is_about ts) is i about)

skipped_by-other : (ts : ℕ) (is : List Item) (i : Item) → is_about ts i ≡ false → skipped_by ts (is ++ i ∷ []) ≡ min 255 (skipped_by ts is + (if skips ts i then 1 else 0))
skipped_by-other ts is i other =
    ap (λ (xs : List Item). min 255 (count_by (skips ts) xs)) (after_last-more (is_about ts) is i other)
    ∙ ap (min 255) (count-more (skips ts) (after_last (is_about ts) is) i)
    ∙ sym (counted (count_by (skips ts) (after_last (is_about ts) is)) (if skips ts i then 1 else 0))

skipped_by-same : (ts : ℕ) (is : List Item) → min 255 (skipped_by ts is + 0) ≡ skipped_by ts is
skipped_by-same ts is = counted_none (count_by (skips ts) (after_last (is_about ts) is))
  where
    counted_none : (n : ℕ) → min 255 (min 255 n + 0) ≡ min 255 n
    counted_none n = omega arith

skips_after-more : (ts : ℕ) (is : List Item) (sa da : ℕ) → skips_after ts (skipped_by ts is) sa da ≡ skipped_by ts (is ++ Token sa da ∷ [])
skips_after-more ts is sa da =
    elim (cases_Bool (sa == ts || da == ts)) [
      | inl about ↦ rw about (sym (skipped_by-about ts is (Token sa da) about))
      | inr other ↦ (let more = skipped_by-other ts is (Token sa da) other in
          rw other
          (elim (cases_Bool (is_between sa da ts)) [
            | inl between ↦ rw between (sym (more ∙ ap (λ (b : Bool). min 255 (skipped_by ts is + (if b then 1 else 0))) between))
            | inr apart ↦ rw apart (sym (more ∙ ap (λ (b : Bool). min 255 (skipped_by ts is + (if b then 1 else 0))) apart ∙ skipped_by-same ts is))
          ]))
    ]

place_after-more : (own : Option ℕ) (is : List Item) (sa da : ℕ) → place_after (place_at own is) sa da ≡ place_at own (is ++ Token sa da ∷ [])
place_after-more None is sa da = refl
place_after-more (Some ts) is sa da = ap (λ (n : ℕ). Some (record { address = ts; skipped = n })) (skips_after-more ts is sa da)

place_at-other : (own : Option ℕ) (is : List Item) (i : Item) → ((ts : ℕ) → is_about ts i ≡ false) → ((ts : ℕ) → skips ts i ≡ false) → place_at own is ≡ place_at own (is ++ i ∷ [])
place_at-other None is i other none = refl
place_at-other (Some ts) is i other none =
    ap (λ (n : ℕ). Some (record { address = ts; skipped = n }))
    (sym (skipped_by-other ts is i (other ts) ∙ ap (λ (b : Bool). min 255 (skipped_by ts is + (if b then 1 else 0))) (none ts) ∙ skipped_by-same ts is))

-- ---- a complete list

both : {m n : List ℕ} {p q : Option Place} → m ≡ n → p ≡ q → Complete m p ≡ Complete n q
both {m} {n} {p} {q} members place = ap (λ (xs : List ℕ). Complete xs p) members ∙ ap (λ (o : Option Place). Complete n o) place

pub complete_with-more : (own : Option ℕ) (first : List ℕ) (is : List Item) (i : Item) → AreStations i
    → stage_step (complete_with own first is) i ≡ complete_with own first (is ++ i ∷ [])
complete_with-more own first is (Token sa da) stations =
    let members : corrected (members_after own first is) (own_of (place_at (own_after own is) is)) sa da ≡ members_after own first (is ++ Token sa da ∷ []) =
    ap (λ (o : Option ℕ). corrected (members_after own first is) o sa da) (own_of-place_at (own_after own is) is) ∙ corrected-more own first is sa da stations.0 stations.1 in
    let place : place_after (place_at (own_after own is) is) sa da ≡ place_at (own_after own (is ++ Token sa da ∷ [])) (is ++ Token sa da ∷ []) =
    place_after-more (own_after own is) is sa da ∙ ap (λ (o : Option ℕ). place_at o (is ++ Token sa da ∷ [])) (sym (own_after-more own is (Token sa da))) in
    both members place
complete_with-more own first is (Enters a) station =
    both (entered-more own first is (Enters a) a station (λ x. refl))
    (place_at-other (own_after own is) is (Enters a) (λ ts. refl) (λ ts. refl) ∙ ap (λ (o : Option ℕ). place_at o (is ++ Enters a ∷ [])) (sym (own_after-more own is (Enters a))))
complete_with-more own first is (Leaves a) station =
    both (removed-more own first is a)
    (place_at-other (own_after own is) is (Leaves a) (λ ts. refl) (λ ts. refl) ∙ ap (λ (o : Option ℕ). place_at o (is ++ Leaves a ∷ [])) (sym (own_after-more own is (Leaves a))))
complete_with-more own first is (Joins ts) station =
    both (entered-more own first is (Joins ts) ts station (λ x. refl))
    (ap (λ (n : ℕ). Some (record { address = ts; skipped = n })) (sym (skipped_by-about ts is (Joins ts) refl))
    ∙ ap (λ (o : Option ℕ). place_at o (is ++ Joins ts ∷ [])) (sym (own_after-more own is (Joins ts))))
