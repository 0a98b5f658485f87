-- A table stands for the list with one more item.
use Rattle.std.proofs.Common.{inl, inr, Option, Some, None, ◌≡◌, ℕ, ◌<◌, List, [], ◌∷◌, ◌++◌, Bool, true, false, ◌==◌, ◌||◌, refl, ap, sym, ◌∙◌, arith, if◌then◌else◌}
use Rattle.std.specs.Prelude.{filter, nat_lt}
use Rattle.std.specs.Option.{option_or, option_map}
use Rattle.std.proofs.lemmas.Bool.{cases_Bool}
use Rattle.std.proofs.lemmas.Bool.Decides.{nat_tests}
use Rattle.std.proofs.lemmas.List.{append-nil}
use Rattle.pb_ring.specs.declared.stages.HeardToken.{HeardToken}
use Rattle.pb_ring.specs.declared.stages.Stage.{Stage}
use Rattle.pb_ring.specs.declared.stages.Stage.TheVariants.{Learning, Complete}
use Rattle.pb_ring.specs.AddressSets.{addresses, is_member, with_address}
use Rattle.pb_ring.specs.Las.{LasTable, is_repeated, closed_rotation, learnt, heard, entered, removed, readied, listening, claimed}
use Rattle.pb_ring.specs.LasList.{Item, Token, Enters, Leaves, Joins, token_of, last_token, repeats_token, without_retries, set_of, Piece, closed_pieces, open_piece, first_repeated, last_rotation, members_after, complete_with, stage_learnt, stage_of_list, las_of_list, StandsFor}
use Rattle.pb_ring.proofs.SetLemmas.{filter-addresses, is_member-addresses, with_address-addresses, none-addresses}
use Rattle.pb_ring.proofs.ListLemmas.{last_token-more, without_retries-more, later, piece_closed, piece_opened, open_piece-more, closed_pieces-more, first_repeated-more, last_rotation-more, AreStations, stage_step, complete_with-more}

same_either_way : (a b : ℕ) → (a == b) ≡ (b == a)
same_either_way a b = grind (arith, nat_tests)

-- ---- sets of sources

set_of-more : (sources : List ℕ) (sa : ℕ) → sa < 127 → with_address sa (set_of sources) ≡ set_of (sources ++ sa ∷ [])
set_of-more sources sa station =
    with_address-addresses (is_member sources) sa station
    ∙ filter-addresses (λ a. a == sa || is_member sources a) (is_member (sources ++ sa ∷ [])) (λ a low. sym (is_member-more sources sa a))
  where
    or_last : (p q r : Bool) → (p || (q || r)) ≡ (q || (p || r))
    or_last true true r = refl
    or_last true false r = refl
    or_last false q r = refl

    is_member-more : (xs : List ℕ) (x a : ℕ) → is_member (xs ++ x ∷ []) a ≡ (a == x || is_member xs a)
    is_member-more [] x a = ap (λ (b : Bool). b || false) (same_either_way x a)
    is_member-more (y ∷ xs) x a = ap (λ (b : Bool). y == a || b) (is_member-more xs x a) ∙ or_last (y == a) (a == x) (is_member xs a)

-- the addresses of a set that a test keeps are that set
members_of-first : (f : ℕ → Bool) → members_after None (filter f addresses) [] ≡ filter f addresses
members_of-first f = filter-addresses (λ a. is_member (filter f addresses) a) f (λ a low. is_member-addresses f a low)

-- ---- a list that is not complete

abbrev learnt_from : List ℕ → Option (List ℕ) → Item → Option Piece → Stage
learnt_from sources closed i None = Learning (set_of (piece_opened sources i)) (last_rotation closed (piece_closed sources i))
learnt_from sources closed i (Some piece) = complete_with None piece.rotation piece.rest

learning : {m n : List ℕ} {p q : Option (List ℕ)} → m ≡ n → p ≡ q → Learning m p ≡ Learning n q
learning {m} {n} {p} {q} rotation closed = ap (λ (xs : List ℕ). Learning xs p) rotation ∙ ap (λ (o : Option (List ℕ)). Learning n o) closed

stage_learnt-more : (is : List Item) (i : Item) (o : Option Piece)
    → stage_learnt (is ++ i ∷ []) o ≡ learnt_from (open_piece [] is) (last_rotation None (closed_pieces [] is)) i o
stage_learnt-more is i None =
    learning (ap set_of (open_piece-more [] is i))
    (ap (last_rotation None) (closed_pieces-more [] is i) ∙ last_rotation-more None i (closed_pieces [] is) (piece_closed (open_piece [] is) i))
stage_learnt-more is i (Some piece) = refl

-- a rotation that is closed
closed-rotation : (sources : List ℕ) (closed : Option (List ℕ)) (sa da : ℕ) → nat_lt sa da ≡ false
    → closed_rotation (set_of (sources ++ sa ∷ [])) closed
    ≡ learnt_from sources closed (Token sa da) (first_repeated closed (record { rotation = set_of (sources ++ sa ∷ []); rest = [] } ∷ []))
closed-rotation sources closed sa da e =
    let piece : Piece = record { rotation = set_of (sources ++ sa ∷ []); rest = [] } in
    elim (is_repeated piece.rotation closed) as (λ b. (if b then Complete piece.rotation None else Learning [] (Some piece.rotation)) ≡ learnt_from sources closed (Token sa da) (if b then Some piece else None)) [
      | true ↦ ap (λ (xs : List ℕ). Complete xs None) (sym (members_of-first (is_member (sources ++ sa ∷ []))))
      | false ↦ learning (sym (ap set_of (ap (λ (b : Bool). if b then sources ++ sa ∷ [] else []) e) ∙ none-addresses (λ a. false) (λ a. refl)))
          (sym (ap (last_rotation closed) (ap (λ (b : Bool). if b then [] else piece ∷ []) e)))
    ]

token-learnt : (sources : List ℕ) (closed : Option (List ℕ)) (sa da : ℕ) → sa < 127
    → learnt (set_of sources) closed sa da ≡ learnt_from sources closed (Token sa da) (first_repeated closed (piece_closed sources (Token sa da)))
token-learnt sources closed sa da station =
    let piece : Piece = record { rotation = set_of (sources ++ sa ∷ []); rest = [] } in
    let more : with_address sa (set_of sources) ≡ set_of (sources ++ sa ∷ []) = set_of-more sources sa station in
    elim (cases_Bool (nat_lt sa da)) [
      | inl e ↦ (let pieces : piece_closed sources (Token sa da) ≡ [] = ap (λ (b : Bool). if b then [] else piece ∷ []) e in
          let opened : piece_opened sources (Token sa da) ≡ sources ++ sa ∷ [] = ap (λ (b : Bool). if b then sources ++ sa ∷ [] else []) e in
          ap (λ (b : Bool). if b then Learning (with_address sa (set_of sources)) closed else closed_rotation (with_address sa (set_of sources)) closed) e
          ∙ learning (more ∙ sym (ap set_of opened)) (sym (ap (last_rotation closed) pieces))
          ∙ sym (ap (λ (ps : List Piece). learnt_from sources closed (Token sa da) (first_repeated closed ps)) pieces))
      | inr e ↦ (let pieces : piece_closed sources (Token sa da) ≡ piece ∷ [] = ap (λ (b : Bool). if b then [] else piece ∷ []) e in
          ap (λ (b : Bool). if b then Learning (with_address sa (set_of sources)) closed else closed_rotation (with_address sa (set_of sources)) closed) e
          ∙ ap (λ (xs : List ℕ). closed_rotation xs closed) more
          ∙ closed-rotation sources closed sa da e
          ∙ sym (ap (λ (ps : List Piece). learnt_from sources closed (Token sa da) (first_repeated closed ps)) pieces))
    ]

-- one more item, where no rotation was repeated so far
learning-more : (sources : List ℕ) (closed : Option (List ℕ)) (i : Item) → AreStations i
    → stage_step (Learning (set_of sources) closed) i ≡ learnt_from sources closed i (first_repeated closed (piece_closed sources i))
learning-more sources closed (Token sa da) stations = token-learnt sources closed sa da stations.0
learning-more sources closed (Enters a) station = refl
learning-more sources closed (Leaves a) station = refl
learning-more sources closed (Joins ts) station = refl

stage_learnt-step : (is : List Item) (i : Item) (o : Option Piece) → AreStations i
    → stage_step (stage_learnt is o) i
    ≡ learnt_from (open_piece [] is) (last_rotation None (closed_pieces [] is)) i
    (option_or (option_map (later i) o) (first_repeated (last_rotation None (closed_pieces [] is)) (piece_closed (open_piece [] is) i)))
stage_learnt-step is i None stations = learning-more (open_piece [] is) (last_rotation None (closed_pieces [] is)) i stations
stage_learnt-step is i (Some piece) stations = complete_with-more None piece.rotation piece.rest i stations

pub stage_of_list-more : (claim : Option ℕ) (is : List Item) (i : Item) → AreStations i
    → stage_step (stage_of_list claim is) i ≡ stage_of_list claim (is ++ i ∷ [])
stage_of_list-more None is i stations =
    stage_learnt-step is i (first_repeated None (closed_pieces [] is)) stations
    ∙ sym (stage_learnt-more is i (option_or (option_map (later i) (first_repeated None (closed_pieces [] is)))
    (first_repeated (last_rotation None (closed_pieces [] is)) (piece_closed (open_piece [] is) i))))
    ∙ ap (stage_learnt (is ++ i ∷ [])) (sym (ap (first_repeated None) (closed_pieces-more [] is i)
    ∙ first_repeated-more None i (closed_pieces [] is) (piece_closed (open_piece [] is) i)))
stage_of_list-more (Some ts) is i stations = complete_with-more (Some ts) (ts ∷ []) is i stations

-- ---- tables

abbrev pub las_step : LasTable → Item → LasTable
las_step t (Token sa da) = heard t sa da
las_step t (Enters a) = entered t a
las_step t (Leaves a) = removed t a
las_step t (Joins ts) = readied t ts

table : {m n : Option HeardToken} {p q : Stage} → m ≡ n → p ≡ q → (let x : LasTable = record { last = m; stage = p } in x) ≡ record { last = n; stage = q }
table {m} {n} {p} {q} last stage =
    ap (λ (o : Option HeardToken). let x : LasTable = record { last = o; stage = p } in x) last ∙ ap (λ (s : Stage). let x : LasTable = record { last = n; stage = s } in x) stage

-- the stage after an item that may be dropped
stage_kept-more : (claim : Option ℕ) (is : List Item) (i : Item) (dropped : Bool) → AreStations i
    → (if dropped then stage_of_list claim is else stage_step (stage_of_list claim is) i) ≡ stage_of_list claim (is ++ (if dropped then [] else i ∷ []))
stage_kept-more claim is i true stations = ap (stage_of_list claim) (sym (append-nil is))
stage_kept-more claim is i false stations = stage_of_list-more claim is i stations

pub las_of_list-more : (claim : Option ℕ) (is : List Item) (i : Item) → AreStations i → las_step (las_of_list claim is) i ≡ las_of_list claim (is ++ i ∷ [])
las_of_list-more claim is i stations = go i stations (stage_kept-more claim (without_retries None is) i (repeats_token (last_token None is) i) stations
    ∙ ap (stage_of_list claim) (sym (without_retries-more None is i))) (sym (last_token-more None is i))
  where
    go : (i : Item) → AreStations i
        → (if repeats_token (last_token None is) i then stage_of_list claim (without_retries None is) else stage_step (stage_of_list claim (without_retries None is)) i) ≡ stage_of_list claim (without_retries None (is ++ i ∷ []))
        → option_or (token_of i) (last_token None is) ≡ last_token None (is ++ i ∷ [])
        → las_step (las_of_list claim is) i ≡ las_of_list claim (is ++ i ∷ [])
    go (Token sa da) stations stage last = table last stage
    go (Enters a) station stage last = table last stage
    go (Leaves a) station stage last = table last stage
    go (Joins ts) station stage last = table last stage

pub stands_for-more : (t : LasTable) (claim : Option ℕ) (is : List Item) (i : Item) → AreStations i → StandsFor t claim is → StandsFor (las_step t i) claim (is ++ i ∷ [])
stands_for-more t claim is i stations stands = ap (λ (x : LasTable). las_step x i) stands ∙ las_of_list-more claim is i stations

pub listening-stands : StandsFor listening None []
listening-stands = table refl (learning (sym (none-addresses (λ a. false) (λ a. refl))) refl)

pub claimed-stands : (ts : ℕ) → ts < 127 → StandsFor (claimed ts) (Some ts) []
claimed-stands ts station =
    table refl (ap (λ (xs : List ℕ). Complete xs (Some (record { address = ts; skipped = 0 })))
    (ap (with_address ts) (sym (none-addresses (λ a. false) (λ a. refl))) ∙ with_address-addresses (λ a. false) ts station
    ∙ filter-addresses (λ a. a == ts || false) (λ a. is_member (ts ∷ []) a) (λ a low. ap (λ (b : Bool). b || false) (same_either_way a ts))))
