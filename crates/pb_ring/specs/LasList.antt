-- The list of active stations, by the whole list of what the station has heard and done.
use Rattle.std.specs.Prelude.{◌≡◌, ℕ, ◌==◌, nat_lt, Bool, true, false, ◌||◌, if◌then◌else◌, List, [], ◌∷◌, ◌++◌, filter, count_by, Option, Some, None, unwrap_or, min}
use Rattle.std.specs.List.{after_last}
use Rattle.std.specs.Option.{option_or}
use Rattle.pb_ring.specs.declared.stages.HeardToken.{HeardToken}
use Rattle.pb_ring.specs.declared.stages.Place.{Place}
use Rattle.pb_ring.specs.declared.stages.Stage.{Stage}
use Rattle.pb_ring.specs.declared.stages.Stage.TheVariants.{Learning, Complete}
use Rattle.pb_ring.specs.AddressSets.{addresses, is_member, is_between, removes}
use Rattle.pb_ring.specs.Las.{LasTable, is_retry, is_repeated}

pub data Item : Type 0 where
  -- a token telegram is heard
  Token : (sa da : ℕ) → Item
  -- another station enters a complete list, or leaves it
  Enters : (address : ℕ) → Item
  Leaves : (address : ℕ) → Item
  -- the own station joins the ring
  Joins : (ts : ℕ) → Item

-- ---- retries

abbrev pub token_of : Item → Option HeardToken
token_of (Token sa da) = Some (record { source = sa; destination = da })
token_of (Enters a) = None
token_of (Leaves a) = None
token_of (Joins ts) = None

-- the last token of a list; if it has none, the token before the list
abbrev pub last_token : Option HeardToken → List Item → Option HeardToken
last_token before [] = before
last_token before (i ∷ is) = last_token (option_or (token_of i) before) is

-- a token to another station that equals the last one heard
abbrev pub repeats_token : Option HeardToken → Item → Bool
repeats_token last (Token sa da) = is_retry last sa da
repeats_token last (Enters a) = false
repeats_token last (Leaves a) = false
repeats_token last (Joins ts) = false

-- the list without retries
abbrev pub without_retries : Option HeardToken → List Item → List Item
without_retries last [] = []
without_retries last (i ∷ is) =
    if repeats_token last i then without_retries (option_or (token_of i) last) is else i ∷ without_retries (option_or (token_of i) last) is

-- ---- rotations

-- the set of the sources of some tokens
abbrev pub set_of : List ℕ → List ℕ
set_of sources = filter (λ a. is_member sources a) addresses

-- a closed piece: its rotation, and what follows it
pub record Piece : Type 0 where
  pub rotation : List ℕ
  pub rest : List Item

-- the closed pieces of a list, each up to a token that is not passed to a higher address; some sources come before it
abbrev pub closed_pieces : List ℕ → List Item → List Piece
closed_pieces sources [] = []
closed_pieces sources (Token sa da ∷ is) =
    if nat_lt sa da then closed_pieces (sources ++ sa ∷ []) is
    else record { rotation = set_of (sources ++ sa ∷ []); rest = is } ∷ closed_pieces [] is
closed_pieces sources (Enters a ∷ is) = closed_pieces sources is
closed_pieces sources (Leaves a ∷ is) = closed_pieces sources is
closed_pieces sources (Joins ts ∷ is) = closed_pieces sources is

-- the sources of the piece that is open at the end
abbrev pub open_piece : List ℕ → List Item → List ℕ
open_piece sources [] = sources
open_piece sources (Token sa da ∷ is) = if nat_lt sa da then open_piece (sources ++ sa ∷ []) is else open_piece [] is
open_piece sources (Enters a ∷ is) = open_piece sources is
open_piece sources (Leaves a ∷ is) = open_piece sources is
open_piece sources (Joins ts ∷ is) = open_piece sources is

-- the first piece whose rotation equals that of the piece before it
abbrev pub first_repeated : Option (List ℕ) → List Piece → Option Piece
first_repeated before [] = None
first_repeated before (p ∷ ps) = if is_repeated p.rotation before then Some p else first_repeated (Some p.rotation) ps

abbrev pub last_rotation : Option (List ℕ) → List Piece → Option (List ℕ)
last_rotation before [] = before
last_rotation before (p ∷ ps) = last_rotation (Some p.rotation) ps

-- ---- members of a complete list

-- the own address once the station is in the ring
abbrev pub own_next : Option ℕ → Item → Option ℕ
own_next own (Token sa da) = own
own_next own (Enters a) = own
own_next own (Leaves a) = own
own_next own (Joins ts) = Some ts

abbrev pub own_after : Option ℕ → List Item → Option ℕ
own_after own [] = own
own_after own (i ∷ is) = own_after (own_next own i) is

-- what an item does to an address: it enters (true) or removes (false) it, or neither
abbrev pub verdict : Option ℕ → Item → ℕ → Option Bool
verdict own (Token sa da) a = if a == sa || a == da then Some true else if removes own sa da a then Some false else None
verdict own (Enters b) a = if a == b then Some true else None
verdict own (Leaves b) a = if a == b then Some false else None
verdict own (Joins ts) a = if a == ts then Some true else None

-- the last item that enters or removes an address
abbrev pub last_verdict : Option ℕ → List Item → ℕ → Option Bool
last_verdict own [] a = None
last_verdict own (i ∷ is) a = option_or (last_verdict (own_next own i) is a) (verdict own i a)

-- the members: the addresses last entered, and those of the first members that no item enters or removes
abbrev pub members_after : Option ℕ → List ℕ → List Item → List ℕ
members_after own first is = filter (λ a. unwrap_or (last_verdict own is a) (is_member first a)) addresses

-- ---- tokens that skip the own station

-- the own station joins, or a token is from or to it
abbrev pub is_about : ℕ → Item → Bool
is_about ts (Token sa da) = sa == ts || da == ts
is_about ts (Enters a) = false
is_about ts (Leaves a) = false
is_about ts (Joins b) = true

abbrev pub skips : ℕ → Item → Bool
skips ts (Token sa da) = is_between sa da ts
skips ts (Enters a) = false
skips ts (Leaves a) = false
skips ts (Joins b) = false

-- the tokens after the last item about a station that skipped it, at most 255
abbrev pub skipped_by : ℕ → List Item → ℕ
skipped_by ts is = min 255 (count_by (skips ts) (after_last (is_about ts) is))

abbrev pub place_at : Option ℕ → List Item → Option Place
place_at None is = None
place_at (Some ts) is = Some (record { address = ts; skipped = skipped_by ts is })

-- ---- the whole list

-- the list once it is complete with some members
abbrev pub complete_with : Option ℕ → List ℕ → List Item → Stage
complete_with own first is = Complete (members_after own first is) (place_at (own_after own is) is)

abbrev pub stage_learnt : List Item → Option Piece → Stage
stage_learnt is None = Learning (set_of (open_piece [] is)) (last_rotation None (closed_pieces [] is))
stage_learnt is (Some piece) = complete_with None piece.rotation piece.rest

-- the stage after items without retries, since listening began or since the claim of a station
abbrev pub stage_of_list : Option ℕ → List Item → Stage
stage_of_list None is = stage_learnt is (first_repeated None (closed_pieces [] is))
stage_of_list (Some ts) is = complete_with (Some ts) (ts ∷ []) is

abbrev pub las_of_list : Option ℕ → List Item → LasTable
las_of_list claim is = record { last = last_token None is; stage = stage_of_list claim (without_retries None is) }

-- A table represents a list of what was heard and done, since listening began or since the claim of a station.
abbrev pub StandsFor : LasTable → Option ℕ → List Item → Type 0
StandsFor table claim is = table ≡ las_of_list claim is
