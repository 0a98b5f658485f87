-- The list of active stations (LAS) as a table, and what changes it.
use Rattle.std.specs.Prelude.{ℕ, ◌+◌, ◌==◌, nat_lt, Bool, true, false, not, ◌&&◌, ◌||◌, if◌then◌else◌, List, [], ◌∷◌, filter, Option, Some, None, min}
use Rattle.pb_ring.specs.declared.stages.HeardToken.{HeardToken}
use Rattle.pb_ring.specs.declared.stages.Place.{Place}
use Rattle.pb_ring.specs.declared.stages.Stage.{Stage}
use Rattle.pb_ring.specs.declared.stages.Stage.TheVariants.{Learning, Complete}
use Rattle.pb_ring.specs.AddressSets.{with_address, without_address, is_between, is_same, removes}

pub record LasTable : Type 0 where
  -- the last token telegram that was heard
  pub last : Option HeardToken
  pub stage : Stage

-- ---- the first table

abbrev pub listening : LasTable
listening = record { last = None; stage = Learning [] None }

abbrev pub claimed : ℕ → LasTable
claimed ts = record { last = None; stage = Complete (ts ∷ []) (Some (record { address = ts; skipped = 0 })) }

-- ---- what is read from it

abbrev pub is_complete : Stage → Bool
is_complete (Learning rotation closed) = false
is_complete (Complete members place) = true

-- the active stations; there are none before the list is complete
abbrev pub members_of : Stage → List ℕ
members_of (Learning rotation closed) = []
members_of (Complete members place) = members

-- the station's place in the ring, once it has joined
abbrev pub place_of : Stage → Option Place
place_of (Learning rotation closed) = None
place_of (Complete members place) = place

abbrev pub skips_of : Option Place → ℕ
skips_of None = 0
skips_of (Some place) = place.skipped

abbrev pub own_of : Option Place → Option ℕ
own_of None = None
own_of (Some place) = Some place.address

-- ---- tokens

-- a retry: a token to another station that equals the last one heard
abbrev pub is_retry : Option HeardToken → ℕ → ℕ → Bool
is_retry None sa da = false
is_retry (Some token) sa da = not (sa == da) && (token.source == sa && token.destination == da)

-- a rotation equals the one closed before it
abbrev pub is_repeated : List ℕ → Option (List ℕ) → Bool
is_repeated rotation None = false
is_repeated rotation (Some before) = is_same before rotation

-- a rotation that is closed: a repeated one is the list
abbrev pub closed_rotation : List ℕ → Option (List ℕ) → Stage
closed_rotation rotation closed = if is_repeated rotation closed then Complete rotation None else Learning [] (Some rotation)

-- A list that is not complete: the source joins the rotation, which is closed by a token that is not passed to a higher
-- address.
abbrev pub learnt : List ℕ → Option (List ℕ) → ℕ → ℕ → Stage
learnt rotation closed sa da =
    if nat_lt sa da then Learning (with_address sa rotation) closed else closed_rotation (with_address sa rotation) closed

-- the members after a token
abbrev pub corrected : List ℕ → Option ℕ → ℕ → ℕ → List ℕ
corrected members own sa da = with_address sa (with_address da (filter (λ a. not (removes own sa da a)) members))

-- how many tokens have skipped a station, after one more
abbrev pub skips_after : ℕ → ℕ → ℕ → ℕ → ℕ
skips_after ts skipped sa da =
    if sa == ts || da == ts then 0 else if is_between sa da ts then min 255 (skipped + 1) else skipped

abbrev pub place_after : Option Place → ℕ → ℕ → Option Place
place_after None sa da = None
place_after (Some place) sa da = Some (record { address = place.address; skipped = skips_after place.address place.skipped sa da })

-- a stage after a token that is no retry
abbrev pub stage_heard : Stage → ℕ → ℕ → Stage
stage_heard (Learning rotation closed) sa da = learnt rotation closed sa da
stage_heard (Complete members place) sa da = Complete (corrected members (own_of place) sa da) (place_after place sa da)

abbrev pub heard : LasTable → ℕ → ℕ → LasTable
heard t sa da =
    record {
      last = Some (record { source = sa; destination = da });
      stage = if is_retry t.last sa da then t.stage else stage_heard t.stage sa da;
    }

-- ---- other changes of a complete list

abbrev pub stage_entered : Stage → ℕ → Stage
stage_entered (Learning rotation closed) a = Learning rotation closed
stage_entered (Complete members place) a = Complete (with_address a members) place

abbrev pub stage_removed : Stage → ℕ → Stage
stage_removed (Learning rotation closed) a = Learning rotation closed
stage_removed (Complete members place) a = Complete (without_address a members) place

abbrev pub stage_readied : Stage → ℕ → Stage
stage_readied (Learning rotation closed) ts = Learning rotation closed
stage_readied (Complete members place) ts = Complete (with_address ts members) (Some (record { address = ts; skipped = 0 }))

abbrev pub entered : LasTable → ℕ → LasTable
entered t a = record { last = t.last; stage = stage_entered t.stage a }

abbrev pub removed : LasTable → ℕ → LasTable
removed t a = record { last = t.last; stage = stage_removed t.stage a }

-- the own station joins the ring
abbrev pub readied : LasTable → ℕ → LasTable
readied t ts = record { last = t.last; stage = stage_readied t.stage ts }
