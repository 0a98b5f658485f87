-- A list that is not complete stays as it is.
use Rattle.std.proofs.Common.{◌≡◌, ℕ, false, refl}
use Rattle.pb_ring.specs.Las.{LasTable, is_complete, entered, removed, readied}
use Rattle.pb_ring.specs.declared.stages.HeardToken.{HeardToken}
use Rattle.pb_ring.specs.declared.stages.Stage.{Stage}
use Rattle.pb_ring.specs.declared.stages.Stage.TheVariants.{Learning, Complete}
use Rattle.std.specs.Prelude.{Option}

pub none_enters : (t : LasTable) (a : ℕ) → is_complete t.stage ≡ false → t ≡ entered t a
none_enters t a e = by_stage t.last t.stage e
  where
    by_stage : (last : Option HeardToken) (stage : Stage) → is_complete stage ≡ false → record { last = last; stage = stage } ≡ entered (record { last = last; stage = stage }) a
    by_stage last (Learning rotation closed) e = refl
    by_stage last (Complete members place) e = absurd cc

pub none_leaves : (t : LasTable) (a : ℕ) → is_complete t.stage ≡ false → t ≡ removed t a
none_leaves t a e = by_stage t.last t.stage e
  where
    by_stage : (last : Option HeardToken) (stage : Stage) → is_complete stage ≡ false → record { last = last; stage = stage } ≡ removed (record { last = last; stage = stage }) a
    by_stage last (Learning rotation closed) e = refl
    by_stage last (Complete members place) e = absurd cc

pub none_joins : (t : LasTable) (ts : ℕ) → is_complete t.stage ≡ false → t ≡ readied t ts
none_joins t ts e = by_stage t.last t.stage e
  where
    by_stage : (last : Option HeardToken) (stage : Stage) → is_complete stage ≡ false → record { last = last; stage = stage } ≡ readied (record { last = last; stage = stage }) ts
    by_stage last (Learning rotation closed) e = refl
    by_stage last (Complete members place) e = absurd cc
