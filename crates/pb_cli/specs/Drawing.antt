-- Which bursts of a capture a picture has.
use Rattle.std.specs.Prelude.{◌≡◌, ℕ, ◌+◌, ◌-◌, ◌^◌, min, Bool, nat_le, nat_lt, ◌&&◌, if◌then◌else◌, List, [], ◌∷◌, length, take, codes, decimal, ◌==◌}
use Rattle.std.specs.List.{filter}
use Rattle.pb_monitor.specs.declared.heard_bursts.HeardBurst.{HeardBurst}
use Rattle.pb_export.specs.Pieces.{all_of}
use Rattle.pb_cli.specs.declared.drawing.Drawing.{Drawing}

-- from a moment on, and over within 1,000,000 bit times of it
abbrev pub is_within : (from : ℕ) → HeardBurst → Bool
is_within from b = nat_le from b.begin && nat_le (b.end - from) 1000000

-- the first burst that is no longer than a picture, and those within that from its begin
abbrev pub in_reach : List HeardBurst → List HeardBurst
in_reach [] = []
in_reach (b ∷ bs) = if is_within b.begin b then b ∷ filter (is_within b.begin) bs else in_reach bs

-- the bursts of a picture of these
abbrev pub drawn : List HeardBurst → List HeardBurst
drawn bs = take 10000 (in_reach bs)

-- the picture of these so far: how many it leaves out is a u64 that saturates
pub record IsOf (d : Drawing) (bs : List HeardBurst) : Type 0 where
  pub bursts : d.bursts.items ≡ drawn bs
  pub left_out : d.left_out ≡ min (length bs - length (drawn bs)) (2 ^ 64 - 1)

-- whether one more has room behind those of a picture
abbrev pub is_in_reach : List HeardBurst → HeardBurst → Bool
is_in_reach [] b = is_within b.begin b
is_in_reach (first ∷ bs) b = is_within first.begin b

abbrev pub has_room : List HeardBurst → HeardBurst → Bool
has_room bs b = nat_lt (length bs) 10000 && is_in_reach bs b

abbrev pub if_room : List HeardBurst → HeardBurst → List HeardBurst
if_room bs b = if has_room bs b then b ∷ [] else []

-- how many are left out, after one more
abbrev pub left_out_after : (left_out : ℕ) → List HeardBurst → HeardBurst → ℕ
left_out_after n bs b = if has_room bs b then n else min (n + 1) (2 ^ 64 - 1)

-- the line about those that a picture leaves out, if there are any
abbrev pub left_out_line : ℕ → List ℕ
left_out_line n =
    all_of (codes "the picture leaves out " ∷ decimal n ∷ codes " bursts; wanted: at most " ∷ decimal 10000
    ∷ codes " bursts, within " ∷ decimal 1000000 ∷ codes " bit times\n" ∷ [])

abbrev pub left_out_text : ℕ → List ℕ
left_out_text n = if n == 0 then [] else left_out_line n
