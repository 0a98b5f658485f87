-- The counts of accepted events after one more.
use Rattle.std.specs.Prelude.{ℕ, ◌+◌, List, slice_set, slice_index, nat_lt, length, if◌then◌else◌}
use Rattle.law_model.specs.World.{Event, Turn, Pass, Damage, Start, Stop, Queue, Noise, Unheard}

abbrev pub counted_at : List ℕ → ℕ → List ℕ
counted_at turns tap = if nat_lt tap (length turns) then slice_set turns tap (slice_index turns tap + 1) else turns

-- how many turns of each tap
abbrev pub counted : List ℕ → Event → List ℕ
counted turns (Turn tap) = counted_at turns tap
counted turns (Pass bits) = turns
counted turns (Damage tap speaker place) = turns
counted turns (Start tap) = turns
counted turns (Stop tap) = turns
counted turns (Queue tap request) = turns
counted turns (Noise bits) = turns
counted turns (Unheard tap speaker) = turns

-- how many other events
abbrev pub counted_drives : ℕ → Event → ℕ
counted_drives drives (Turn tap) = drives
counted_drives drives (Pass bits) = drives + 1
counted_drives drives (Damage tap speaker place) = drives + 1
counted_drives drives (Start tap) = drives + 1
counted_drives drives (Stop tap) = drives + 1
counted_drives drives (Queue tap request) = drives + 1
counted_drives drives (Noise bits) = drives + 1
counted_drives drives (Unheard tap speaker) = drives + 1
