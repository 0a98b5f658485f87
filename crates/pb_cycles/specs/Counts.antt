-- The frame count bits of the requests to an address.
use Rattle.std.specs.Prelude.{ℕ, List, slice_index_or}
use Rattle.pb_telegram.specs.declared.control.FrameCount.{FrameCount}
use Rattle.pb_telegram.specs.declared.control.FrameCount.TheVariants.{First}

-- the next frame count bits for an address
abbrev pub count_at : List FrameCount → ℕ → FrameCount
count_at counts address = slice_index_or counts address First
