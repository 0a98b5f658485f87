-- What a failed write has written, and why it failed.
use Rattle.std.specs.Prelude.{ℕ, ◌+◌, ◌≤◌, ◌⊎◌, List, length, take, Option}
use Rattle.std.specs.Io.KnownBytes.{Appends}
use Rattle.pb_cli.specs.Counts.{GrowsBy}
use Rattle.pb_cli.specs.Streams.{SinkView}

-- known bytes grow by a prefix of the text
abbrev pub AppendsFront : Option (List ℕ) → Option (List ℕ) → List ℕ → Type 0
AppendsFront old new text = (count : ℕ) × (count ≤ length text) × Appends old new (take count text)

-- how many times in a row an interrupted write is tried again
abbrev pub retries_in_a_row : ℕ
retries_in_a_row = 1000

-- the writer failed, or was interrupted in a row once more than a write is tried again
abbrev pub IsWriteCause : (before after : SinkView) → Type 0
IsWriteCause before after =
    GrowsBy 1 before.failures after.failures
    ⊎ (GrowsBy (retries_in_a_row + 1) before.interruptions after.interruptions × (retries_in_a_row + 1 ≤ after.in_a_row))
