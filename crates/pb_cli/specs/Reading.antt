-- Why an input could not be read, and the limits of reading.
use Rattle.std.specs.Prelude.{ℕ, ◌*◌, ◌-◌, ◌⊎◌}
use Rattle.pb_cli.specs.Counts.{GrowsBy}
use Rattle.pb_cli.specs.Streams.{SourceView}

-- the most bytes that an input may have
abbrev pub byte_limit : ℕ
byte_limit = 1048576

-- the most read calls for one input: one for each byte that it may have, and as many more
abbrev pub call_limit : ℕ
call_limit = 2 * byte_limit

-- The reader failed, or all calls were made that one input may take; then all but one call for each byte were
-- interrupted.
abbrev pub IsReadCause : (was now : SourceView) → Type 0
IsReadCause was now =
    GrowsBy 1 was.failures now.failures
    ⊎ (GrowsBy call_limit was.calls now.calls × GrowsBy (call_limit - byte_limit) was.interruptions now.interruptions)
