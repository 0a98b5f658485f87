-- Counts of what a reader or writer did. A count is a u64 that saturates.
use Rattle.std.specs.Prelude.{ℕ, ◌+◌, ◌-◌, ◌^◌, ◌≤◌, min, Result, Ok, Err}
use Rattle.pb_cli.specs.declared.streams.ReadFault.{ReadFault}
use Rattle.pb_cli.specs.declared.streams.ReadFault.TheVariants as read
use Rattle.pb_cli.specs.declared.streams.WriteFault.{WriteFault}
use Rattle.pb_cli.specs.declared.streams.WriteFault.TheVariants as write

-- the count after one more
abbrev pub one_more : ℕ → ℕ
one_more count = min (count + 1) (2 ^ 64 - 1)

-- the count has grown by at least n, or has saturated
abbrev pub GrowsBy : ℕ → ℕ → ℕ → Type 0
GrowsBy n before now = min (before + n) (2 ^ 64 - 1) ≤ now

-- how many reads have failed, after this one
abbrev pub read_failures : ℕ → Result ℕ ReadFault → ℕ
read_failures before (Ok count) = before
read_failures before (Err read.Interrupted) = before
read_failures before (Err read.Failed) = one_more before

-- how many writes have failed, after this one
abbrev pub write_failures : ℕ → Result ℕ WriteFault → ℕ
write_failures before (Ok count) = before
write_failures before (Err write.Interrupted) = before
write_failures before (Err write.Failed) = one_more before

-- how many reads were interrupted, after this one
abbrev pub read_interruptions : ℕ → Result ℕ ReadFault → ℕ
read_interruptions before (Ok count) = before
read_interruptions before (Err read.Interrupted) = one_more before
read_interruptions before (Err read.Failed) = before

-- how many writes were interrupted, after this one
abbrev pub write_interruptions : ℕ → Result ℕ WriteFault → ℕ
write_interruptions before (Ok count) = before
write_interruptions before (Err write.Interrupted) = one_more before
write_interruptions before (Err write.Failed) = before

-- how many consecutive writes were interrupted, after this one
abbrev pub writes_in_a_row : ℕ → Result ℕ WriteFault → ℕ
writes_in_a_row before (Ok count) = 0
writes_in_a_row before (Err write.Interrupted) = one_more before
writes_in_a_row before (Err write.Failed) = 0
