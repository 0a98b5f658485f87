-- The taps so far are told.
use Rattle.std.proofs.Common.{◌≡◌, ◌<◌, ℕ}
use Rattle.std.specs.Prelude.{get_or, slice_get}
use Rattle.pbfdl.specs.BusReadings.{heard_at}
use Rattle.pbfdl.proofs.bus_entries.tell_heard.Given as goal

abbrev pub invariant-loop-tap : goal.invariant-loop-tap
invariant-loop-tap l = (k : ℕ) → k < l.tap → get_or l.told k 0 ≡ heard_at (slice_get l.heard k)
