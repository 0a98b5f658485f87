-- What is left decides.
use Rattle.std.proofs.Common.{◌≡◌, map, drop}
use Rattle.law_runs.specs.Naming.{first_that_heard}
use Rattle.pb_taps.specs.Taps.{spec_of}
use Rattle.pb_export.proofs.holders.first_that_heard.Given as goal

abbrev pub invariant-loop-tap : goal.invariant-loop-tap
invariant-loop-tap l =
    first_that_heard l.telegram.heard l.to 0 (map spec_of l.taps) ≡ first_that_heard l.telegram.heard l.to l.tap (drop l.tap (map spec_of l.taps))
