-- What was appended so far, and what follows.
use Rattle.std.proofs.Common.{◌≡◌, ◌++◌, drop}
use Rattle.pb_export.specs.Pcapng.{letters}
use Rattle.pb_export.proofs.pcapng.push_letters.Given as goal

abbrev pub invariant-loop-tap : goal.invariant-loop-tap
invariant-loop-tap l =
    l.text.items ++ letters (drop l.tap l.heard) ≡ l.initial.text.items ++ letters l.heard
