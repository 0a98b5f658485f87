-- The letters so far.
use Rattle.std.proofs.Common.{◌≡◌, ◌++◌, map, take}
use Rattle.pb_scenario.specs.Texts.{letter_of}
use Rattle.pb_scenario.proofs.texts.push_letters.Given as goal

abbrev pub invariant-loop-tap : goal.invariant-loop-tap
invariant-loop-tap l = l.text.items ≡ l.initial.text.items ++ map letter_of (take l.tap l.heard)
