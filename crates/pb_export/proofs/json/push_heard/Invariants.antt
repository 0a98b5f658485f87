-- What was appended so far, and what follows.
use Rattle.std.proofs.Common.{◌≡◌, ◌++◌, drop}
use Rattle.pb_export.specs.Json.{heard_text}
use Rattle.pb_export.proofs.json.push_heard.Given as goal

abbrev pub invariant-loop-tap : goal.invariant-loop-tap
invariant-loop-tap l =
    l.text.items ++ heard_text l.scenario l.tap (drop l.tap l.heard) ≡ l.initial.text.items ++ heard_text l.scenario 0 l.heard
