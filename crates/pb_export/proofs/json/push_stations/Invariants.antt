-- What was appended so far, and what follows.
use Rattle.std.proofs.Common.{◌≡◌, ◌++◌, drop}
use Rattle.pb_export.specs.Json.{stations_text}
use Rattle.pb_export.proofs.json.push_stations.Given as goal

abbrev pub invariant-loop-tap : goal.invariant-loop-tap
invariant-loop-tap l =
    l.text.items ++ stations_text l.tap (drop l.tap l.scenario.names) (drop l.tap l.scenario.scenario.taps) ≡ l.initial.text.items ++ stations_text 0 l.scenario.names l.scenario.scenario.taps
