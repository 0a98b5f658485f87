use Rattle.std.proofs.Common.{◌≡◌, ◌++◌}
use Rattle.std.specs.Prelude.{drop}
use Rattle.pb_texts.specs.Texts.{taps_lines}
use Rattle.pb_texts.proofs.texts.push_taps.Given as goal

-- the lines so far, and those that follow
abbrev pub invariant-loop-tap : goal.invariant-loop-tap
invariant-loop-tap l =
    l.text.items ++ taps_lines l.baud l.scenario.scenario.params (drop l.tap l.scenario.names) (drop l.tap l.scenario.scenario.taps)
    ≡ l.initial.text.items ++ taps_lines l.baud l.scenario.scenario.params l.scenario.names l.scenario.scenario.taps
