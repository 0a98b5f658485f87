use Rattle.std.proofs.Common.{◌≡◌, ◌++◌, false}
use Rattle.std.specs.Prelude.{drop}
use Rattle.pb_texts.specs.Texts.{master_objects}
use Rattle.pb_texts.proofs.json.push_objects.Given as goal

-- the objects so far, and those that follow
abbrev pub invariant-loop-tap : goal.invariant-loop-tap
invariant-loop-tap l =
    l.text.items ++ master_objects l.baud l.scenario.scenario.params l.is_behind (drop l.tap l.scenario.names) (drop l.tap l.scenario.scenario.taps)
    ≡ l.initial.text.items ++ master_objects l.baud l.scenario.scenario.params false l.scenario.names l.scenario.scenario.taps
