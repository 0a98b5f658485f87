-- What the steps that are left withhold, upon what is noted, is what all withhold.
use Rattle.std.proofs.Common.{◌≡◌, ◌^◌, drop}
use Rattle.pb_scenario.specs.Steps.{steps_of}
use Rattle.pb_scenario.specs.Walks.{AreBefore, hold_all}
use Rattle.pb_scenario.proofs.advancing.hold.Given as goal

abbrev pub invariant-loop-step : goal.invariant-loop-step
invariant-loop-step l = record {
  held : hold_all l.held (steps_of (drop l.step-index l.steps)) ≡ hold_all l.initial.held (steps_of l.steps);
  before : AreBefore (2 ^ 63) (steps_of (drop l.step-index l.steps));
}
