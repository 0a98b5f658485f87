-- The taps so far, and those that follow.
use Rattle.std.proofs.Common.{◌≡◌, ◌++◌, drop}
use Rattle.law_runs.specs.Runs.{places, wanted}
use Rattle.pb_scenario.specs.Walks.{plan_in}
use Rattle.pb_scenario.proofs.walks.Walk.note_turns.Given as goal

abbrev pub invariant-loop-tap : goal.invariant-loop-tap
invariant-loop-tap l =
    l.taps.items ++ places l.tap (wanted (plan_in l.self) l.self.clock l.tap (drop l.tap l.dues)) ≡ places 0 (wanted (plan_in l.self) l.self.clock 0 l.dues)
