-- The answers so far, and those that follow.
use Rattle.std.proofs.Common.{◌≡◌, ◌++◌, drop}
use Rattle.law_runs.specs.Runs.{wanted}
use Rattle.pb_scenario.specs.Walks.{plan_in}
use Rattle.pb_scenario.proofs.turning.note_wanted.Given as goal

abbrev pub invariant-loop-tap : goal.invariant-loop-tap
invariant-loop-tap l =
    l.want.items ++ wanted (plan_in l.walk) l.walk.clock l.tap (drop l.tap l.dues) ≡ wanted (plan_in l.walk) l.walk.clock 0 l.dues
