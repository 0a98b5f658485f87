use Rattle.std.proofs.Common.{◌≡◌, ◌≤◌, List}
use Rattle.std.specs.Prelude.{drop}
use Rattle.law_runs.specs.Premises.{waited_by}
use Rattle.pb_world.specs.Buses.{world_of, world_with}
use Rattle.pb_world.specs.Premises.{IsQuiet}
use Rattle.law_model.specs.Trace.{Entry}
use Rattle.pb_world.proofs.premises.first_waiting.Given as goal

-- none so far has waited
abbrev pub invariant-loop-tap : goal.invariant-loop-tap
invariant-loop-tap l =
    record {
      behind : l.from ≤ l.tap;
      none : (old : List Entry) → IsQuiet (world_with old l.bus) l.quiet
          → waited_by (world_with old l.bus) l.from (drop l.from (world_of l.bus).taps) ≡ waited_by (world_with old l.bus) l.tap (drop l.tap (world_of l.bus).taps);
    }
