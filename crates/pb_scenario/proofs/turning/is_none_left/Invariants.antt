-- None of those before wants a turn.
use Rattle.std.proofs.Common.{◌≡◌, drop}
use Rattle.law_runs.specs.Histories.{none_left}
use Rattle.pb_scenario.proofs.turning.is_none_left.Given as goal

abbrev pub invariant-loop-wants : goal.invariant-loop-wants
invariant-loop-wants l = none_left l.want ≡ none_left (drop l.wants-index l.want)
