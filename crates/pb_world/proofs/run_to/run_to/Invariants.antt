-- The run goes on as it began.
use Rattle.std.proofs.Common.{◌≡◌, ◌-◌}
use Rattle.pb_world.proofs.Alone.{IsRest}
use Rattle.pb_world.proofs.run_to.run_to.Given as goal

abbrev pub decreases-loop-at : goal.decreases-loop-at
decreases-loop-at l = l.until - l.leg.now

abbrev pub invariant-loop-at : goal.invariant-loop-at
invariant-loop-at l = record {
  end : l.leg.until ≡ l.until;
  rest : IsRest l.until l.initial.watched l.leg.now l.watched;
}
