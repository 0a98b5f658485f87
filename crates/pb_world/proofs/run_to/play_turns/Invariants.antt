-- The taps so far have turned that want to.
use Rattle.pb_world.proofs.Alone.{HaveTurned}
use Rattle.pb_world.proofs.run_to.play_turns.Given as goal

abbrev pub invariant-loop-tap : goal.invariant-loop-tap
invariant-loop-tap l = HaveTurned l.leg.until l.leg.now l.tap l.initial.watched l.watched
