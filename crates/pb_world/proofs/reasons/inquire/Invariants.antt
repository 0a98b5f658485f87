use Rattle.std.proofs.Common.{map}
use Rattle.std.specs.Prelude.{take}
use Rattle.pb_taps.specs.Events.{event_of}
use Rattle.pb_world.specs.Watched.{HasCome, world_in}
use Rattle.pb_world.proofs.reasons.inquire.Given as goal

-- it has come by the events so far
abbrev pub invariant-loop-place : goal.invariant-loop-place
invariant-loop-place l = HasCome l.inquiry.watched (world_in l.initial.inquiry.watched) (take l.place (map event_of l.events))
