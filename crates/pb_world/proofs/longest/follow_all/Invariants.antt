use Rattle.std.proofs.Common.{map}
use Rattle.std.specs.Prelude.{take}
use Rattle.pb_world.specs.Buses.{world_of}
use Rattle.pb_taps.specs.Events.{event_of}
use Rattle.pb_world.specs.Liveness.{AreStretches}
use Rattle.pb_world.proofs.longest.follow_all.Given as goal

-- they are the stretches of the events so far
abbrev pub invariant-loop-place : goal.invariant-loop-place
invariant-loop-place l = AreStretches l.stretches l.bus (world_of l.initial.bus) (take l.place (map event_of l.events))
