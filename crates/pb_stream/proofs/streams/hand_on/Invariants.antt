-- Some entries were handed on and let go; each round lets some go.
use Rattle.std.proofs.Common.{length}
use Rattle.pb_medium.specs.Traces.{entries_of}
use Rattle.pb_world.specs.Buses.{IsKept}
use Rattle.pb_stream.specs.Streams.{HandsOn}
use Rattle.pb_stream.proofs.streams.hand_on.Given as goal

abbrev pub invariant-loop-text : goal.invariant-loop-text
invariant-loop-text l = record {
  handed : HandsOn l.scenario.names l.initial.bus l.initial.text.items l.bus l.text.items;
  kept : IsKept l.bus;
}

abbrev pub decreases-loop-text : goal.decreases-loop-text
decreases-loop-text l = length (entries_of l.bus.trace)
