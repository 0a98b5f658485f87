use Rattle.std.proofs.Common.{map}
use Rattle.pb_medium.specs.Entries.{entry_of}
use Rattle.pb_world.proofs.Passing.{ToldTo}
use Rattle.pb_world.proofs.passes.tell_all.Given as goal

abbrev pub invariant-loop-position : goal.invariant-loop-position
invariant-loop-position l = ToldTo l.delay (map entry_of l.entries) l.from l.to l.initial.taps l.taps l.position

abbrev pub invariant-loop-position-2 : goal.invariant-loop-position-2
invariant-loop-position-2 l = ToldTo l.delay (map entry_of l.entries) l.from l.to l.initial.taps l.taps l.position
