use Rattle.std.proofs.Common.{◌≡◌, replicate}
use Rattle.pb_world.proofs.air.Air.new.Given as goal

abbrev pub invariant-loop : goal.invariant-loop
invariant-loop l = l.ends.items ≡ replicate l.counter 0
