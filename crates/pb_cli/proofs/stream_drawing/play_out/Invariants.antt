-- Some instants are played, and what was to come is still to come.
use Rattle.std.proofs.Common.{◌-◌}
use Rattle.pb_stream.specs.Streams.{rest_of}
use Rattle.pb_cli.proofs.DrawnRuns.{Goes}
use Rattle.pb_cli.proofs.stream_drawing.play_out.Given as goal

abbrev pub invariant-loop-ended : goal.invariant-loop-ended
invariant-loop-ended g l = Goes (rest_of l.initial.stream) l.stream

abbrev pub decreases-loop-ended : goal.decreases-loop-ended
decreases-loop-ended g l = l.stream.walk.until - l.stream.walk.clock
