use Rattle.pb_stream.specs.Streams.{IsStreaming}
use Rattle.bus_tests.proofs.scenarios.streams.most_kept.Given as goal

abbrev pub invariant-loop-instant : goal.invariant-loop-instant
invariant-loop-instant g l = IsStreaming l.stream
