use Rattle.pb_stream.specs.Streams.{IsStreaming}
use Rattle.pb_texts.proofs.air_hints.on_bus.Given as goal

abbrev pub invariant-loop : goal.invariant-loop
invariant-loop l = IsStreaming l.stream
