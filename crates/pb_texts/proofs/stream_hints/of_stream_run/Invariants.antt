use Rattle.pb_stream.specs.Streams.{IsStreaming}
use Rattle.pb_texts.proofs.stream_hints.of_stream_run.Given as goal

abbrev pub invariant-loop : goal.invariant-loop
invariant-loop l = IsStreaming l.stream
