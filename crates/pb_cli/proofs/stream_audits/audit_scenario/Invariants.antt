-- The lines of what was found so far are written.
use Rattle.std.proofs.Common.{◌≡◌, ◌-◌}
use Rattle.std.specs.Io.KnownBytes.{Appends}
use Rattle.law_streams.specs.Audits.{audited_within}
use Rattle.law_streams.specs.Streams.{stream_limit}
use Rattle.pb_scenario.specs.Repeats.{unrolled}
use Rattle.pb_stream.specs.Audits.{IsAuditOf}
use Rattle.pb_cli.specs.StreamAudits.{text_of}
use Rattle.pb_cli.proofs.stream_audits.audit_scenario.Given as goal

abbrev pub invariant-loop-text : goal.invariant-loop-text
invariant-loop-text g l = record {
  audits : IsAuditOf (audited_within stream_limit (unrolled l.until l.scenario)) l.stream;
  text : Appends (g.W.Sink.view l.initial.writer).contents (g.W.Sink.view l.writer).contents (text_of l.stream.found);
  unfailed : (g.W.Sink.view l.writer).failures ≡ (g.W.Sink.view l.initial.writer).failures;
}

abbrev pub decreases-loop-text : goal.decreases-loop-text
decreases-loop-text g l = l.stream.walk.until - l.stream.walk.clock
