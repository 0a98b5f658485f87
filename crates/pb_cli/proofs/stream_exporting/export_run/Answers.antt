use Rattle.std.proofs.Common.{List, ℕ, Option, refl, subst, sym, rules, []}
use Rattle.std.specs.Io.KnownBytes.{Appends}
use Rattle.pb_stream.specs.Streams.{rest_of}
use Rattle.pb_export.specs.declared.options.StreamExport.{StreamExport}
use Rattle.pb_cli.specs.Bounding.{IsBaud}
use Rattle.pb_cli.specs.Exporting.{PlaysOn}
use Rattle.pb_cli.specs.declared.settled.Settled.{Settled}
use Rattle.pb_cli.proofs.Appended.{begins, ends, goes_on}
use Rattle.pb_cli.proofs.stream_exporting.export_run.Goals as goal

pub loop-bytes-init : goal.loop-bytes-init
loop-bytes-init g c = record {
  exports = begins c.args.export.now c.args.scenario.now c.args.stream c.new-exporter.result (g.W.Sink.view c.args.writer.now).contents c.new-exporter.ensures c.requires.ready;
  baud = subst (λ (e : StreamExport). IsBaud e.baud) (sym c.new-exporter.ensures.export) c.requires.baud;
  unfailed = refl;
}

pub returns-in-Some-clause-bytes : goal.returns-in-Some-clause-bytes
returns-in-Some-clause-bytes g c =
    let x = c.args.export.now in
    let s = c.args.scenario.now in
    let stream = c.loop-bytes.stream in
    let exporter = c.loop-bytes.exporter in
    let text = c.play.new.bytes.items in
    let mid = (g.W.Sink.view c.loop-bytes.writer).contents in
    let after = (g.W.Sink.view c.write_out.new.writer).contents in
    let cleared = subst (λ (xs : List ℕ). PlaysOn s stream c.play.new.stream exporter c.play.new.exporter xs text c.in_ok-ended.ended) c.clear.ensures.items c.in_ok-ended.ensures in
    ends x s (rest_of c.args.stream) stream exporter text (g.W.Sink.view c.args.writer.now).contents mid after c.in-Some.settled c.loop-bytes.invariant.exports
    (subst (λ (o : Option Settled). PlaysOn s stream c.play.new.stream exporter c.play.new.exporter [] text o) c.in-Some.is cleared)
    (subst (Appends mid after) c.deref.ensures.value c.in_ok-write_out.ensures.whole)

pub loop-bytes-preserved : goal.loop-bytes-preserved
loop-bytes-preserved g c =
    let x = c.args.export.now in
    let s = c.args.scenario.now in
    let stream = c.loop-bytes.stream in
    let exporter = c.loop-bytes.exporter in
    let text = c.play.new.bytes.items in
    let mid = (g.W.Sink.view c.loop-bytes.writer).contents in
    let after = (g.W.Sink.view c.write_out.new.writer).contents in
    let cleared = subst (λ (xs : List ℕ). PlaysOn s stream c.play.new.stream exporter c.play.new.exporter xs text c.in_ok-ended.ended) c.clear.ensures.items c.in_ok-ended.ensures in
    let on = subst (λ (o : Option Settled). PlaysOn s stream c.play.new.stream exporter c.play.new.exporter [] text o) c.in-None.is cleared in
    record {
      exports = goes_on x s (rest_of c.args.stream) stream c.play.new.stream exporter c.play.new.exporter text (g.W.Sink.view c.args.writer.now).contents mid after
          c.loop-bytes.invariant.exports on (subst (Appends mid after) c.deref.ensures.value c.in_ok-write_out.ensures.whole);
      baud = subst (λ (e : StreamExport). IsBaud e.baud) (sym on.export) c.loop-bytes.invariant.baud;
      unfailed = search rules;
    }
