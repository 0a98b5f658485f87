use Rattle.std.proofs.Common.{◌≡◌, ◌∙◌, ◌++◌, List, ℕ, ap, map, subst, sym}
use Rattle.std.specs.Io.KnownBytes.{Appends}
use Rattle.law_runs.specs.Judging.{StandsFrom}
use Rattle.law_model.specs.Trace.{Entry}
use Rattle.pb_medium.specs.Entries.{entry_of}
use Rattle.pb_stream.specs.Streams.{kept_of}
use Rattle.pb_export.specs.Svg.{stream_svg_text}
use Rattle.pb_export.specs.declared.options.Window.{Window}
use Rattle.pb_cli.specs.StreamDrawing.{AreInOrder, up_to}
use Rattle.pb_cli.proofs.DrawnRuns.{draws}
use Rattle.pb_cli.proofs.stream_drawing.draw_run.Goals as goal

pub push_stream_svg-requires : goal.push_stream_svg-requires
push_stream_svg-requires g c =
    let (fault, rest, of_run, says, moment) = c.in_ok-ended.ensures in
    subst (λ (es : List Entry). StandsFrom 0 es) (sym c.entries.ensures) (subst AreInOrder rest c.requires.order)

pub returns-clause-bytes : goal.returns-clause-bytes
returns-clause-bytes g c =
    let w = c.args.window in
    let s = c.args.scenario.now in
    let ended = c.in_ok-ended.ended in
    let shown = c.shown_of-shown.result in
    let before = (g.W.Sink.view c.args.writer.now).contents in
    let after = (g.W.Sink.view c.write_out.new.writer).contents in
    let next = c.play_out.new.stream in
    let es : List Entry = map entry_of c.entries.result.now in
    let made : c.deref.result.now ≡ c.new-picture.result.items ++ stream_svg_text shown s es = c.deref.ensures.value ∙ c.in_ok-push_stream_svg.ensures in
    let bytes : c.deref.result.now ≡ stream_svg_text (up_to w ended.refused_at) s (kept_of next) =
    made ∙ ap (λ (l : List ℕ). l ++ stream_svg_text shown s es) c.new-picture.ensures.items ∙ ap (λ (all : List Entry). stream_svg_text shown s all) c.entries.ensures
    ∙ ap (λ (v : Window). stream_svg_text v s (kept_of next)) c.shown_of-shown.ensures in
    draws w s c.args.stream next before after ended c.in_ok-ended.ensures (subst (Appends before after) bytes c.in_ok-write_out.ensures.whole)
