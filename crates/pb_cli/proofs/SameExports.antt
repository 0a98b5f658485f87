-- An export that is written as the run settles, and a picture of such a run, are those of the whole trace.
use Rattle.std.proofs.Common.{◌≡◌, ◌∙◌, ap, refl, sym, subst, arith, ℕ, List, Option, Some, None, Result, Ok, Err, false}
use Rattle.std.specs.Prelude.{IfSome}
use Rattle.std.specs.Io.KnownBytes.{Appends}
use Rattle.law_model.specs.Trace.{Entry}
use Rattle.law_model.specs.World.{trace_limit}
use Rattle.law_runs.specs.Scenarios.{Scenario, RunFault, trace_of}
use Rattle.law_streams.specs.Laws.{MoreIsSame, RunIsWithin, StreamIsRun}
use Rattle.law_streams.specs.Limits.{ends_full, run_of_stream}
use Rattle.law_streams.specs.Streams.{Streamed, stream_limit, stream_within, trace_within}
use Rattle.pb_scenario.specs.Fields.{Fault}
use Rattle.pb_scenario.specs.Files.{scenario_in}
use Rattle.pb_scenario.specs.Repeats.{StreamView, unrepeated, unrolled}
use Rattle.pb_scenario.specs.Scenarios.{ScenarioView}
use Rattle.pb_scenario.specs.StreamFiles.{stream_in}
use Rattle.pb_scenario.specs.StreamLaws.{ReadsTheSame, UnrollsTheSame}
use Rattle.pb_texts.specs.Files.{described, in_table, scenario_of, stream_scenario_of, table_of}
use Rattle.pb_export.specs.declared.options.Export.{Export}
use Rattle.pb_export.specs.declared.options.StreamExport.{StreamExport}
use Rattle.pb_export.specs.declared.options.Window.{Window}
use Rattle.pb_export.specs.Streamed.{IsSame, streamed_bytes, streamed_of}
use Rattle.pb_export.specs.Svg.{drawn, stream_svg_text, svg_text}
use Rattle.pb_export.proofs.Settling.{same}
use Rattle.pb_cli.specs.Exporting.{ExportsFile, ExportsScenario, SettlesToTheSame, written_of}
use Rattle.pb_cli.specs.Settling.{Says}
use Rattle.pb_cli.specs.StreamDrawing.{DrawsFile, DrawsScenario, DrawsTheSame, drawn_of}
use Rattle.pb_cli.specs.declared.settled.Settled.{Settled}

-- ---- the file

reads : ReadsTheSame → (file : List ℕ) (s : ScenarioView) → scenario_of file ≡ Ok s → stream_scenario_of file ≡ Ok (unrepeated s)
reads law file s is = by (table_of file) is
  where
    in_table_of : (top : _) (r : Result ScenarioView Fault) → scenario_in top ≡ r → described scenario_in (Some top) ≡ Ok s → described stream_in (Some top) ≡ Ok (unrepeated s)
    in_table_of top (Ok t) of is =
        let one : t ≡ s = cc (sym (ap in_table of) ∙ is) in
        ap in_table (law top s (of ∙ ap (λ (v : ScenarioView). Ok v) one))
    in_table_of top (Err f) of is = absurd (cc (sym (ap in_table of) ∙ is))

    by : (o : Option _) → described scenario_in o ≡ Ok s → described stream_in o ≡ Ok (unrepeated s)
    by None is = absurd cc
    by (Some top) is = in_table_of top (scenario_in top) refl is

-- ---- the run

abbrev with_all : List Entry → Option RunFault → Streamed
with_all entries fault = record { entries = entries; fault = fault }

ended : (o : Option Streamed) (entries : List Entry) → run_of_stream o ≡ Some (Ok entries) → o ≡ Some (with_all entries None)
ended None entries is = absurd cc
ended (Some stream) entries is = by stream.fault stream.entries is
  where
    by : (f : Option RunFault) (es : List Entry) → run_of_stream (Some (with_all es f)) ≡ Some (Ok entries)
        → Some (with_all es f) ≡ Some (with_all entries None)
    by None es is =
        let one : es ≡ entries = cc in
        ap (λ (l : List Entry). Some (with_all l None)) one
    by (Some f) es is = absurd cc

streams : RunIsWithin → MoreIsSame → StreamIsRun → (s : Scenario) (entries : List Entry) → trace_of s ≡ Some (Ok entries)
    → stream_within stream_limit s ≡ Some (with_all entries None)
streams within more run s entries is =
    let few : trace_within trace_limit s ≡ Some (Ok entries) = sym (within s).1 ∙ is in
    let room : ends_full (trace_within trace_limit s) ≡ false = ap ends_full few in
    ended (stream_within stream_limit s) entries (sym (run s stream_limit) ∙ more s trace_limit stream_limit (omega arith) room ∙ few)

-- ---- the export

-- what the export of a stream says where its run ends
at_end : (y : StreamExport) (v : StreamView) (entries : List Entry) (before after : Option (List ℕ)) (e : Settled)
    → stream_within stream_limit (unrolled v.until v) ≡ Some (with_all entries None) → ExportsScenario y v before after e
    → Appends before after (streamed_bytes y v entries) × Says e None
at_end y v entries before after e is (stream, whole, written, says) =
    let one : stream ≡ with_all entries None = cc in
    (subst (λ (t : Streamed). Appends before after (written_of y v t.entries t.fault)) one written, subst (λ (t : Streamed). Says e t.fault) one says)

is_same : (x : Export) (y : StreamExport) (o : Option StreamExport) → IfSome o (IsSame x) → o ≡ Some y → IsSame x y
is_same x y None all is = absurd cc
is_same x y (Some z) all is =
    let one : z ≡ y = cc in
    subst (IsSame x) one all

pub settles : ReadsTheSame → UnrollsTheSame → RunIsWithin → MoreIsSame → StreamIsRun → SettlesToTheSame
settles read steps within more run x y file s entries before after e form describes trace exports =
    let v = unrepeated s in
    let scenario : unrolled v.until v ≡ s.scenario = steps s s.scenario.until in
    let stream : stream_within stream_limit (unrolled v.until v) ≡ Some (with_all entries None) =
    ap (stream_within stream_limit) scenario ∙ streams within more run s.scenario entries trace in
    let of_scenario : ExportsScenario y v before after e =
    subst (λ (r : Result StreamView (Option Fault)). ExportsFile y r before after e) (reads read file s describes) exports in
    let (written, says) = at_end y v entries before after e stream of_scenario in
    (subst (Appends before after) (is_same x y (streamed_of x) (same x) form s entries) written, says)

-- ---- a picture

drawn_at_end : (w : Window) (v : StreamView) (entries : List Entry) (before after : Option (List ℕ)) (e : Settled)
    → stream_within stream_limit (unrolled v.until v) ≡ Some (with_all entries None) → DrawsScenario w v before after e
    → Appends before after (stream_svg_text w v entries) × Says e None
drawn_at_end w v entries before after e is (stream, whole, written, says) =
    let one : stream ≡ with_all entries None = cc in
    (subst (λ (t : Streamed). Appends before after (drawn_of w v t.entries t.fault)) one written, subst (λ (t : Streamed). Says e t.fault) one says)

pub draws : ReadsTheSame → UnrollsTheSame → RunIsWithin → MoreIsSame → StreamIsRun → DrawsTheSame
draws read steps within more run w file s entries before after e describes trace pictures =
    let v = unrepeated s in
    let scenario : unrolled v.until v ≡ s.scenario = steps s s.scenario.until in
    let stream : stream_within stream_limit (unrolled v.until v) ≡ Some (with_all entries None) =
    ap (stream_within stream_limit) scenario ∙ streams within more run s.scenario entries trace in
    let of_scenario : DrawsScenario w v before after e =
    subst (λ (r : Result StreamView (Option Fault)). DrawsFile w r before after e) (reads read file s describes) pictures in
    let (written, says) = drawn_at_end w v entries before after e stream of_scenario in
    let picture : stream_svg_text w v entries ≡ svg_text w s entries = ap (λ (x : Scenario). drawn w s s.scenario.until x.steps entries) scenario in
    (subst (Appends before after) picture written, says)
