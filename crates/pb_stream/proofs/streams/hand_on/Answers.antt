-- Each round hands on what may be let go, and after the last one that is less than a block.
use Rattle.std.proofs.Common.{◌≡◌, ◌∙◌, ◌++◌, ◌<◌, ap, arith, sym, length, max}
use Rattle.std.proofs.lemmas.List.{length-map}
use Rattle.pb_medium.specs.Entries.{entry_of}
use Rattle.pb_medium.specs.LettingGo.{past_of}
use Rattle.pb_scenario.specs.Texts.{entries_text}
use Rattle.pb_stream.proofs.Streaming.{hands-both, hands-none, is-short}
use Rattle.pb_stream.proofs.streams.hand_on.Goals as goal

pub loop-text-init : goal.loop-text-init
loop-text-init c = record { handed = hands-none c.args.scenario.now.names c.args.bus.now c.args.text.now.items c.requires; kept = c.requires }

pub loop-text-preserved : goal.loop-text-preserved
loop-text-preserved c =
    let names = c.args.scenario.now.names in
    let mid = c.loop-text.bus in
    let text = c.loop-text.text.items in
    let gone = past_of mid.trace in
    let lines = c.in_ok-push_trace.ensures ∙ ap (λ es. text ++ entries_text names es) c.past-in-loop-text.ensures in
    record {
      handed = hands-both names c.args.bus.now mid c.let_go.new.self c.args.text.now.items text c.push_trace.new.text.items c.loop-text.invariant.handed (gone, lines, c.let_go.ensures);
      kept = c.let_go.ensures.kept;
    }

pub returns-clause-few : goal.returns-clause-few
returns-clause-few c =
    let trace = c.loop-text.bus.trace in
    let count : length c.past.result.now ≡ length (past_of trace) = sym (length-map c.past.result.now entry_of) ∙ ap length c.past.ensures in
    let few : length (past_of trace) < max c.args.block 1 = omega (arith, count, c.loop-text-test.false, c.max.ensures) in
    is-short c.args.block trace c.loop-text.invariant.kept.cut.2 few
