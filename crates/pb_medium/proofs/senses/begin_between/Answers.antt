use Rattle.std.proofs.Common.{rules, ◌∙◌, sym, ap, map, Some}
use Rattle.std.specs.Prelude.{find}
use Rattle.std.specs.Option.{option_and_then, option_map}
use Rattle.std.proofs.lemmas.Iterator.{YieldsList-from_slice}
use Rattle.std.proofs.lemmas.Iterator.Adapters.{option_map_id}
use Rattle.std.proofs.lemmas.Iterator.Consumers.{YieldsList-from_filter_map}
use Rattle.std.proofs.lemmas.Iterator.Search.{find_from_yields_List}
use Rattle.law_turn.specs.Spans.{Span}
use Rattle.law_model.specs.Medium.{at_tap, part_after, sensed, begins_in}
use Rattle.law_model.specs.Trace.{Entry}
use Rattle.pb_medium.specs.Entries.{entry_of}
use Rattle.pb_medium.proofs.Sensing.{filter_map-map}
use Rattle.pb_medium.proofs.senses.begin_between.Goals as goal
use borrow.Author.Tests.{tests}

pub returns : goal.returns
returns c =
    let spans = sensed c.args.delay c.args.tap c.args.since (map entry_of c.args.entries.now) in
    let part = λ (e : Entry). option_and_then (part_after c.args.since) (at_tap c.args.delay c.args.tap e) in
    let test = begins_in spans c.args.from c.args.to in
    let found = sym (option_map_id c.find.result)
    ∙ find_from_yields_List test _ _ c.find.result c.find.ensures.ran
    (YieldsList-from_filter_map _ (λ e. part (entry_of e)) (YieldsList-from_slice c.args.entries.now cc) c.filter_map.ensures.closure (λ x r q k. search (rules, tests)))
    (λ x b q k. search (rules, tests))
    ∙ ap (find test) (sym (filter_map-map part entry_of c.args.entries.now)) in
    ap (λ n. Some n) c.begin.ensures ∙ ap (option_map (λ (span : Span). span.begin)) (sym c.in_ok-first.was ∙ found)

pub returns-in_err-first : goal.returns-in_err-first
returns-in_err-first c =
    let spans = sensed c.args.delay c.args.tap c.args.since (map entry_of c.args.entries.now) in
    let part = λ (e : Entry). option_and_then (part_after c.args.since) (at_tap c.args.delay c.args.tap e) in
    let test = begins_in spans c.args.from c.args.to in
    let found = sym (option_map_id c.find.result)
    ∙ find_from_yields_List test _ _ c.find.result c.find.ensures.ran
    (YieldsList-from_filter_map _ (λ e. part (entry_of e)) (YieldsList-from_slice c.args.entries.now cc) c.filter_map.ensures.closure (λ x r q k. search (rules, tests)))
    (λ x b q k. search (rules, tests))
    ∙ ap (find test) (sym (filter_map-map part entry_of c.args.entries.now)) in
    c.from_residual.ensures ∙ ap (option_map (λ (span : Span). span.begin)) (sym c.in_err-first.was ∙ found)
