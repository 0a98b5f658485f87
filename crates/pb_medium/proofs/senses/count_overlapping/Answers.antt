use Rattle.std.proofs.Common.{rules, ◌∙◌, sym, ap}
use Rattle.std.specs.Prelude.{count_by}
use Rattle.std.proofs.lemmas.Iterator.{YieldsList-from_slice}
use Rattle.std.proofs.lemmas.Iterator.Consumers.{YieldsList-at, YieldsList-from_filter, YieldsList-from_filter_map, count_from_yields_List}
use Rattle.std.proofs.lemmas.List.Sums.{length-filter}
use Rattle.std.specs.Option.{option_and_then}
use Rattle.law_model.specs.Medium.{at_tap, part_after, overlaps}
use Rattle.law_model.specs.Trace.{Entry}
use Rattle.pb_medium.specs.Entries.{entry_of}
use Rattle.pb_medium.proofs.Sensing.{filter_map-map}
use Rattle.pb_medium.proofs.senses.count_overlapping.Goals as goal
use borrow.Author.Tests.{tests}

pub returns : goal.returns
returns c =
    let part = λ (e : Entry). option_and_then (part_after c.args.since) (at_tap c.args.delay c.args.tap e) in
    let test = overlaps c.args.span in
    count_from_yields_List c.filter.result _ c.count.ensures.ran
    (YieldsList-from_filter _ test (YieldsList-at c.filter.ensures.source
    (YieldsList-from_filter_map _ (λ e. part (entry_of e)) (YieldsList-from_slice c.args.entries.now cc) c.filter_map.ensures.closure (λ x r q k. search (rules, tests))))
    c.filter.ensures.closure (λ x b q k. search (rules, tests)))
    ∙ length-filter test _
    ∙ ap (count_by test) (sym (filter_map-map part entry_of c.args.entries.now))
