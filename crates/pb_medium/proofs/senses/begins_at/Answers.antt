use Rattle.std.proofs.Common.{rules, ◌∙◌, sym, ap}
use Rattle.std.proofs.lemmas.Iterator.{YieldsList-from_slice}
use Rattle.std.proofs.lemmas.Iterator.Consumers.{YieldsList-from_filter_map}
use Rattle.std.proofs.lemmas.Iterator.Search.{any_from_yields_List}
use Rattle.std.specs.List.{list_any}
use Rattle.std.specs.Option.{option_and_then}
use Rattle.law_model.specs.Medium.{at_tap, part_after, begins_at}
use Rattle.law_model.specs.Trace.{Entry}
use Rattle.pb_medium.specs.Entries.{entry_of}
use Rattle.pb_medium.proofs.Sensing.{filter_map-map}
use Rattle.pb_medium.proofs.senses.begins_at.Goals as goal
use borrow.Author.Tests.{tests}

pub returns : goal.returns
returns c =
    let part = λ (e : Entry). option_and_then (part_after c.args.since) (at_tap c.args.delay c.args.tap e) in
    any_from_yields_List (begins_at c.args.moment) _ _ _ c.any.ensures.ran
    (YieldsList-from_filter_map _ (λ e. part (entry_of e)) (YieldsList-from_slice c.args.entries.now cc) c.filter_map.ensures.closure (λ x r q k. search (rules, tests)))
    (λ x b q k. search (rules, tests))
    ∙ ap (list_any (begins_at c.args.moment)) (sym (filter_map-map part entry_of c.args.entries.now))
