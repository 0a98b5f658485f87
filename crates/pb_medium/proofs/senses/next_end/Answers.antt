use Rattle.std.proofs.Common.{rules, ◌∙◌, sym, ap, map}
use Rattle.std.specs.Prelude.{min}
use Rattle.std.specs.List.{reduce}
use Rattle.std.proofs.lemmas.Iterator.{YieldsList-from_slice}
use Rattle.std.proofs.lemmas.Iterator.Adapters.{option_map_id}
use Rattle.std.proofs.lemmas.Iterator.Consumers.{YieldsList-from_filter_map, min_from_yields_List}
use Rattle.law_model.specs.World.{entry_next_end}
use Rattle.pb_medium.specs.Entries.{entry_of}
use Rattle.pb_medium.proofs.Sensing.{filter_map-map, least-end}
use Rattle.pb_medium.proofs.senses.next_end.Goals as goal
use borrow.Author.Tests.{tests}

pub returns : goal.returns
returns c =
    let next = entry_next_end c.args.delay c.args.now in
    let entries = c.args.entries.now in
    sym (option_map_id c.min.result)
    ∙ min_from_yields_List _ _ c.min.ensures.ran
    (YieldsList-from_filter_map _ (λ e. next (entry_of e)) (YieldsList-from_slice entries cc) c.filter_map.ensures.closure (λ x r q k. search (rules, tests)))
    ∙ ap (reduce min) (sym (filter_map-map next entry_of entries))
    ∙ least-end c.args.delay c.args.now (map entry_of entries)
