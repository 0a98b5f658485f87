use Rattle.std.proofs.Common.{rules, ◌+◌, ◌∙◌, sym, ap, map}
use Rattle.std.specs.Prelude.{nat_le, min, filter}
use Rattle.std.specs.List.{reduce}
use Rattle.std.specs.Option.{option_map}
use Rattle.std.proofs.lemmas.Iterator.{YieldsList-from_slice, YieldsList-from_map}
use Rattle.std.proofs.lemmas.Iterator.Adapters.{option_map_id}
use Rattle.std.proofs.lemmas.Iterator.Consumers.{YieldsList-at, YieldsList-from_filter, min_from_yields_List}
use Rattle.std.proofs.lemmas.Simd.{map-map}
use Rattle.law_model.specs.Medium.{reaches_taps}
use Rattle.pb_medium.specs.Entries.{entry_of}
use Rattle.pb_medium.proofs.Sensing.{least-later-begin}
use Rattle.pb_medium.proofs.changing.next_begin.Goals as goal
use borrow.Author.Tests.{tests}

pub returns : goal.returns
returns c =
    let delay = c.args.delay in
    let now = c.args.now in
    let entries = c.args.entries.now in
    ap (option_map (λ n. n + 1)) (
    sym (option_map_id c.min.result)
    ∙ min_from_yields_List _ _ c.min.ensures.ran
    (YieldsList-from_filter _ (λ m. nat_le now m) (YieldsList-at c.filter.ensures.source
    (YieldsList-from_map _ (λ e. (reaches_taps delay (entry_of e)).begin) (YieldsList-from_slice entries cc) c.map.ensures.closure (λ x r q k. search rules)))
    c.filter.ensures.closure (λ x b q k. search (rules, tests)))
    ∙ ap (λ begins. reduce min (filter (λ m. nat_le now m) begins)) (sym (map-map (λ e. (reaches_taps delay e).begin) entry_of entries))
    )
    ∙ least-later-begin delay now (map entry_of entries)
