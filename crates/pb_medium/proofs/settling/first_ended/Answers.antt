use Rattle.std.proofs.Common.{rules, ◌∙◌, sym, ap, map, length, nat_lt}
use Rattle.std.specs.Prelude.{unwrap_or}
use Rattle.std.specs.List.{position}
use Rattle.std.proofs.lemmas.Iterator.{YieldsList-from_slice}
use Rattle.std.proofs.lemmas.Iterator.Search.{position_from_yields_List}
use Rattle.std.proofs.lemmas.List.{length-map}
use Rattle.law_model.specs.Medium.{reaches_taps}
use Rattle.law_model.specs.Trace.{Entry}
use Rattle.pb_medium.specs.Entries.{entry_of}
use Rattle.pb_medium.proofs.Closing.{found-place}
use Rattle.pb_medium.proofs.Hitting.{position-map}
use Rattle.pb_medium.proofs.settling.first_ended.Goals as goal
use borrow.Author.Tests.{tests}

pub returns-clause-count : goal.returns-clause-count
returns-clause-count c =
    let entries = c.args.entries.now in
    let test = λ (e : Entry). nat_lt c.args.now (reaches_taps c.args.delay e).end in
    c.unwrap_or.ensures
    ∙ ap (λ o. unwrap_or o (length entries))
    (position_from_yields_List (λ e. test (entry_of e)) _ _ _ c.position.ensures.ran (YieldsList-from_slice entries cc) (λ x b q k. search (rules, tests))
    ∙ sym (position-map test entry_of entries))
    ∙ ap (λ n. unwrap_or (position test (map entry_of entries)) n) (sym (length-map entries entry_of))
    ∙ found-place test (map entry_of entries)
