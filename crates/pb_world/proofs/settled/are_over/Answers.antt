use Rattle.std.proofs.Common.{rules, ◌∙◌, sym}
use Rattle.std.proofs.lemmas.Iterator.{YieldsList-from_slice}
use Rattle.std.proofs.lemmas.Iterator.Search.{all_from_yields_List}
use Rattle.std.proofs.lemmas.List.Folds.{list_all-map}
use Rattle.law_rings.specs.Settled.{is_over}
use Rattle.pb_medium.specs.Entries.{entry_of}
use Rattle.pb_world.proofs.settled.are_over.Goals as goal
use borrow.Author.Tests.{tests}

pub returns : goal.returns
returns c =
    let test = is_over c.args.delay c.args.now in
    all_from_yields_List (λ e. test (entry_of e)) _ _ _ c.all.ensures.ran (YieldsList-from_slice c.args.entries.now cc) (λ x b q k. search (rules, tests))
    ∙ sym (list_all-map test entry_of c.args.entries.now)
