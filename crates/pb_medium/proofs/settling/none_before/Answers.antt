use Rattle.std.proofs.Common.{rules, ◌∙◌, sym, nat_le}
use Rattle.std.proofs.lemmas.Iterator.{YieldsList-from_slice}
use Rattle.std.proofs.lemmas.Iterator.Search.{all_from_yields_List}
use Rattle.std.proofs.lemmas.List.Folds.{list_all-map}
use Rattle.law_model.specs.Medium.{reaches_taps}
use Rattle.law_model.specs.Trace.{Entry}
use Rattle.pb_medium.specs.Entries.{entry_of}
use Rattle.pb_medium.proofs.settling.none_before.Goals as goal
use borrow.Author.Tests.{tests}

pub returns : goal.returns
returns c =
    let test = λ (e : Entry). nat_le c.args.moment (reaches_taps c.args.delay e).begin in
    all_from_yields_List (λ e. test (entry_of e)) _ _ _ c.all.ensures.ran (YieldsList-from_slice c.args.entries.now cc) (λ x b q k. search (rules, tests))
    ∙ sym (list_all-map test entry_of c.args.entries.now)
