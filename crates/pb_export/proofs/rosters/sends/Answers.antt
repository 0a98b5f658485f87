use Rattle.std.proofs.Common.{rules, ◌∙◌, sym}
use Rattle.std.proofs.lemmas.Iterator.{YieldsList-from_slice}
use Rattle.std.proofs.lemmas.Iterator.Search.{any_from_yields_List}
use Rattle.pb_medium.specs.Entries.{entry_of}
use Rattle.pb_medium.proofs.Sensing.{list_any-map}
use Rattle.pb_export.specs.Rosters.{is_from}
use borrow.Author.Tests.{tests}
use Rattle.pb_export.proofs.rosters.sends.Goals as goal

pub returns : goal.returns
returns c =
    let test = is_from c.args.tap in
    any_from_yields_List (λ e. test (entry_of e)) _ _ _ c.any.ensures.ran (YieldsList-from_slice c.args.entries.now cc) (λ x b q k. search (rules, tests))
    ∙ sym (list_any-map test entry_of c.args.entries.now)
