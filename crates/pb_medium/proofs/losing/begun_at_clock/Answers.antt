use Rattle.std.proofs.Common.{rules, ◌∙◌, sym}
use Rattle.std.proofs.lemmas.Iterator.{YieldsList-from_slice}
use Rattle.std.proofs.lemmas.Iterator.Search.{position_from_yields_List}
use Rattle.law_model.specs.Trace.{begins_from}
use Rattle.pb_medium.specs.Entries.{entry_of}
use Rattle.pb_medium.proofs.Hitting.{position-map}
use Rattle.pb_medium.proofs.losing.begun_at_clock.Goals as goal
use borrow.Author.Tests.{tests}

pub returns : goal.returns
returns c =
    let test = begins_from c.args.now c.args.speaker in
    position_from_yields_List (λ e. test (entry_of e)) _ _ _ c.position.ensures.ran (YieldsList-from_slice c.args.entries.now cc) (λ x b q k. search (rules, tests))
    ∙ sym (position-map test entry_of c.args.entries.now)
