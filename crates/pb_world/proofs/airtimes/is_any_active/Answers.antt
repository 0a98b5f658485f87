use Rattle.std.proofs.Common.{rules, ◌∙◌, sym}
use Rattle.std.proofs.lemmas.Iterator.{YieldsList-from_slice}
use Rattle.std.proofs.lemmas.Iterator.Search.{any_from_yields_List}
use Rattle.law_model.specs.Trace.{Entry}
use Rattle.law_runs.specs.Activity.{active_at, is_within}
use Rattle.pb_medium.proofs.Sensing.{list_any-map}
use Rattle.pb_world.specs.Airtimes.{air_of}
use Rattle.pb_world.proofs.airtimes.is_any_active.Goals as goal
use borrow.Author.Tests.{tests}

pub returns : goal.returns
returns c =
    let test = λ (e : Entry). is_within c.args.from c.args.to (active_at c.args.delay c.args.tap e) in
    any_from_yields_List (λ e. test (air_of e)) _ _ _ c.any.ensures.ran (YieldsList-from_slice c.args.airtimes.now cc) (λ x b q k. search (rules, tests))
    ∙ sym (list_any-map test air_of c.args.airtimes.now)
