use Rattle.std.proofs.Common.{rules, ◌≡◌, ◌∙◌, sym, refl, Bool, true, false, not}
use Rattle.std.proofs.lemmas.Iterator.{YieldsList-from_slice}
use Rattle.std.proofs.lemmas.Iterator.Search.{any_from_yields_List}
use Rattle.law_model.specs.Trace.{Entry}
use Rattle.law_runs.specs.Activity.{active_at, is_within}
use Rattle.pb_medium.specs.Entries.{entry_of}
use Rattle.pb_medium.proofs.Sensing.{list_any-map}
use borrow.Author.Tests.{tests}
use Rattle.pb_export.proofs.holders.is_active.Goals as goal

twice : (b : Bool) → b ≡ not (not b)
twice true = refl
twice false = refl

pub returns : goal.returns
returns c =
    let test = λ (e : Entry). is_within c.args.from c.args.to (active_at c.args.delay c.args.tap e) in
    any_from_yields_List (λ e. test (entry_of e)) _ _ _ c.any.ensures.ran (YieldsList-from_slice c.args.entries.now cc) (λ x b q k. search (rules, tests))
    ∙ sym (list_any-map test entry_of c.args.entries.now) ∙ twice _
