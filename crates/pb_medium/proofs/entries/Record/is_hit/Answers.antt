use Rattle.std.proofs.Common.{rules, ◌∙◌, sym}
use Rattle.std.proofs.lemmas.Iterator.{YieldsList-from_slice}
use Rattle.std.proofs.lemmas.Iterator.Search.{any_from_yields_List}
use Rattle.law_model.specs.Trace.{hits_place}
use Rattle.pb_medium.specs.Entries.{hit_of}
use Rattle.pb_medium.proofs.Sensing.{list_any-map}
use Rattle.pb_medium.proofs.entries.Record.is_hit.Goals as goal
use borrow.Author.Tests.{tests}

pub returns : goal.returns
returns c =
    let hits = hits_place c.args.tap c.args.place in
    any_from_yields_List (λ h. hits (hit_of h)) _ _ _ c.any.ensures.ran (YieldsList-from_slice c.args.self.now.hits.items cc) (λ x b q k. search (rules, tests))
    ∙ sym (list_any-map hits hit_of c.args.self.now.hits.items)
