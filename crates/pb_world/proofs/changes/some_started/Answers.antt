use Rattle.std.proofs.Common.{rules, ◌∙◌, sym}
use Rattle.std.proofs.lemmas.Iterator.{YieldsList-from_slice}
use Rattle.std.proofs.lemmas.Iterator.Search.{any_from_yields_List}
use Rattle.law_runs.specs.Bus.{started_now}
use Rattle.pb_taps.specs.Taps.{tap_of}
use Rattle.pb_medium.proofs.Sensing.{list_any-map}
use Rattle.pb_world.proofs.changes.some_started.Goals as goal
use borrow.Author.Tests.{tests}

pub returns : goal.returns
returns c =
    let test = started_now c.args.now in
    any_from_yields_List (λ t. test (tap_of t)) _ _ _ c.any.ensures.ran (YieldsList-from_slice c.args.taps.now cc) (λ x b q k. search (rules, tests))
    ∙ sym (list_any-map test tap_of c.args.taps.now)
