use Rattle.std.proofs.Common.{map, sym, ◌∙◌}
use Rattle.pb_medium.specs.Entries.{entry_of}
use Rattle.pb_medium.proofs.Entering.{passed}
use Rattle.pb_taps.proofs.Items.{left-at}
use Rattle.pb_medium.proofs.placing.place_among.Goals as goal

pub returns-then-goes_before-clause-place : goal.returns-then-goes_before-clause-place
returns-then-goes_before-clause-place c =
    sym (passed (entry_of c.args.entry.now) (entry_of c.index-others-place.result) (map entry_of c.args.others.now) c.loop-place.place c.loop-place.invariant
    (left-at entry_of c.args.others.now c.loop-place.place c.index-others-place.result c.loop-place-test.true c.index-others-place.is)
    _ (sym c.goes_before.ensures ∙ c.if-goes_before.true))

pub loop-place-preserved : goal.loop-place-preserved
loop-place-preserved c =
    passed (entry_of c.args.entry.now) (entry_of c.index-others-place.result) (map entry_of c.args.others.now) c.loop-place.place c.loop-place.invariant
    (left-at entry_of c.args.others.now c.loop-place.place c.index-others-place.result c.loop-place-test.true c.index-others-place.is)
    _ (sym c.goes_before.ensures ∙ c.if-goes_before.false)
