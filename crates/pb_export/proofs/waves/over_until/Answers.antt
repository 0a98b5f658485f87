use Rattle.std.proofs.Common.{◌≤◌, subst, arith, map}
use Rattle.pb_medium.specs.Entries.{entry_of}
use Rattle.pb_taps.proofs.Items.{item-at}
use Rattle.pb_export.proofs.Waving.{over-more}
use Rattle.pb_export.proofs.waves.over_until.Goals as goal

pub loop-place-preserved : goal.loop-place-preserved
loop-place-preserved c =
    let entries = c.args.entries.now in
    let i = c.loop-place.place in
    let e = c.index-entries-place.result in
    let here = item-at entry_of entries i e (omega (arith, c.loop-place-test.true, c.requires.next)) c.index-entries-place.is in
    over-more c.args.now i (map entry_of entries) (entry_of e) here (subst (λ n. n ≤ c.args.now) c.end.ensures c.if-now-end.false) c.loop-place.invariant
