use Rattle.std.proofs.Common.{◌<◌, subst, arith, map}
use Rattle.pb_medium.specs.Entries.{entry_of}
use Rattle.pb_taps.proofs.Items.{item-at}
use Rattle.pb_export.proofs.Waving.{come-at}
use Rattle.pb_export.proofs.waves.begun_until.Goals as goal

pub returns-then-now-begin-clause-to_come : goal.returns-then-now-begin-clause-to_come
returns-then-now-begin-clause-to_come c =
    let entries = c.args.entries.now in
    let i = c.loop-place.place in
    let e = c.index-entries-place.result in
    let here = item-at entry_of entries i e (omega (arith, c.loop-place-test.true)) c.index-entries-place.is in
    come-at c.args.now i (map entry_of entries) (entry_of e) (c.requires.order c.if-batch.true) here (subst (λ n. c.args.now < n) c.begin.ensures c.if-now-begin.true)
