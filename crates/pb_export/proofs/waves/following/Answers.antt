use Rattle.std.proofs.Common.{◌-◌, arith, map}
use Rattle.pb_medium.specs.Entries.{entry_of}
use Rattle.pb_taps.proofs.Items.{item-at}
use Rattle.pb_export.proofs.Waving.{come-at}
use Rattle.pb_export.proofs.waves.following.Goals as goal

pub returns-in-Some-clause-to_come : goal.returns-in-Some-clause-to_come
returns-in-Some-clause-to_come c far =
    let es = c.args.entries.now in
    let next = c.args.place.next in
    let e = c.in-Some.entry.now in
    let found = c.in-Some.ensures.lookup in
    let here = item-at entry_of es next e found.3.0 found.1 in
    come-at (c.min.result - 1) next (map entry_of es) (entry_of e) (c.requires.order c.if-batch.true) here
    (omega (arith, far, c.min.ensures, c.max.ensures, c.begin.ensures))
