-- One more tap after another.
use Rattle.std.proofs.Common.{◌∙◌, arith, map}
use Rattle.pb_medium.specs.Entries.{entry_of, record_of}
use Rattle.pb_taps.specs.Taps.{tap_of}
use Rattle.pb_medium.proofs.Settled.{settles-length, settles-more, settles-all}
use Rattle.pb_medium.proofs.settling.heard_in_the_end.Goals as goal

pub settle_at-requires : goal.settle_at-requires
settle_at-requires c =
    omega (arith, c.loop-position-test.true, c.len-position-end.ensures, settles-length c.args.delay (map entry_of c.args.entries.now) (record_of c.args.telegram.now) (map tap_of c.args.taps.now) c.args.telegram.now.heard c.loop-position.heard c.loop-position.position c.loop-position.invariant)

pub loop-position-preserved : goal.loop-position-preserved
loop-position-preserved c =
    c.settle_at.ensures
    ∙ settles-more c.args.delay (map entry_of c.args.entries.now) (record_of c.args.telegram.now) (map tap_of c.args.taps.now) c.args.telegram.now.heard c.loop-position.heard c.loop-position.position c.loop-position.invariant
    (omega (arith, c.loop-position-test.true, c.len-position-end.ensures))

pub returns : goal.returns
returns c =
    settles-all c.args.delay (map entry_of c.args.entries.now) (record_of c.args.telegram.now) (map tap_of c.args.taps.now) c.args.telegram.now.heard c.loop-position.heard c.loop-position.position c.loop-position.invariant
    (omega (arith, c.loop-position-test.false, c.len-position-end.ensures))
