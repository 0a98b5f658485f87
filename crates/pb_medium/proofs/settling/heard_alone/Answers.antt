-- One more tap after another.
use Rattle.std.proofs.Common.{◌∙◌, arith, map, ◌∷◌, []}
use Rattle.law_model.specs.Trace.{Sent}
use Rattle.pb_medium.specs.Entries.{record_of}
use Rattle.pb_taps.specs.Taps.{tap_of}
use Rattle.pb_medium.proofs.Settled.{settles-length, settles-more, settles-all}
use Rattle.pb_medium.proofs.settling.heard_alone.Goals as goal

pub settle_alone_at-requires-clause-there : goal.settle_alone_at-requires-clause-there
settle_alone_at-requires-clause-there c =
    omega (arith, c.loop-position-test.true, c.len-position-end.ensures, settles-length c.args.delay (Sent (record_of c.args.telegram.now) ∷ []) (record_of c.args.telegram.now) (map tap_of c.args.taps.now) c.args.telegram.now.heard c.loop-position.heard c.loop-position.position c.loop-position.invariant)

pub loop-position-preserved : goal.loop-position-preserved
loop-position-preserved c =
    c.settle_alone_at.ensures
    ∙ settles-more c.args.delay (Sent (record_of c.args.telegram.now) ∷ []) (record_of c.args.telegram.now) (map tap_of c.args.taps.now) c.args.telegram.now.heard c.loop-position.heard c.loop-position.position c.loop-position.invariant
    (omega (arith, c.loop-position-test.true, c.len-position-end.ensures))

pub returns : goal.returns
returns c =
    settles-all c.args.delay (Sent (record_of c.args.telegram.now) ∷ []) (record_of c.args.telegram.now) (map tap_of c.args.taps.now) c.args.telegram.now.heard c.loop-position.heard c.loop-position.position c.loop-position.invariant
    (omega (arith, c.loop-position-test.false, c.len-position-end.ensures))
