use Rattle.std.proofs.Common.{refl, arith}
use Rattle.pb_taps.proofs.Items.{found-at}
use Rattle.pb_export.specs.Captures.{burst_of, bursts_of}
use Rattle.pb_export.proofs.Loops.{item-step, item-end}
use Rattle.pb_export.proofs.captures.push_bursts.Goals as goal

pub loop-burst-preserved : goal.loop-burst-preserved
loop-burst-preserved c =
    let xs = c.args.bursts.now in
    let i = c.loop-burst.burst-index in
    let x = c.burst-item.result in
    let here = found-at xs i x (omega (arith, c.loop-burst-test.true)) c.burst-item.is in
    item-step (λ k ys. bursts_of c.args.export.now ys) (λ k y. burst_of c.args.export.now y) xs i x c.loop-burst.bytes.items c.push_burst.new.bytes.items _
    (λ k y ys. refl) here c.in_ok-push_burst.ensures c.loop-burst.invariant

pub returns : goal.returns
returns c =
    item-end (λ k ys. bursts_of c.args.export.now ys) c.args.bursts.now c.loop-burst.burst-index c.loop-burst.bytes.items _
    (λ k. refl) (omega (arith, c.loop-burst-test.false)) c.loop-burst.invariant
