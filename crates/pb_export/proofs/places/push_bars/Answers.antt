use Rattle.std.proofs.Common.{◌+◌, refl}
use Rattle.pb_export.specs.Places.{bar, bars_from}
use Rattle.pb_export.proofs.Loops.{count-step}
use Rattle.pb_export.proofs.places.push_bars.Goals as goal

pub loop-strip-preserved : goal.loop-strip-preserved
loop-strip-preserved c =
    let sheet = c.args.sheet in
    count-step (bars_from sheet c.args.bar c.args.stretch) (bar sheet c.args.bar c.args.stretch) c.loop-strip.strip (c.strip-rows.result + 1)
    c.loop-strip.text.items c.push_bar.new.text.items _ (λ k n. refl) c.loop-strip-test.true c.in_ok-push_bar.ensures c.loop-strip.invariant
