use Rattle.std.proofs.Common.{◌++◌, refl, arith}
use Rattle.std.specs.Prelude.{codes, decimal}
use Rattle.pb_export.specs.Vcd.{idle_lines}
use Rattle.pb_export.proofs.Loops.{count-step}
use Rattle.pb_export.proofs.vcd.push_idle_lines.Goals as goal

pub loop-tap-preserved : goal.loop-tap-preserved
loop-tap-preserved c =
    count-step idle_lines (λ k. codes "1t" ++ decimal k ++ codes "\n") c.loop-tap.tap c.args.taps c.loop-tap.text.items c.push_pieces.new.text.items _
    (λ k n. refl) (omega (arith, c.loop-tap-test.true)) c.in_ok-push_pieces.ensures c.loop-tap.invariant
