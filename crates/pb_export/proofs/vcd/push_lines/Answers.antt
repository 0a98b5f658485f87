use Rattle.std.proofs.Common.{refl}
use Rattle.pb_export.specs.Vcd.{line_variable, line_variables}
use Rattle.pb_export.proofs.Loops.{item-step}
use Rattle.pb_export.proofs.vcd.push_lines.Goals as goal

pub loop-tap-preserved : goal.loop-tap-preserved
loop-tap-preserved c =
    item-step line_variables line_variable c.args.scenario.now.names c.loop-tap.tap c.name.result.now c.loop-tap.text.items c.push_line.new.text.items _
    (λ k y ys. refl) c.name.ensures c.in_ok-push_line.ensures c.loop-tap.invariant
