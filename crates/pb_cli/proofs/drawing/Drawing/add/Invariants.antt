-- What holds of those that came before holds of the first of these too.
use Rattle.std.proofs.Common.{List, ◌++◌, take}
use Rattle.pb_monitor.specs.declared.heard_bursts.HeardBurst.{HeardBurst}
use Rattle.pb_cli.specs.Drawing.{IsOf}
use Rattle.pb_cli.proofs.drawing.Drawing.add.Given as goal

abbrev pub invariant-loop-burst : goal.invariant-loop-burst
invariant-loop-burst l = (before : List HeardBurst) → IsOf l.fn.self before → IsOf l.self (before ++ take l.burst-index l.bursts)
