use Rattle.pb_monitor.proofs.Characters.{AreFirst}
use Rattle.pb_monitor.proofs.lines.octets_in.Given as goal

abbrev pub invariant-loop-place : goal.invariant-loop-place
invariant-loop-place l = AreFirst l.hex l.room l.place
