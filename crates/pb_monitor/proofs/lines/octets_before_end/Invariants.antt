use Rattle.pb_monitor.proofs.Characters.{AreFirst}
use Rattle.pb_monitor.proofs.lines.octets_before_end.Given as goal

abbrev pub invariant-loop-place : goal.invariant-loop-place
invariant-loop-place l = AreFirst l.bytes l.room l.place
