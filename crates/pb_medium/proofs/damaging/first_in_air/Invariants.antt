use Rattle.std.proofs.Common.{map}
use Rattle.law_model.specs.World.{is_in_air_by}
use Rattle.pb_medium.specs.Entries.{entry_of}
use Rattle.pb_medium.proofs.Hitting.{PassesNone}
use Rattle.pb_medium.proofs.damaging.first_in_air.Given as goal

abbrev pub invariant-loop-place : goal.invariant-loop-place
invariant-loop-place l = PassesNone (is_in_air_by l.delay l.now l.speaker) (map entry_of l.entries) l.place
