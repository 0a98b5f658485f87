use Rattle.std.proofs.Common.{map}
use Rattle.std.specs.Prelude.{take}
use Rattle.pb_world.specs.Worlds.{lent_event}
use Rattle.law_model.specs.Laws.{AreEvents}
use Rattle.law_model.specs.Step.{RunsTo}
use Rattle.pb_world.proofs.worlds.run_shared.Given as goal

abbrev pub invariant-loop-place : goal.invariant-loop-place
invariant-loop-place l = let passed = take l.place (map lent_event l.events) in RunsTo l.initial.world passed l.world × AreEvents passed
