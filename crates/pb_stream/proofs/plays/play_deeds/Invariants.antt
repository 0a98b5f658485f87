-- What the deeds so far say has happened.
use Rattle.std.proofs.Common.{◌≡◌, ℕ, List, map, take}
use Rattle.law_model.specs.Trace.{Entry}
use Rattle.law_runs.specs.Premises.{Course}
use Rattle.pb_scenario.specs.Said.{said_of}
use Rattle.pb_scenario.specs.Steps.{deed_of}
use Rattle.pb_stream.specs.Plays.{HappenedAt}
use Rattle.pb_stream.specs.Stages.{GoesFrom, taps_of}
use Rattle.pb_stream.proofs.plays.play_deeds.Given as goal

abbrev pub invariant-loop-deed : goal.invariant-loop-deed
invariant-loop-deed g l = record {
  played : (now : ℕ) (old : List Entry) (c : Course) → GoesFrom (g.S.Stage.view l.initial.stage) old c
      → HappenedAt now old c (said_of l.when (map (λ d. deed_of d.now) (take l.deed-index l.deeds))) (g.S.Stage.view l.stage);
  ready : (g.S.Stage.view l.stage).ready;
  taps : taps_of (g.S.Stage.view l.stage) ≡ taps_of (g.S.Stage.view l.initial.stage);
}
