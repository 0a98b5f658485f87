-- One deed more has happened, or stops all.
use Rattle.std.proofs.Common.{◌≤◌, ◌∙◌, arith, length, map, refl, subst}
use Rattle.std.proofs.lemmas.List.{take_all}
use Rattle.pb_scenario.specs.Said.{said_of}
use Rattle.pb_stream.specs.Plays.{HappenedAt}
use Rattle.pb_scenario.specs.Steps.{deed_of}
use Rattle.pb_scenario.proofs.Moving.{in-err}
use Rattle.pb_stream.proofs.Playing.{deed-played, deed-refused, none-happened}
use Rattle.pb_stream.proofs.plays.play_deeds.Goals as goal

pub loop-deed-init : goal.loop-deed-init
loop-deed-init g c = record { played = λ now old course from. none-happened now old course (g.S.Stage.view c.args.stage.now) from; ready = c.requires; taps = refl }

pub loop-deed-preserved : goal.loop-deed-preserved
loop-deed-preserved g c = record {
  played = λ now old course from. deed-played (λ d. deed_of d.now) c.args.when c.loop-deed.deed-index c.args.deeds.now c.deed-item.result c.loop-deed-test.true c.deed-item.is
      now old course (g.S.Stage.view c.loop-deed.stage) (g.S.Stage.view c.play_deed.new.stage) (c.loop-deed.invariant.played now old course from) c.in_ok-play_deed.ensures.plays;
  ready = c.in_ok-play_deed.ensures.ready;
  taps = c.in_ok-play_deed.ensures.taps ∙ c.loop-deed.invariant.taps;
}

pub returns-in_err-play_deed-clause-plays : goal.returns-in_err-play_deed-clause-plays
returns-in_err-play_deed-clause-plays g c =
    λ now old course from. in-err _ _ c.from_residual.result c.in_err-play_deed.field-0.0 c.from_residual.ensures.0 c.from_residual.ensures.1
    (deed-refused (λ d. deed_of d.now) c.args.when c.loop-deed.deed-index c.args.deeds.now c.deed-item.result c.loop-deed-test.true c.deed-item.is
    now old course (g.S.Stage.view c.loop-deed.stage) (g.S.Stage.view c.play_deed.new.stage) c.in_err-play_deed.field-0.0 (c.loop-deed.invariant.played now old course from) c.in_err-play_deed.ensures.plays)

pub returns-clause-plays : goal.returns-clause-plays
returns-clause-plays g c =
    let deeds = c.args.deeds.now in
    let past : length deeds ≤ c.loop-deed.deed-index = omega (arith, c.loop-deed-test.false) in
    λ now old course from. subst (λ ds. HappenedAt now old course (said_of c.args.when (map (λ d. deed_of d.now) ds)) (g.S.Stage.view c.loop-deed.stage))
    (take_all c.loop-deed.deed-index deeds past) (c.loop-deed.invariant.played now old course from)
