-- A tap that is due takes its turn.
use Rattle.std.proofs.Common.{◌∙◌, Ok, subst, sym}
use Rattle.pb_scenario.specs.Plays.{turn_if}
use Rattle.pb_stream.specs.Plays.{Plays}
use Rattle.pb_stream.proofs.plays.play_turn.Goals as goal

pub returns-then-takes_turn-clause-plays : goal.returns-then-takes_turn-clause-plays
returns-then-takes_turn-clause-plays g c =
    let v = g.S.Stage.view c.args.stage.now in
    subst (λ b. Plays {A = Unit {0}} v (turn_if b c.args.tap) (Ok (tt {0})) (g.S.Stage.view c.take_turn.new.stage)) (sym c.if-takes_turn.true ∙ c.takes_turn.ensures) c.in_ok-take_turn.ensures.plays
