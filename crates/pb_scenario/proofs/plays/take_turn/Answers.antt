-- The event that is set is the turn.
use Rattle.std.proofs.Common.{◌∷◌, [], subst}
use Rattle.pb_scenario.specs.Plays.{Plays}
use Rattle.pb_scenario.proofs.plays.take_turn.Goals as goal

pub returns : goal.returns
returns g c =
    subst (λ e. Plays c.args.now (g.S.Stage.view c.args.stage.now) (e ∷ []) c.happens.result (g.S.Stage.view c.happens.new.stage)) c.set_turn.ensures c.happens.ensures
