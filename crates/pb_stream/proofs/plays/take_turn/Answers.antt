-- The event that is set is the turn.
use Rattle.std.proofs.Common.{◌∷◌, [], subst}
use Rattle.pb_stream.specs.Plays.{Plays}
use Rattle.pb_stream.proofs.plays.take_turn.Goals as goal

pub returns-clause-plays : goal.returns-clause-plays
returns-clause-plays g c =
    subst (λ e. Plays (g.S.Stage.view c.args.stage.now) (e ∷ []) c.apply.result (g.S.Stage.view c.apply.new.self)) c.set_turn.ensures c.apply.ensures.plays
