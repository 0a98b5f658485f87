-- The event that is set is the passing of time.
use Rattle.std.proofs.Common.{◌∷◌, [], subst}
use Rattle.pb_stream.specs.Plays.{Plays}
use Rattle.pb_stream.proofs.plays.let_pass.Goals as goal

pub returns-clause-plays : goal.returns-clause-plays
returns-clause-plays g c =
    subst (λ e. Plays (g.S.Stage.view c.args.stage.now) (e ∷ []) c.apply.result (g.S.Stage.view c.apply.new.self)) c.set_pass.ensures c.apply.ensures.plays
