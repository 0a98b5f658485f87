use Rattle.law_model.specs.World.{Turn}
use Rattle.pb_world.proofs.Alone.{plays-one}
use Rattle.pb_world.proofs.run_to.take_turn.Goals as goal

pub returns : goal.returns
returns c =
    plays-one c.args.now c.args.watched.now c.turn.new.watched (Turn c.args.tap) c.turn.result c.turn.ensures.followed c.turn.ensures.applies
