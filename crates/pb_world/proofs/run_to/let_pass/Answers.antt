use Rattle.law_model.specs.World.{Pass}
use Rattle.pb_world.proofs.Alone.{plays-one}
use Rattle.pb_world.proofs.run_to.let_pass.Goals as goal

pub returns : goal.returns
returns c =
    plays-one c.args.now c.args.watched.now c.pass.new.watched (Pass c.args.bits) c.pass.result c.pass.ensures.followed c.pass.ensures.applies
