use Rattle.std.proofs.Common.{rules}
use Rattle.pb_world.proofs.Showing.{fits}
use Rattle.pb_world.proofs.buses.Bus.fits.Goals as goal

pub returns : goal.returns
returns c = search (rules, fits c.args.self.now c.args.decision.now c.requires, c.deref.ensures.value)
