use Rattle.std.proofs.Common.{◌∙◌, ap}
use Rattle.pb_ring.specs.AddressSets.{without_address}
use Rattle.pb_ring.proofs.WordLemmas.{listed-clear}
use Rattle.pb_ring.proofs.addresses.Addresses.remove.Goals as goal

pub returns : goal.returns
returns c = listed-clear c.self.inside.bits c.args.address c.requires ∙ ap (without_address c.args.address) c.self.view_is
