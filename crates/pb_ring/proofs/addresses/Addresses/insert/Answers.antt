use Rattle.std.proofs.Common.{◌∙◌, ap}
use Rattle.pb_ring.specs.AddressSets.{with_address}
use Rattle.pb_ring.proofs.WordLemmas.{listed-set, set-fits}
use Rattle.pb_ring.proofs.addresses.Addresses.insert.Goals as goal

pub invariant_of-self : goal.invariant_of-self
invariant_of-self c = set-fits c.self.inside.bits c.args.address c.requires c.self.invariant

pub returns : goal.returns
returns c = listed-set c.self.inside.bits c.args.address c.requires ∙ ap (with_address c.args.address) c.self.view_is
