use Rattle.pb_ring.proofs.WordLemmas.{listed-without_removed}
use Rattle.pb_ring.proofs.addresses.Addresses.without_removed.Goals as goal

pub returns : goal.returns
returns c =
    rw (← c.self.view_is)
    (listed-without_removed c.args.own c.args.sa c.args.da c.self.inside.bits c.set_removed.result c.set_removed.ensures.fits c.set_removed.ensures.value)
