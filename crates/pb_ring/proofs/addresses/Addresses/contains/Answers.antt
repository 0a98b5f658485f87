use Rattle.std.proofs.Common.{◌∙◌, ap, sym, List, ℕ}
use Rattle.pb_ring.specs.AddressSets.{is_member}
use Rattle.pb_ring.proofs.WordLemmas.{is_member-bits}
use Rattle.pb_ring.proofs.addresses.Addresses.contains.Goals as goal

pub returns : goal.returns
returns c = c.is_set.ensures ∙ sym (is_member-bits c.self.inside.bits c.args.address c.requires) ∙ ap (λ (xs : List ℕ). is_member xs c.args.address) c.self.view_is
