use Rattle.std.proofs.Common.{◌∙◌}
use Rattle.pb_ring.specs.AddressSets.{is_between}
use Rattle.pb_ring.proofs.SetLemmas.{filter-upto}
use Rattle.pb_ring.proofs.gaps.Gap.range.Goals as goal

pub returns : goal.returns
returns c = c.between.ensures ∙ filter-upto (λ x. is_between c.args.ts c.args.ns x) c.args.hsa c.requires
