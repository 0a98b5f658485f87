use Rattle.std.proofs.Common.{refl, false}
use Rattle.pb_cycles.proofs.MaskLemmas.{counts_in-put}
use Rattle.pb_cycles.proofs.counts.FrameCounts.put_first.Goals as goal

pub returns : goal.returns
returns c =
    counts_in-put c.self.inside.counting c.self.inside.set c.without_bit-self-inside.result c.self.inside.set c.args.address false _ _ c.requires c.self.view_is
    c.without_bit-self-inside.ensures.clear refl c.without_bit-self-inside.ensures.others (λ i low apart. refl)
