use Rattle.std.proofs.Common.{true, false}
use Rattle.pb_cycles.proofs.MaskLemmas.{counts_in-put}
use Rattle.pb_cycles.proofs.counts.FrameCounts.put_clear.Goals as goal

pub returns : goal.returns
returns c =
    counts_in-put c.self.inside.counting c.self.inside.set c.with_bit-self-inside.result c.without_bit-self-inside.result c.args.address true false _ c.requires c.self.view_is
    c.with_bit-self-inside.ensures.set c.without_bit-self-inside.ensures.clear c.with_bit-self-inside.ensures.others c.without_bit-self-inside.ensures.others
