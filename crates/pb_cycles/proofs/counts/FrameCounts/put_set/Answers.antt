use Rattle.std.proofs.Common.{true}
use Rattle.pb_cycles.proofs.MaskLemmas.{counts_in-put}
use Rattle.pb_cycles.proofs.counts.FrameCounts.put_set.Goals as goal

pub returns : goal.returns
returns c =
    counts_in-put c.self.inside.counting c.self.inside.set c.with_bit-self-inside.result c.with_bit-self-inside-2.result c.args.address true true _ c.requires c.self.view_is
    c.with_bit-self-inside.ensures.set c.with_bit-self-inside-2.ensures.set c.with_bit-self-inside.ensures.others c.with_bit-self-inside-2.ensures.others
