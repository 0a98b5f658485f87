use Rattle.pb_cycles.proofs.MaskLemmas.{counts_agree}
use Rattle.pb_cycles.proofs.counts.FrameCounts.is_same.Goals as goal

pub returns : goal.returns
returns c =
    counts_agree c.self.inside.counting c.self.inside.set c.other.inside.counting c.other.inside.set _ _ c.are_same.result c.self.view_is c.other.view_is c.self.invariant c.other.invariant c.are_same.ensures
