use Rattle.std.proofs.Common.{sym, refl}
use Rattle.pb_cycles.proofs.MaskLemmas.{counts_in-zero}
use Rattle.pb_cycles.proofs.counts.FrameCounts.new.Goals as goal

pub returns : goal.returns
returns c = sym (counts_in-zero 127 refl)
