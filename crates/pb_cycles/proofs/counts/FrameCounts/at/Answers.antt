use Rattle.std.proofs.Common.{◌∙◌, ap, sym, List, Bool, ◌==◌}
use Rattle.std.specs.Int.{bit_at}
use Rattle.pb_cycles.specs.Counts.{count_at}
use Rattle.pb_cycles.specs.CountMasks.{count_of}
use Rattle.pb_telegram.specs.declared.control.FrameCount.{FrameCount}
use Rattle.pb_telegram.specs.declared.control.FrameCount.TheVariants.{First}
use Rattle.pb_cycles.proofs.MaskLemmas.{get_or-counts_in}
use Rattle.pb_cycles.proofs.counts.FrameCounts.at.Goals as goal

pub returns : goal.returns
returns c =
    c.count_of.ensures ∙ ap (λ (b : Bool). count_of b c.is_set-2.result) c.is_set.ensures ∙ ap (λ (b : Bool). count_of (bit_at c.self.inside.counting c.args.address == 1) b) c.is_set-2.ensures
    ∙ sym (get_or-counts_in c.self.inside.counting c.self.inside.set c.args.address First c.requires)
    ∙ ap (λ (xs : List FrameCount). count_at xs c.args.address) c.self.view_is
