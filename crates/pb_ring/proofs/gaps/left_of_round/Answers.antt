use Rattle.std.proofs.Common.{◌∙◌, ap, ℕ, ◌&&◌}
use Rattle.std.specs.Prelude.{filter, nat_le}
use Rattle.pb_ring.specs.AddressSets.{addresses, is_member, is_between}
use Rattle.pb_ring.proofs.GapLemmas.{left-is}
use Rattle.pb_ring.proofs.gaps.left_of_round.Goals as goal

pub returns : goal.returns
returns c =
    c.common.ensures ∙ ap (filter (λ x. is_member c.between-behind.result x)) c.range.ensures
    ∙ left-is c.args.ts c.args.ns c.args.hsa c.args.asked c.between-behind.result c.requires
    (c.between-behind.ensures ∙ ap (λ (from : ℕ). filter (λ x. is_between from c.args.ts x && nat_le x 126) addresses) c.unwrap_or.ensures)
