use Rattle.std.proofs.Common.{ap, ◌∙◌}
use Rattle.pb_ring.specs.AddressSets.{next_address}
use Rattle.pb_ring.specs.Las.{members_of}
use Rattle.pb_ring.specs.Gap.{last_asked, next_asked}
use Rattle.pb_transitions.proofs.speeches.next_look.Goals as goal

pub returns-clause-address : goal.returns-clause-address
returns-clause-address c queue phase =
    let k = c.args.kept.now in
    let hsa = c.args.params.now.hsa in
    c.next_to_ask.ensures.address
    ∙ ap (λ hsa. next_asked c.get-ts.result c.ns-ns.result hsa (last_asked k.gap)) c.hsa.ensures.value
    ∙ ap (λ ns. next_asked c.get-ts.result ns hsa (last_asked k.gap)) c.ns-ns.ensures.value
    ∙ ap (λ ts. next_asked ts (next_address ts (members_of k.las.stage)) hsa (last_asked k.gap)) c.get-ts.ensures.value
