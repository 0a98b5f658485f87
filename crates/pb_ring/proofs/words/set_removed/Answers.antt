use Rattle.std.proofs.Common.{◌∙◌, ◌<◌, ◌^◌, ap, subst, sym, ℕ, bit_and}
use Rattle.pb_ring.specs.Words.{listed}
use Rattle.pb_ring.proofs.Masks.{removed-set, removed-fits}
use Rattle.pb_ring.proofs.words.set_removed.Goals as goal

pub returns-clause-value : goal.returns-clause-value
returns-clause-value c =
    ap (λ (n : ℕ). listed (bit_and (bit_and c.set_between.result c.all_but.result) n)) c.below.ensures
    ∙ removed-set c.args.own c.args.sa c.args.da c.args.highest c.set_between.result c.all_but.result c.requires c.set_between.ensures c.all_but.ensures

pub returns-clause-fits : goal.returns-clause-fits
returns-clause-fits c =
    subst (λ (n : ℕ). bit_and (bit_and c.set_between.result c.all_but.result) n < 2 ^ 127) (sym c.below.ensures)
    (removed-fits c.args.highest c.set_between.result c.all_but.result c.set_between.type_inv c.all_but.type_inv)
