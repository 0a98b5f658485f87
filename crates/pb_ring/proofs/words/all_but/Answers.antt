use Rattle.std.proofs.Common.{◌∙◌, ℕ, sym, ap, arith, Option}
use Rattle.std.specs.Prelude.{not}
use Rattle.std.proofs.lemmas.Bool.{ne_eqb}
use Rattle.pb_ring.specs.AddressSets.{is_own}
use Rattle.pb_ring.proofs.Masks.{all-set, all_but-own}
use Rattle.pb_ring.proofs.words.all_but.Goals as goal

pub returns-in-Some : goal.returns-in-Some
returns-in-Some c a low = all_but-own c.in-Some.own a c.if-own-lt127.true low ∙ ap (λ (o : Option ℕ). not (is_own o a)) (sym c.in-Some.is)

pub returns-in_default : goal.returns-in_default
returns-in_default c a low =
    let high = c.if-own-lt127.false in
    all-set a low ∙ ap not (sym (ne_eqb c.in-Some.own a (omega arith))) ∙ ap (λ (o : Option ℕ). not (is_own o a)) (sym c.in-Some.is)

pub returns-in_default-2 : goal.returns-in_default-2
returns-in_default-2 c a low = all-set a low ∙ ap (λ (o : Option ℕ). not (is_own o a)) (sym c.in_default.is)
