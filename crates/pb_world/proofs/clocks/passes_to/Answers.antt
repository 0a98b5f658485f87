use Rattle.std.proofs.Common.{ap, sym, subst, refl, ◌∙◌, map, Some}
use Rattle.pb_faults.specs.FirstFault.{first_fault}
use Rattle.law_model.specs.Step.{told, first_full}
use Rattle.law_model.specs.World.{next_end_of}
use Rattle.pb_medium.specs.Airs.{air}
use Rattle.pb_medium.specs.Entries.{entry_of}
use Rattle.pb_world.specs.Clocks.{time_faults, IsFault}
use Rattle.pb_taps.specs.declared.faults.WorldFault.TheVariants as fault
use Rattle.pb_world.proofs.Elapsing.{pass-by}
use Rattle.pb_world.proofs.clocks.passes_to.Goals as goal

pub returns-in-Some-clause-fault : goal.returns-in-Some-clause-fault
returns-in-Some-clause-fault c =
    let w = air c.args.delay c.args.now (map entry_of c.args.entries.now) c.args.taps.now in
    let none = ap (λ o. first_fault (time_faults c.args.now c.args.bits o)) (sym (c.next_end.ensures ∙ ap (λ n. next_end_of c.args.delay n w.trace) c.get.ensures.value)) ∙ c.in_ok-to.ensures.ok.2 in
    let full = ap (λ n. first_full 0 (told c.args.delay w.trace c.args.now n 0 w.taps)) (sym c.in_ok-to.ensures.ok.0) ∙ sym c.first_full.ensures ∙ c.in-Some.is in
    subst (λ r. IsFault r (fault.InboxFull c.in-Some.tap)) (sym (pass-by w c.args.bits (Some c.in-Some.tap) none full)) refl
