-- The loss of a telegram at a tap breaks a premise, so nothing is to be kept.
use Rattle.std.proofs.Common.{◌≡◌, ℕ, Bool, true, false, [], ◌++◌, refl, subst, Option, Some, None}
use Rattle.law_model.specs.World.{World, Unheard}
use Rattle.law_runs.specs.Premises.{Course, broken_by, broken_or, followed, has_namesakes, two_have_waited, first_number, waited_by, comes_late}
use Rattle.law_token.specs.Invariant.{KeepsInvariant}
use Rattle.law_token.specs.Runs.{LossesBreak}

first_number_loses : (a c d : Bool) → first_number a true c d ≡ None → ⊥
first_number_loses true c d f = cc
first_number_loses false c d f = cc

-- a loss breaks a premise
pub loss_invariant : (w : World) (tap speaker : ℕ) → KeepsInvariant w (Unheard tap speaker)
loss_invariant w tap speaker waited next reply ok is breaks i =
    absurd (first_number_loses (has_namesakes next.taps) (comes_late w (Unheard tap speaker)) (two_have_waited next.params.ttd (waited_by next 0 next.taps) (waited_by next 0 next.taps ++ waited)) breaks)

or-none : (now : ℕ) (o : Option ℕ) → broken_or None now o ≡ None → o ≡ None
or-none now None none = refl
or-none now (Some number) none = absurd cc

pub loss_breaks : LossesBreak
loss_breaks w next tap speaker reply ok none =
    let e = Unheard tap speaker in
    let new = waited_by next 0 next.taps in
    let start : Course = record { world = w; waited = []; broken = None } in
    let kept : broken_or None next.now (broken_by w e next new (new ++ [])) ≡ None = subst (λ r. (followed start e r).broken ≡ None) ok none in
    first_number_loses (has_namesakes next.taps) (comes_late w e) (two_have_waited next.params.ttd new (new ++ [])) (or-none next.now (broken_by w e next new (new ++ [])) kept)
