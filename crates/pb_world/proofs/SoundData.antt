-- Other data with which a tap replies leave a world sound.
use Rattle.std.proofs.Common.{◌≡◌, ℕ, zero, suc, List, [], ◌∷◌, refl, subst, Option, Some, None, Ok}
use Rattle.std.specs.Prelude.{slice_get, slice_set}
use Rattle.std.proofs.lemmas.Option.{none-some, same_Some}
use Rattle.law_turn.specs.Laws.{Fits}
use Rattle.law_model.specs.Laws.{AllInOrder, IsSound}
use Rattle.law_model.specs.Medium.{Tap}
use Rattle.law_model.specs.World.{World}
use Rattle.law_model.proofs.Worlds.{sayable-set, sayable-at}
use Rattle.law_token.specs.Data.{tap_with, set_data_at, set_data}

in-order : (now : ℕ) (ts : List Tap) (i : ℕ) (t : Tap) (unit : List ℕ) → slice_get ts i ≡ Some t → AllInOrder now ts → AllInOrder now (slice_set ts i (tap_with t unit))
in-order now [] i t unit at all = absurd (none-some t at)
in-order now (x ∷ xs) zero t unit at all = subst (λ (y : Tap). AllInOrder now (tap_with y unit ∷ xs)) (same_Some x t at) (all.0, all.1, all.2)
in-order now (x ∷ xs) (suc i) t unit at all = (all.0, all.1, in-order now xs i t unit at all.2)

pub sound-data : (w next : World) (tap : ℕ) (unit : List ℕ) → Fits unit → set_data w tap unit ≡ Ok next → IsSound w → IsSound next
sound-data w next tap unit fits ok sound = by (slice_get w.taps tap) refl ok
  where
    by : (o : Option Tap) → slice_get w.taps tap ≡ o → set_data_at w tap unit o ≡ Ok next → IsSound next
    by None at ok = absurd cc
    by (Some t) at ok =
        let taps = slice_set w.taps tap (tap_with t unit) in
        let made : World = record w { taps = taps } in
        let same : made ≡ next = cc in
        let has = sayable-at w.taps tap t sound.sayable at in
        let c = has.1 in
        subst IsSound same (record {
          begun = sound.begun;
          in_order = in-order w.now w.taps tap t unit at sound.in_order;
          sayable = sayable-set w.taps tap (tap_with t unit) (has.0, record { high = c.high; low = c.low; pending = c.pending; unit = fits; kept = c.kept }) sound.sayable;
        })
