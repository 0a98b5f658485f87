-- Actions leave a sound world, whatever the premises, and its trace is in order.
use Rattle.std.proofs.Common.{◌≡◌, ℕ, zero, suc, ◌≤◌, List, [], ◌∷◌, ap, subst, Some, Ok}
use Rattle.std.specs.Prelude.{slice_get, slice_set}
use Rattle.std.proofs.lemmas.Option.{same_Some}
use Rattle.pb_timers.specs.Timers.{Params}
use Rattle.law_turn.specs.Laws.{Fits}
use Rattle.law_model.specs.Medium.{TapSpec, Tap}
use Rattle.law_model.specs.World.{World}
use Rattle.law_model.specs.Step.{world_after}
use Rattle.law_model.specs.Laws.{InOrder, AllInOrder, IsSound}
use Rattle.law_model.proofs.Worlds.{sayable-set, sayable-at, sound-step, sound-new_world}
use Rattle.law_runs.specs.Judging.{IsOrdered, Stands}
use Rattle.law_runs.proofs.Ordered.{stands-step, stands-new, is-ordered}
use Rattle.law_token.specs.Actions.{Action, Happens, Sets, AreActions, LeadsTo, HasActed}
use Rattle.law_token.specs.Data.{tap_with, set_data}
use Rattle.law_token.proofs.replies.Kept.{is_set}

-- ---- other data

in_order_data : (now : ℕ) (ts : List Tap) (i : ℕ) (t : Tap) (unit : List ℕ) → slice_get ts i ≡ Some t → AllInOrder now ts → AllInOrder now (slice_set ts i (tap_with t unit))
in_order_data now [] i t unit at all = tt
in_order_data now (x ∷ xs) zero t unit at all = subst (λ (z : Tap). (z.since ≤ now) × InOrder 0 z.marks now × AllInOrder now xs) (same_Some x t at) all
in_order_data now (x ∷ xs) (suc i) t unit at all = (all.0, all.1, in_order_data now xs i t unit at all.2)

pub data_sound : (w next : World) (tap : ℕ) (unit : List ℕ) → Fits unit → set_data w tap unit ≡ Ok next → IsSound w → IsSound next
data_sound w next tap unit fits ok s =
    let d = is_set w next tap unit ok in
    let has = sayable-at w.taps tap d.t s.sayable d.here in
    let c = has.1 in
    subst IsSound d.is (record {
      begun = s.begun;
      in_order = in_order_data w.now w.taps tap d.t unit d.here s.in_order;
      sayable = sayable-set w.taps tap (tap_with d.t unit) (has.0, record { high = c.high; low = c.low; pending = c.pending; unit = fits; kept = c.kept }) s.sayable;
    })

data_stands : (w next : World) (tap : ℕ) (unit : List ℕ) → set_data w tap unit ≡ Ok next → Stands w → Stands next
data_stands w next tap unit ok s = subst Stands (is_set w next tap unit ok).is s

-- ---- along a list

acts_sound : (actions : List Action) (w next : World) → AreActions actions → LeadsTo w actions next → IsSound w → IsSound next
acts_sound [] w next are leads s = subst IsSound leads s
acts_sound (Happens e ∷ more) w next are leads s =
    acts_sound more leads.0 next are.1 leads.2 (subst IsSound (ap (world_after w) leads.1.1) (sound-step w e are.0 s))
acts_sound (Sets tap unit ∷ more) w next are leads s = acts_sound more leads.0 next are.1 leads.2 (data_sound w leads.0 tap unit are.0 leads.1 s)

acts_stand : (actions : List Action) (w next : World) → LeadsTo w actions next → Stands w → Stands next
acts_stand [] w next leads s = subst Stands leads s
acts_stand (Happens e ∷ more) w next leads s = acts_stand more leads.0 next leads.2 (subst Stands (ap (world_after w) leads.1.1) (stands-step w e s))
acts_stand (Sets tap unit ∷ more) w next leads s = acts_stand more leads.0 next leads.2 (data_stands w leads.0 tap unit leads.1 s)

-- ---- from a new world

pub sound_by : (p : Params) (specs : List TapSpec) (actions : List Action) (new w : World) → HasActed p specs actions new w → IsSound w
sound_by p specs actions new w has = acts_sound actions new w has.are has.leads (sound-new_world p specs new has.fit has.made)

pub ordered_by : (p : Params) (specs : List TapSpec) (actions : List Action) (new w : World) → HasActed p specs actions new w → IsOrdered w.trace
ordered_by p specs actions new w has = is-ordered w (sound_by p specs actions new w has) (acts_stand actions new w has.leads (stands-new p specs new has.made))
