-- The invariant along a list of events, and the theorem.
use Rattle.std.proofs.Common.{◌≡◌, List, [], ◌∷◌, ◌++◌, subst, None}
use Rattle.law_model.specs.World.{World, Event, Turn, Pass, Damage, Start, Stop, Queue, Noise, Unheard}
use Rattle.law_model.specs.Step.{RunsTo}
use Rattle.law_model.specs.Laws.{AreEvents}
use Rattle.law_runs.specs.Premises.{Waited, waited_by, broken_by, broken_or, followed, course_of}
use Rattle.law_runs.specs.Headline.{HasAtMostOneHolder, TokenTheorem}
use Rattle.law_token.specs.Invariant.{Invariant, KeepsInvariant}
use Rattle.law_token.specs.Promises.{TokenTheoremOfDelay}
use Rattle.law_token.proofs.whole.Keeping.{fits_valid, unbroken}
use Rattle.law_token.proofs.pass.WholePass.{pass_invariant}
use Rattle.law_token.proofs.bus.NewWorlds.{new_invariant}
use Rattle.law_token.proofs.turn.WholeTurn.{turn_invariant}
use Rattle.law_token.proofs.air.Damage.{damage_invariant}
use Rattle.law_token.proofs.air.Start.{start_invariant}
use Rattle.law_token.proofs.air.Stop.{stop_invariant}
use Rattle.law_token.proofs.air.Request.{queue_invariant}
use Rattle.law_token.proofs.air.Noise.{noise_invariant}
use Rattle.law_token.proofs.air.Loss.{loss_invariant}
use Rattle.law_token.proofs.bus.Claims.{at_most_one, is_named}

-- ---- along a list

-- each event that breaks no premise keeps the invariant
pub event_invariant : (w : World) (e : Event) → KeepsInvariant w e
event_invariant w (Turn tap) = turn_invariant w tap
event_invariant w (Pass bits) = pass_invariant w bits
event_invariant w (Damage tap speaker place) = damage_invariant w tap speaker place
event_invariant w (Start tap) = start_invariant w tap
event_invariant w (Stop tap) = stop_invariant w tap
event_invariant w (Queue tap request) = queue_invariant w tap request
event_invariant w (Noise bits) = noise_invariant w bits
event_invariant w (Unheard tap speaker) = loss_invariant w tap speaker

pub runs_keep : (events : List Event) (w next : World) (waited : List Waited) → AreEvents events → RunsTo w events next
    → (course_of (record { world = w; waited = waited; broken = None }) events).broken ≡ None → Invariant w waited → (all : List Waited) × Invariant next all
runs_keep [] w next waited are runs none i = (waited, subst (λ z. Invariant z waited) runs i)
runs_keep (e ∷ es) w next waited are runs none i =
    let between = runs.0 in
    let new = waited_by between 0 between.taps in
    let all = new ++ waited in
    let go : (course_of (record { world = between; waited = all; broken = broken_or None between.now (broken_by w e between new all) }) es).broken ≡ None =
    subst (λ r. (course_of (followed (record { world = w; waited = waited; broken = None }) e r) es).broken ≡ None) runs.2 none in
    let breaks = unbroken between all between.now es (broken_by w e between new all) go in
    runs_keep es between next all are.1 runs.3
    (subst (λ o. (course_of (record { world = between; waited = all; broken = broken_or None between.now o }) es).broken ≡ None) breaks go)
    (event_invariant w e waited between runs.1 runs.2 are.0 breaks i)

-- ---- the theorem

-- what the invariant says of a world
pub holds_once : (w : World) (waited : List Waited) → Invariant w waited → HasAtMostOneHolder w
holds_once w waited i = record {
  at_most_one = at_most_one w waited i.keeps.inv;
  is_named = is_named w waited i.keeps.fits i.keeps.inv;
  legal = i.keeps.legal;
}

pub theorem_of_delay : TokenTheoremOfDelay
theorem_of_delay p specs events new w fits run none =
    let k = runs_keep events new w [] run.are run.runs none (new_invariant p specs new fits run.fit run.made) in holds_once w k.0 k.1

pub theorem : TokenTheorem
theorem p specs events new w valid fit are made runs none =
    theorem_of_delay p specs events new w (fits_valid p valid) (record { fit = fit; are = are; made = made; runs = runs }) none
