-- A request that is to wait keeps the invariant.
use Rattle.std.proofs.Common.{◌≡◌, ℕ, true, not, ◌&&◌, [], ◌∷◌, ◌++◌, length, refl, ap, subst, Option, Some, None, Ok}
use Rattle.std.specs.Prelude.{slice_get, slice_set, nat_le}
use Rattle.pb_cycles.specs.RequestFields.{RequestFields}
use Rattle.law_turn.specs.Stations.{list_for, pushed}
use Rattle.law_model.specs.Medium.{Tap}
use Rattle.law_model.specs.World.{World, Queue, Reply, NotRunning, QueueFull, queue_limit}
use Rattle.law_model.specs.Step.{step_queue}
use Rattle.law_model.proofs.Worlds.{unless-Ok}
use Rattle.law_runs.specs.Initiators.{last_initiator}
use Rattle.law_runs.specs.Premises.{waited_by}
use Rattle.law_token.specs.Views.{TapHolds}
use Rattle.law_token.specs.Invariant.{Keeps}
use Rattle.law_token.proofs.bus.Lists.{at_set}
use Rattle.law_token.proofs.whole.Keeping.{Kept}
use Rattle.law_token.proofs.air.Waiting.{queue_tap}
use Rattle.law_token.proofs.bus.Speakers.{speaks_queue}
use Rattle.law_token.proofs.air.Near.{all_near_self}
use Rattle.law_token.proofs.air.NearTrace.{WasTap, Ran, AsBefore}
use Rattle.law_token.proofs.air.Changes.{still_ok, near_keeps, still_distinct}
use Rattle.law_token.specs.Invariant.{KeepsInvariant}
use Rattle.law_token.proofs.whole.Joined.{whole}
use Rattle.law_token.proofs.whole.Stays.{set_specs}

pub queue_keeps : (w : World) (tap : ℕ) (r : RequestFields) → Kept w (Queue tap r)
queue_keeps w tap r waited next reply ok event kept set k = by (slice_get w.taps tap) refl ok
  where
    by : (o : Option Tap) → slice_get w.taps tap ≡ o → step_queue w tap r o ≡ Ok (next, reply) → Keeps next (waited_by next 0 next.taps ++ waited)
    by None at ok = absurd cc
    by (Some t) at ok =
        let y = record t { station = pushed t.station r } in
        let taps' = slice_set w.taps tap y in
        let new = waited_by next 0 next.taps in
        let S : ℕ → Type 0 = (λ i. ⊥) in
        let near = all_near_self w.now S w.trace in
        let made : World = record w { taps = taps' } in
        let both = unless-Ok ((not (t.running && t.spec.master), NotRunning) ∷ (nat_le queue_limit (length (list_for t.station.cycles.queue r)), QueueFull) ∷ []) (made, record { now = w.now; spoke = None }) (next, reply) ok in
        let same : made ≡ next = ap (λ (z : World × Reply). z.0) both.1 in
        subst (λ z. Keeps z (new ++ waited)) same
        (near_keeps w waited new S w.trace taps'
        (record {
          specs = set_specs w.taps tap t y at refl;
          was = at_set (λ j u. WasTap w.taps j u) w.taps tap y (record { t = t; here = at; spec = refl }) (λ j u ne h. record { t = u; here = h; spec = refl });
          ran = at_set (λ j u. u.running ≡ true → Ran w.params.ttd w.now w.trace w.taps j u) w.taps tap y (λ run. AsBefore t at run refl refl) (λ j u ne h run. AsBefore u h run refl refl);
        })
        near
        (still_distinct w (Queue tap r) waited next made same kept)
        (at_set (λ j u. u.running ≡ true → TapHolds w.params w.now w.trace (last_initiator w.now w.trace) j u) w.taps tap y
        (λ run. queue_tap w.params w.now w.trace (last_initiator w.now w.trace) tap t r (still_ok w waited S w.trace near k.inv tap t (λ f. f) at run))
        (λ j u ne h run. still_ok w waited S w.trace near k.inv j u (λ f. f) h run))
        (λ e o. speaks_queue w.params w.now w.taps tap t r e at o) k)

pub queue_invariant : (w : World) (tap : ℕ) (request : RequestFields) → KeepsInvariant w (Queue tap request)
queue_invariant w tap request = whole w (Queue tap request) (queue_keeps w tap request)
