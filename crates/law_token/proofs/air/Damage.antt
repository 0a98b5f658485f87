-- Damage keeps the invariant.
use Rattle.std.proofs.Common.{ℕ, inl, not, ◌==◌, ◌||◌, [], ◌∷◌, ◌++◌, refl, ap, subst, arith, Option, None}
use Rattle.std.specs.Prelude.{slice_get, find, is_none}
use Rattle.law_model.specs.Trace.{Hit, Entry, Sent, Noise}
use Rattle.law_model.specs.World.{World, Damage, Reply, NoSuchTap, NothingInAir, is_in_air_by}
use Rattle.law_model.specs.Step.{with_hit, change_first, has_place}
use Rattle.law_model.proofs.Worlds.{unless-Ok}
use Rattle.law_runs.specs.Premises.{waited_by}
use Rattle.law_token.specs.Invariant.{Keeps}
use Rattle.law_token.proofs.whole.Keeping.{Kept}
use Rattle.law_token.proofs.air.Near.{Near}
use Rattle.law_token.proofs.air.Changes.{same_taps, near_change}
use Rattle.law_token.specs.Invariant.{KeepsInvariant}
use Rattle.law_token.proofs.whole.Joined.{whole}

hit_near : (now : ℕ) (hit : Hit) (e : Entry) → Near now (λ i. ⊥) e (with_hit hit e)
hit_near now hit (Noise a) = (refl, omega arith, inl refl)
hit_near now hit (Sent r) = record { hits = r.hits ++ hit ∷ []; end = r.end; is = refl; ends = inl refl }

pub damage_keeps : (w : World) (tap speaker : ℕ) (place : Option ℕ) → Kept w (Damage tap speaker place)
damage_keeps w tap speaker place waited next reply ok event kept set k =
    let in_air = is_in_air_by w.params.ttd w.now speaker in
    let hit : Hit = record { tap = tap; place = place } in
    let xs = change_first in_air (with_hit hit) w.trace in
    let new = waited_by next 0 next.taps in
    let made : World = record w { trace = xs } in
    let both = unless-Ok
    ((is_none (slice_get w.taps tap) || is_none (slice_get w.taps speaker), NoSuchTap) ∷ (tap == speaker || not (has_place (find in_air w.trace) place), NothingInAir) ∷ [])
    (made, record { now = w.now; spoke = None }) (next, reply) ok in
    subst (λ z. Keeps z (new ++ waited)) (ap (λ (z : World × Reply). z.0) both.1)
    (same_taps w waited new (λ i. ⊥) xs (λ i f. f) (near_change w.now (λ i. ⊥) in_air (with_hit hit) w.trace (λ e _. hit_near w.now hit e)) k)

pub damage_invariant : (w : World) (tap speaker : ℕ) (place : Option ℕ) → KeepsInvariant w (Damage tap speaker place)
damage_invariant w tap speaker place = whole w (Damage tap speaker place) (damage_keeps w tap speaker place)
