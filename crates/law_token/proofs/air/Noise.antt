-- Noise keeps the invariant.
use Rattle.std.proofs.Common.{◌≡◌, ℕ, ◌+◌, ◌<◌, inl, inr, Bool, true, false, not, ◌==◌, ◌&&◌, List, [], ◌∷◌, ◌++◌, length, refl, ap, ◌∙◌, subst, arith, None}
use Rattle.std.specs.Prelude.{nat_le, IfSome}
use Rattle.std.proofs.lemmas.Bool.{ltb-true, eqb-false}
use Rattle.pb_timers.specs.Timers.{bits}
use Rattle.law_turn.specs.Spans.{Span}
use Rattle.law_model.specs.Trace.{Entry, Sent, Noise, goes_before, with_entry, is_noise_at, noisy_until}
use Rattle.law_model.specs.World as world
use Rattle.law_model.specs.World.{World, Event, Queue, Damage, Start, Stop, Reply, NoSuchTap, Running, NotRunning, NothingInAir, ZeroTime, QueueFull, TraceFull, trace_limit, queue_limit, is_in_air_by, stopped_tap, new_faults, new_world}
use Rattle.law_model.specs.Step.{change_first, with_noise, is_noisy}
use Rattle.law_model.proofs.Cases.{by_test}
use Rattle.law_model.proofs.Worlds.{unless-Ok}
use Rattle.law_runs.specs.Initiators.{last_initiator}
use Rattle.law_runs.specs.Premises.{Waited, waited_by}
use Rattle.law_runs.specs.Headline.{specs_of}
use Rattle.law_token.specs.Lists.{In}
use Rattle.law_token.specs.Entries.{IsAnother, AllOthers}
use Rattle.law_token.specs.Invariant.{Keeps}
use Rattle.law_token.proofs.bus.Lists.{each_with, each_all}
use Rattle.law_token.proofs.whole.Keeping.{Kept}
use Rattle.law_token.proofs.air.LastRecords.{noise_tap, last_noise}
use Rattle.law_token.proofs.air.NewNoise.{entries_noise}
use Rattle.law_token.proofs.bus.Speakers.{speaks_noise}
use Rattle.law_token.proofs.air.Near.{Near}
use Rattle.law_token.proofs.air.NearTrace.{last_in_trace}
use Rattle.law_token.proofs.air.NearLegal.{begun_of, noise_legal}
use Rattle.law_token.proofs.air.Changes.{same_taps, near_change}
use Rattle.law_token.specs.Invariant.{KeepsInvariant}
use Rattle.law_token.proofs.whole.Joined.{whole}

louder : (now m : ℕ) (e : Entry) → is_noise_at now e ≡ true → Near now (λ i. ⊥) e (noisy_until m e)
louder now m (Noise a) passes = (refl, omega arith, inr (let h = ltb-true now a.end passes in (h, omega (arith, h))))
louder now m (Sent r) passes = record { hits = r.hits; end = r.end; is = refl; ends = inl refl }

others_noise : (span : Span) (es : List Entry) → AllOthers es → AllOthers (with_entry (Noise span) es)
others_noise span [] o = (tt, tt)
others_noise span (x ∷ xs) o =
    by_test (λ ys. AllOthers ys) (goes_before (Noise span) x) (Noise span ∷ x ∷ xs) (x ∷ with_entry (Noise span) xs)
    (λ _. (each_all (IsAnother (Noise span)) (x ∷ xs) (λ e. tt), o))
    (λ _. (each_with (IsAnother x) (Noise span) xs (beside x) o.0, others_noise span xs o.1))
  where
    beside : (x : Entry) → IsAnother x (Noise span)
    beside (Noise a) = tt
    beside (Sent r) = tt

noise_more : (w : World) (bits : ℕ) (waited new : List Waited) (noisy : Bool) → 0 < bits → Keeps w waited → Keeps (record w { trace = with_noise w.now (w.now + bits) noisy w.trace }) (new ++ waited)
noise_more w bits waited new true some k =
    same_taps w waited new (λ i. ⊥) (change_first (is_noise_at w.now) (noisy_until (w.now + bits)) w.trace) (λ i f. f)
    (near_change w.now (λ i. ⊥) (is_noise_at w.now) (noisy_until (w.now + bits)) w.trace (λ e h. louder w.now (w.now + bits) e h)) k
noise_more w bits waited new false some k =
    let span : Span = record { begin = w.now; end = w.now + bits } in
    let xs = with_entry (Noise span) w.trace in
    let last : last_initiator w.now xs ≡ k.inv.last = last_noise w.now span w.trace None ∙ k.inv.is_last in
    record {
      fits = k.fits;
      inv = record {
        last = k.inv.last;
        is_last = last;
        last_in = subst (λ o. IfSome o (λ r. In (Sent r) xs)) last (last_in_trace w.now xs);
        entries = entries_noise w.params w.now (w.now + bits) w.taps w.trace new waited k.inv.last (omega (arith, some)) k.inv.entries;
        others = others_noise span w.trace k.inv.others;
        speakers = speaks_noise w.params w.now w.taps (w.now + bits) false w.trace k.inv.speakers;
        distinct = k.inv.distinct;
        taps = λ i t at run. noise_tap w.params w.now w.trace span k.inv.last i t (omega arith) (k.inv.taps i t at run);
      };
      legal = noise_legal w.params (specs_of w) w.now (w.now + bits) w.trace (begun_of w.params w.now w.taps w.trace waited k.inv.last w.trace k.inv.entries) k.legal;
    }

pub noise_keeps : (w : World) (bits : ℕ) → Kept w (world.Noise bits)
noise_keeps w bits waited next reply ok event kept set k =
    let noisy = is_noisy w in
    let new = waited_by next 0 next.taps in
    let made : World = record w { trace = with_noise w.now (w.now + bits) noisy w.trace } in
    let both = unless-Ok ((bits == 0, ZeroTime) ∷ (not noisy && nat_le w.limit (length w.trace), TraceFull) ∷ []) (made, record { now = w.now; spoke = None }) (next, reply) ok in
    let some : bits ≡ 0 → ⊥ = eqb-false bits 0 both.0.0 in
    subst (λ z. Keeps z (new ++ waited)) (ap (λ (z : World × Reply). z.0) both.1) (noise_more w bits waited new noisy (grind (arith, some)) k)

pub noise_invariant : (w : World) (bits : ℕ) → KeepsInvariant w (world.Noise bits)
noise_invariant w bits = whole w (world.Noise bits) (noise_keeps w bits)
