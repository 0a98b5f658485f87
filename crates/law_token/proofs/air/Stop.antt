-- A stop keeps the invariant.
use Rattle.std.proofs.Common.{◌≡◌, ℕ, ◌<◌, inl, inr, ⊎_elim, true, false, not, ◌==◌, List, [], ◌∷◌, ◌++◌, map, refl, sym, ap, subst, arith, Option, Some, None, Ok}
use Rattle.std.specs.Prelude.{slice_get, slice_set}
use Rattle.std.proofs.lemmas.Bool.{eqb-true}
use Rattle.law_model.specs.Trace.{Entry, Sent, Noise, cut_end, cut_at}
use Rattle.law_model.specs.Medium.{Tap}
use Rattle.law_model.specs.World.{World, Stop, Reply, NotRunning}
use Rattle.law_model.specs.Step.{halted, step_stop}
use Rattle.law_model.proofs.Cases.{by_test}
use Rattle.law_model.proofs.Worlds.{unless-Ok}
use Rattle.law_runs.specs.Initiators.{last_initiator}
use Rattle.law_runs.specs.Premises.{waited_by}
use Rattle.law_token.specs.Views.{TapHolds}
use Rattle.law_token.specs.Invariant.{Keeps}
use Rattle.law_token.proofs.bus.Lists.{at_set}
use Rattle.law_token.proofs.whole.Keeping.{Kept}
use Rattle.law_token.proofs.air.StoppedTap.{cut_bound}
use Rattle.law_token.proofs.bus.Speakers.{speaks_halt}
use Rattle.law_token.proofs.air.Near.{NearRecord, Near, AllNear}
use Rattle.law_token.proofs.air.NearTrace.{WasTap, Ran, AsBefore}
use Rattle.law_token.proofs.air.Changes.{still_ok, near_keeps, still_distinct}
use Rattle.law_token.specs.Invariant.{KeepsInvariant}
use Rattle.law_token.proofs.whole.Joined.{whole}
use Rattle.law_token.proofs.whole.Stays.{set_specs}

cut_near : (now tap : ℕ) (e : Entry) → Near now (λ i. i ≡ tap) e (cut_at now tap e)
cut_near now tap (Noise a) = (refl, omega arith, inl refl)
cut_near now tap (Sent r) =
    by_test (λ x. NearRecord now (λ i. i ≡ tap) r x) (r.tap == tap) (record r { end = cut_end now r }) r
    (λ e. record { hits = r.hits; end = cut_end now r; is = refl; ends = ⊎_elim (λ (a : cut_end now r ≡ r.end). inl a) (λ (b : now < cut_end now r). inr (eqb-true r.tap tap e, b, omega arith)) (cut_bound now r) })
    (λ _. record { hits = r.hits; end = r.end; is = refl; ends = inl refl })

near_map : (now : ℕ) (S : ℕ → Type 0) (f : Entry → Entry) (es : List Entry) → ((e : Entry) → Near now S e (f e)) → AllNear now S es (map f es)
near_map now S f [] each = tt
near_map now S f (e ∷ es) each = (each e, near_map now S f es each)

pub stop_keeps : (w : World) (tap : ℕ) → Kept w (Stop tap)
stop_keeps w tap waited next reply ok event kept set k = by (slice_get w.taps tap) refl ok
  where
    by : (o : Option Tap) → slice_get w.taps tap ≡ o → step_stop w tap o ≡ Ok (next, reply) → Keeps next (waited_by next 0 next.taps ++ waited)
    by None at ok = absurd cc
    by (Some t) at ok =
        let y = halted t in
        let taps' = slice_set w.taps tap y in
        let xs = map (cut_at w.now tap) w.trace in
        let new = waited_by next 0 next.taps in
        let S : ℕ → Type 0 = (λ i. i ≡ tap) in
        let near = near_map w.now S (cut_at w.now tap) w.trace (cut_near w.now tap) in
        let made : World = record w { trace = xs; taps = taps' } in
        let both = unless-Ok ((not t.running, NotRunning) ∷ []) (made, record { now = w.now; spoke = None }) (next, reply) ok in
        let same : made ≡ next = ap (λ (z : World × Reply). z.0) both.1 in
        subst (λ z. Keeps z (new ++ waited)) same
        (near_keeps w waited new S xs taps'
        (record {
          specs = set_specs w.taps tap t y at refl;
          was = at_set (λ j u. WasTap w.taps j u) w.taps tap y (record { t = t; here = at; spec = refl }) (λ j u ne h. record { t = u; here = h; spec = refl });
          ran = at_set (λ j u. u.running ≡ true → Ran w.params.ttd w.now w.trace w.taps j u) w.taps tap y (λ (run : false ≡ true). absurd cc) (λ j u ne h run. AsBefore u h run refl refl);
        })
        near
        (still_distinct w (Stop tap) waited next made same kept)
        (at_set (λ j u. u.running ≡ true → TapHolds w.params w.now xs (last_initiator w.now xs) j u) w.taps tap y
        (λ (run : false ≡ true). absurd cc)
        (λ j u ne h run. still_ok w waited S xs near k.inv j u (λ e. ne (sym e)) h run))
        (λ e o. speaks_halt w.params w.now w.taps tap t e at o) k)

pub stop_invariant : (w : World) (tap : ℕ) → KeepsInvariant w (Stop tap)
stop_invariant w tap = whole w (Stop tap) (stop_keeps w tap)
