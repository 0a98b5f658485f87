-- A start keeps the invariant.
use Rattle.std.proofs.Common.{◌≡◌, ℕ, ◌+◌, Bool, true, false, ◌&&◌, ◌||◌, List, [], ◌∷◌, ◌++◌, refl, sym, ap, ◌∙◌, subst, arith, Option, Some, None, Ok}
use Rattle.std.specs.Prelude.{slice_get, slice_set, nat_lt}
use Rattle.std.specs.List.{list_any}
use Rattle.std.proofs.lemmas.Bool.{ltb-false, eq-eqb, or_parts}
use Rattle.law_model.specs.Trace.{Entry, Sent, Noise}
use Rattle.law_model.specs.Medium.{Tap}
use Rattle.law_model.specs.World.{World, Start, Reply, Running, is_in_air_by}
use Rattle.law_model.specs.Step.{started_tap, step_start}
use Rattle.law_model.proofs.Worlds.{unless-Ok}
use Rattle.law_runs.specs.Initiators.{last_initiator}
use Rattle.law_runs.specs.Premises.{waited_by}
use Rattle.law_token.specs.Lists.{Each}
use Rattle.law_token.specs.Views.{TapHolds}
use Rattle.law_token.specs.Invariant.{Keeps}
use Rattle.law_token.proofs.bus.Lists.{at_set}
use Rattle.law_token.proofs.whole.Keeping.{Kept}
use Rattle.law_token.proofs.air.FreshTap.{OwnEnded, started_ok}
use Rattle.law_token.proofs.bus.Speakers.{speaks_start}
use Rattle.law_token.proofs.air.Near.{all_near_self}
use Rattle.law_token.proofs.air.NearTrace.{WasTap, Ran, AsBefore, Started}
use Rattle.law_token.proofs.air.Changes.{still_ok, near_keeps, still_distinct}
use Rattle.law_token.specs.Invariant.{KeepsInvariant}
use Rattle.law_token.proofs.whole.Joined.{whole}
use Rattle.law_token.proofs.whole.Stays.{set_specs}

each_none : (P : Entry → Type 0) (test : Entry → Bool) (es : List Entry) → ((e : Entry) → test e ≡ false → P e) → list_any test es ≡ false → Each P es
each_none P test [] f none = tt
each_none P test (e ∷ es) f none = let b = or_parts (test e) (list_any test es) none in (f e b.0, each_none P test es f b.1)

own_ended : (delay now k : ℕ) (e : Entry) → is_in_air_by delay now k e ≡ false → OwnEnded k now e
own_ended delay now k (Noise span) f = tt
own_ended delay now k (Sent r) f = λ mine.
    let late = sym (ap (λ b. b && nat_lt now (r.end + delay)) (eq-eqb r.tap k mine)) ∙ f in let h = ltb-false now (r.end + delay) late in omega (arith, h)

pub start_keeps : (w : World) (tap : ℕ) → Kept w (Start tap)
start_keeps w tap waited next reply ok event kept set k = by (slice_get w.taps tap) refl ok
  where
    by : (o : Option Tap) → slice_get w.taps tap ≡ o → step_start w tap o ≡ Ok (next, reply) → Keeps next (waited_by next 0 next.taps ++ waited)
    by None at ok = absurd cc
    by (Some t) at ok =
        let y = started_tap w tap t in
        let taps' = slice_set w.taps tap y in
        let new = waited_by next 0 next.taps in
        let S : ℕ → Type 0 = (λ i. ⊥) in
        let near = all_near_self w.now S w.trace in
        let made : World = record w { taps = taps' } in
        let both = unless-Ok ((t.running || list_any (is_in_air_by w.params.ttd w.now tap) w.trace, Running) ∷ []) (made, record { now = w.now; spoke = None }) (next, reply) ok in
        let same : made ≡ next = ap (λ (z : World × Reply). z.0) both.1 in
        let ended = each_none (OwnEnded tap w.now) (is_in_air_by w.params.ttd w.now tap) w.trace (own_ended w.params.ttd w.now tap) (or_parts t.running (list_any (is_in_air_by w.params.ttd w.now tap) w.trace) both.0.0).1 in
        subst (λ z. Keeps z (new ++ waited)) same
        (near_keeps w waited new S w.trace taps'
        (record {
          specs = set_specs w.taps tap t y at refl;
          was = at_set (λ j u. WasTap w.taps j u) w.taps tap y (record { t = t; here = at; spec = refl }) (λ j u ne h. record { t = u; here = h; spec = refl });
          ran = at_set (λ j u. u.running ≡ true → Ran w.params.ttd w.now w.trace w.taps j u) w.taps tap y (λ _. Started refl refl) (λ j u ne h run. AsBefore u h run refl refl);
        })
        near
        (still_distinct w (Start tap) waited next made same kept)
        (at_set (λ j u. u.running ≡ true → TapHolds w.params w.now w.trace (last_initiator w.now w.trace) j u) w.taps tap y
        (λ _. started_ok w (last_initiator w.now w.trace) tap t (set.stays tap t at).address ended)
        (λ j u ne h run. still_ok w waited S w.trace near k.inv j u (λ f. f) h run))
        (λ e o. speaks_start w tap t e at o) k)

pub start_invariant : (w : World) (tap : ℕ) → KeepsInvariant w (Start tap)
start_invariant w tap = whole w (Start tap) (start_keeps w tap)
