-- Each event leaves what a tap has heard up to the clock.
use Rattle.std.proofs.Common.{◌≡◌, ℕ, ◌+◌, ◌<◌, ◌≤◌, inl, inr, ⊎_elim, Bool, true, ◌==◌, List, map, sym, ap, ◌∙◌, subst, arith, Option, Some, None}
use Rattle.std.specs.Prelude.{max, nat_lt, slice_set}
use Rattle.std.proofs.lemmas.Bool.{ltb-true, eqb-true, and_parts}
use Rattle.law_turn.specs.Spans.{Span}
use Rattle.law_model.specs.Trace.{Hit, Record, Entry, Sent, Noise, Unheard, cut_end, cut_at, is_noise_at, noisy_until, begins_from, unheard_at}
use Rattle.law_model.specs.Medium.{Tap, reaches, ends_between, entry_at, heard_by}
use Rattle.law_model.specs.Step.{with_hit, change_first}
use Rattle.law_model.proofs.Cases.{by_test}
use Rattle.law_token.specs.Places.{IsOver}
use Rattle.law_token.proofs.air.StoppedTap.{CutSpan, cut_bound, cut_span}
use Rattle.law_token.proofs.bus.Hearers.{IsNew, new_span}
use Rattle.law_token.proofs.pass.AllTaps.{same_entry_at}
use Rattle.pb_monitor.specs.Captures.{Burst, Fills}
use Rattle.law_monitor.proofs.hearing.Ears.{Ear, at_ear, BeginsIn, SameEntry, same_self, SameTrace, same_pairs, pairs_map, pairs_change, new_clear}
use Rattle.law_token.proofs.quiet.SameEntries.{part_some}

-- ---- damage

hit_one : (x : Ear) (now : ℕ) (hit : Hit) (e : Entry) → SameEntry x now e (with_hit hit e)
hit_one x now hit (Noise span) = same_self x now (Noise span)
hit_one x now hit (Sent r) = record { clear = λ u v le late h. h; back = λ m late h. h; begins = λ m early h. h; fills = λ b late h. h }

pub same_hit : (x : Ear) (now : ℕ) (test : Entry → Bool) (hit : Hit) (es : List Entry) → SameTrace x now es (change_first test (with_hit hit) es)
same_hit x now test hit es = same_pairs x now es _ (pairs_change (SameEntry x now) test (with_hit hit) es (same_self x now) (λ e _. hit_one x now hit e))

-- ---- noise that lasts longer

noisy_one : (x : Ear) (now m : ℕ) (e : Entry) → x.since ≤ now → is_noise_at now e ≡ true → SameEntry x now e (noisy_until m e)
noisy_one x now m (Sent r) began h = same_self x now (Sent r)
noisy_one x now m (Noise span) began h =
    let there : now < span.end = ltb-true now span.end h in
    let longer : Span = record span { end = max span.end m } in
    let is = part_some x.since span (omega arith) in
    let was = part_some x.since longer (omega arith) in
    record {
      clear = λ u v le late over. subst (IsOver v u) (sym was)
          (⊎_elim (λ (a : v ≤ max span.begin x.since). inl a) (λ (b : span.end ≤ u). absurd (omega arith)) (subst (IsOver v u) is over));
      back = λ n late over. subst (IsOver n n) (sym is)
          (⊎_elim (λ (a : n ≤ max span.begin x.since). inl a) (λ (b : max span.end m ≤ n). absurd (omega arith)) (subst (IsOver n n) was over));
      begins = λ n early b. let g = subst (BeginsIn n) is b in subst (BeginsIn n) (sym was) (g.0, let s = g.1 in omega (arith, s));
      fills = λ b late f. absurd f;
    }

pub same_noisy : (x : Ear) (now m : ℕ) (es : List Entry) → x.since ≤ now → SameTrace x now es (change_first (is_noise_at now) (noisy_until m) es)
same_noisy x now m es began = same_pairs x now es _ (pairs_change (SameEntry x now) (is_noise_at now) (noisy_until m) es (same_self x now) (λ e h. noisy_one x now m e began h))

-- ---- a tap stops

cut_clear : (now u v : ℕ) (o p : Option Span) → CutSpan now o p → IsOver v u o → IsOver v u p
cut_clear now u v None None c h = tt
cut_clear now u v None (Some y) c h = absurd c
cut_clear now u v (Some s) None c h = absurd c
cut_clear now u v (Some s) (Some y) c h = ⊎_elim (λ (a : v ≤ s.begin). inl (omega (arith, c.0))) (λ (a : s.end ≤ u). inr (omega (arith, c.1))) h

cut_back : (now m : ℕ) (o p : Option Span) → m ≤ now → CutSpan now o p → IsOver m m p → IsOver m m o
cut_back now m None None late c h = tt
cut_back now m None (Some y) late c h = absurd c
cut_back now m (Some s) None late c h = absurd c
cut_back now m (Some s) (Some y) late c h =
    ⊎_elim (λ (a : m ≤ y.begin). inl (omega (arith, c.0)))
    (λ (a : y.end ≤ m). ⊎_elim (λ (e : y.end ≡ s.end). inr (omega (arith, e))) (λ (l : now < y.end). absurd (omega arith)) c.2) h

cut_begins : (now m : ℕ) (o p : Option Span) → m < now → CutSpan now o p → BeginsIn m o → BeginsIn m p
cut_begins now m None p early c h = absurd h
cut_begins now m (Some s) None early c h = absurd c
cut_begins now m (Some s) (Some y) early c h =
    (c.0 ∙ h.0, let a = c.0 in let b = h.0 in let d = h.1 in ⊎_elim (λ (e : y.end ≡ s.end). omega (arith, a, b, d, e)) (λ (l : now < y.end). omega (arith, a, b, l, early)) c.2)

cut_fills : (delay now : ℕ) (r : Record) (b : Burst) → b.end ≤ now → Fills delay b (Sent r) → Fills delay b (Sent (record r { end = cut_end now r }))
cut_fills delay now r b late f =
    ⊎_elim (λ (same : cut_end now r ≡ r.end). (f.0, f.1 ∙ sym (ap (λ n. n + delay) same), f.2))
    (λ (later : now < cut_end now r). absurd (let g = f.1 in let most : cut_end now r ≤ r.end = omega arith in omega (arith, g, late, later, most))) (cut_bound now r)

cut_one : (x : Ear) (now speaker : ℕ) (e : Entry) → x.since ≤ now → SameEntry x now e (cut_at now speaker e)
cut_one x now speaker e began =
    let cut = cut_span x.delay x.tap x.since now speaker e began in
    let y = cut_at now speaker e in
    record {
      clear = λ u v le late. cut_clear now u v (at_ear x e) (at_ear x y) cut;
      back = λ m late. cut_back now m (at_ear x e) (at_ear x y) late cut;
      begins = λ m early. cut_begins now m (at_ear x e) (at_ear x y) early cut;
      fills = fills e;
    }
  where
    fills : (e : Entry) (b : Burst) → b.end ≤ now → Fills x.delay b e → Fills x.delay b (cut_at now speaker e)
    fills (Noise span) b late f = absurd f
    fills (Sent r) b late f = by_test (λ (z : Record). Fills x.delay b (Sent z)) (r.tap == speaker) (record r { end = cut_end now r }) r (λ _. cut_fills x.delay now r b late f) (λ _. f)

pub same_cut : (x : Ear) (now speaker : ℕ) (es : List Entry) → x.since ≤ now → SameTrace x now es (map (cut_at now speaker) es)
same_cut x now speaker es began = same_pairs x now es _ (pairs_map (SameEntry x now) (cut_at now speaker) es (λ e. cut_one x now speaker e began))

-- ---- a telegram has ended at the taps

relabel_one : (x : Ear) (now : ℕ) (taps : List Tap) (trace : List Entry) (from to : ℕ) (e : Entry) → SameEntry x now e (entry_at x.delay taps trace from to e)
relabel_one x now taps trace from to e =
    let s = (same_entry_at x.delay x.tap x.since taps trace from to e).span in
    record {
      clear = λ u v le late h. subst (IsOver v u) s h;
      back = λ m late h. subst (IsOver m m) (sym s) h;
      begins = λ m early h. subst (BeginsIn m) s h;
      fills = fills e;
    }
  where
    fills : (e : Entry) (b : Burst) → b.end ≤ now → Fills x.delay b e → Fills x.delay b (entry_at x.delay taps trace from to e)
    fills (Noise span) b late f = absurd f
    fills (Sent r) b late f =
        by_test (Fills x.delay b) (ends_between from to (reaches x.delay r)) (Sent (record r { heard = heard_by x.delay trace r 0 taps r.heard })) (Sent r) (λ _. f) (λ _. f)

pub same_relabelled : (x : Ear) (now : ℕ) (taps : List Tap) (trace : List Entry) (from to : ℕ) (es : List Entry) → SameTrace x now es (map (entry_at x.delay taps trace from to) es)
same_relabelled x now taps trace from to es = same_pairs x now es _ (pairs_map (SameEntry x now) (entry_at x.delay taps trace from to) es (relabel_one x now taps trace from to))

-- ---- what begins now

pub new_sent : (x : Ear) (now : ℕ) (r : Record) → now ≤ r.begin → IsNew now (at_ear x (Sent r))
new_sent x now r new = new_span (IsNew now) x.delay x.tap x.since r tt (λ m le e. omega (arith, le, new))

pub new_noise : (x : Ear) (now : ℕ) (span : Span) → now ≤ span.begin → IsNew now (at_ear x (Noise span))
new_noise x now span new = by_test (IsNew now) (nat_lt x.since span.end) (Some (record { begin = max span.begin x.since; end = span.end })) None (λ _. omega (arith, new)) (λ _. tt)

-- ---- a telegram that begins now is lost at a tap

new_back : (now m : ℕ) (o : Option Span) → m ≤ now → IsNew now o → IsOver m m o
new_back now m None late new = tt
new_back now m (Some s) late new = inl (omega (arith, late, new))

never_begins : (now m : ℕ) (o : Option Span) → m < now → IsNew now o → BeginsIn m o → ⊥
never_begins now m None early new b = b
never_begins now m (Some s) early new b = let g = b.0 in omega (arith, early, new, g)

lost_one : (x : Ear) (now tap speaker : ℕ) (e : Entry) → begins_from now speaker e ≡ true → SameEntry x now e (unheard_at tap e)
lost_one x now tap speaker (Noise span) h = same_self x now (Noise span)
lost_one x now tap speaker (Sent r) h =
    let at = eqb-true r.begin now (and_parts (r.tap == speaker) (r.begin == now) h).1 in
    let lost : Record = record r { heard = slice_set r.heard tap Unheard } in
    let was = new_sent x now r (omega (arith, at)) in
    let is = new_sent x now lost (omega (arith, at)) in
    record {
      clear = λ u v le late h. new_clear now u v (at_ear x (Sent lost)) late is;
      back = λ m late h. new_back now m (at_ear x (Sent r)) late was;
      begins = λ m early b. absurd (never_begins now m (at_ear x (Sent r)) early was b);
      fills = λ b late f. f;
    }

pub same_lost : (x : Ear) (now tap speaker : ℕ) (es : List Entry) → SameTrace x now es (change_first (begins_from now speaker) (unheard_at tap) es)
same_lost x now tap speaker es = same_pairs x now es _ (pairs_change (SameEntry x now) (begins_from now speaker) (unheard_at tap) es (same_self x now) (λ e h. lost_one x now tap speaker e h))
