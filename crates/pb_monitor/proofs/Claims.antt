-- A claim of the trace is one for the listener.
use Rattle.std.proofs.Common.{◌≡◌, ℕ, ◌+◌, ◌-◌, ◌*◌, ◌<◌, ◌≤◌, ◌⊎◌, inl, inr, ⊎_elim, Bool, true, false, if◌then◌else◌, not, ◌==◌, ◌&&◌, ◌||◌, List, [], ◌∷◌, refl, sym, ap, ◌∙◌, arith}
use Rattle.std.specs.Prelude.{nat_lt, nat_le}
use Rattle.std.specs.List.{list_any}
use Rattle.std.proofs.lemmas.Bool.{ltb-false, lt-ltb, le-leb, leb-false, eq-eqb, or_parts, cases_lt}
use Rattle.pb_timers.specs.Timers.{Params, tto}
use Rattle.law_turn.specs.Arrivals.{Arrival}
use Rattle.law_model.specs.Trace.{Entry, Sent, Noise, entry_begin, entry_end}
use Rattle.law_model.specs.Medium.{reaches, reaches_taps}
use Rattle.law_runs.specs.Activity.{active_at, is_within, is_silent}
use Rattle.law_runs.specs.Judging.{IsOrderedFrom}
use Rattle.pb_monitor.specs.Captures.{Burst, IsClear, AllClear, IsSolid}
use Rattle.pb_monitor.specs.declared.states.State.{State}
use Rattle.pb_monitor.specs.Meanings.{source_of, is_claim_like, initiator_of}
use Rattle.pb_monitor.specs.Judge.{may_claim, may_be_timeout, is_kept, silence_before, behind, listening}

outside : (b e from to : ℕ) → (nat_lt b to && nat_lt from e) ≡ false → (e ≤ from) ⊎ (to ≤ b)
outside b e from to h = by (nat_lt b to) refl h
  where
    by : (z : Bool) → nat_lt b to ≡ z → (z && nat_lt from e) ≡ false → (e ≤ from) ⊎ (to ≤ b)
    by true w i = inl (ltb-false from e i)
    by false w i = inr (ltb-false b to w)

-- where a tap has silence, a listener has it a cable delay later at the latest, up to the same moment
clear_one : (delay tap from to : ℕ) (e : Entry) → is_within from to (active_at delay tap e) ≡ false → IsClear (from + delay) to (reaches_taps delay e)
clear_one delay tap from to (Noise span) h = ⊎_elim (λ (a : span.end ≤ from). inl (omega (arith, a))) (λ (b : to ≤ span.begin). inr b) (outside span.begin span.end from to h)
clear_one delay tap from to (Sent r) h = by (r.tap == tap) h
  where
    by : (z : Bool) → is_within from to (if z then record { begin = r.begin; end = r.end } else reaches delay r) ≡ false → IsClear (from + delay) to (reaches delay r)
    by true i = ⊎_elim (λ (a : r.end ≤ from). inl (omega (arith, a))) (λ (b : to ≤ r.begin). inr (omega (arith, b))) (outside r.begin r.end from to i)
    by false i = ⊎_elim (λ (a : r.end + delay ≤ from). inl (omega (arith, a))) (λ (b : to ≤ r.begin + delay). inr b) (outside (r.begin + delay) (r.end + delay) from to i)

clear_all : (delay tap from to : ℕ) (es : List Entry) → list_any (λ e. is_within from to (active_at delay tap e)) es ≡ false → AllClear delay (from + delay) to es
clear_all delay tap from to [] h = tt
clear_all delay tap from to (e ∷ es) h = by (is_within from to (active_at delay tap e)) refl h (clear_all delay tap from to es)
  where
    by : (z : Bool) → is_within from to (active_at delay tap e) ≡ z → (z || list_any (λ e. is_within from to (active_at delay tap e)) es) ≡ false
        → (list_any (λ e. is_within from to (active_at delay tap e)) es ≡ false → AllClear delay (from + delay) to es) → AllClear delay (from + delay) to (e ∷ es)
    by true w i rec = absurd cc
    by false w i rec = (clear_one delay tap from to e w, rec i)

unnot : (b : Bool) → not b ≡ true → b ≡ false
unnot true e = absurd cc
unnot false e = refl

-- and the same since a later moment; nothing ends before the first moment of all
clear_one_since : (delay tap from since to : ℕ) (e : Entry) → entry_begin e < entry_end e → (from + delay ≤ since) ⊎ (from ≡ 0) → is_within from to (active_at delay tap e) ≡ false → IsClear since to (reaches_taps delay e)
clear_one_since delay tap from since to (Noise span) some start h =
    ⊎_elim (λ (a : span.end ≤ from). inl (⊎_elim (λ (l : from + delay ≤ since). omega (arith, a, l)) (λ (z : from ≡ 0). absurd (omega (arith, a, z, some))) start)) (λ (b : to ≤ span.begin). inr b)
    (outside span.begin span.end from to h)
clear_one_since delay tap from since to (Sent r) some start h = by (r.tap == tap) h
  where
    by : (z : Bool) → is_within from to (if z then record { begin = r.begin; end = r.end } else reaches delay r) ≡ false → IsClear since to (reaches delay r)
    by true i =
        ⊎_elim (λ (a : r.end ≤ from). inl (⊎_elim (λ (l : from + delay ≤ since). omega (arith, a, l)) (λ (z : from ≡ 0). absurd (omega (arith, a, z, some))) start)) (λ (b : to ≤ r.begin). inr (omega (arith, b)))
        (outside r.begin r.end from to i)
    by false i =
        ⊎_elim (λ (a : r.end + delay ≤ from). inl (⊎_elim (λ (l : from + delay ≤ since). omega (arith, a, l)) (λ (z : from ≡ 0). absurd (omega (arith, a, z, some))) start)) (λ (b : to ≤ r.begin + delay). inr b)
        (outside (r.begin + delay) (r.end + delay) from to i)

clear_since : (delay tap from since to m : ℕ) (es : List Entry) → IsOrderedFrom m es → (from + delay ≤ since) ⊎ (from ≡ 0) → list_any (λ e. is_within from to (active_at delay tap e)) es ≡ false → AllClear delay since to es
clear_since delay tap from since to m [] order start h = tt
clear_since delay tap from since to m (e ∷ es) order start h =
    let b = or_parts (is_within from to (active_at delay tap e)) (list_any (λ e. is_within from to (active_at delay tap e)) es) h in
    (clear_one_since delay tap from since to e order.1 start b.0, clear_since delay tap from since to (entry_begin e) es order.2 start b.1)

-- What the judge knows of silence by a moment, if a listener hears all a delay later: a stretch without anything that may
-- be a time-out ends no later than the silence that is kept, and begins no sooner, as long as a claim may come after it.
-- So does one of any length in which listening began, if it began no sooner.
pub record Silences (p : Params) (delay since : ℕ) (trace : List Entry) (j : State) (m : ℕ) : Type 0 where
  pub long : (u v : ℕ) → since ≤ u → u < v → u + 6 * p.tsl ≤ v + p.ttd → v ≤ m → AllClear delay u v trace → (v ≤ j.silent_to) × (m ≤ v + p.ttd → j.silent_from ≤ u)
  pub early : (v : ℕ) → since ≤ v → v ≤ m → (since < v → AllClear delay since v trace) → (v ≤ j.silent_to) × (m ≤ v + p.ttd → j.silent_from ≤ since)
  pub started : since ≤ m
  pub from : j.silent_from ≤ m
  pub to : j.silent_to ≤ m

or_true : (b c : Bool) → c ≡ true → (b || c) ≡ true
or_true true c e = refl
or_true false c e = e

-- A claim at the end of a silence that may be its time-out.
pub claim_fits : (p : Params) (slack since : ℕ) (j : State) (begin : ℕ) (a : Arrival) → is_claim_like a ≡ true → begin ≤ j.silent_to + p.ttd
    → ((j.silent_from ≤ since) × (begin < since + (p.ttd + tto p (source_of a)))) ⊎ (j.silent_from + tto p (source_of a) ≤ begin) → may_claim p slack since j begin (initiator_of a) ≡ true
claim_fits p slack since j begin a claims late fit =
    ap (λ b. b && (nat_le begin (j.silent_to + (p.ttd + slack)) && ((nat_le j.silent_from since && Soon) || Long))) claims
    ∙ ap (λ b. b && ((nat_le j.silent_from since && Soon) || Long)) (le-leb begin (j.silent_to + (p.ttd + slack)) (omega (arith, late)))
    ∙ ⊎_elim
    (λ (e : (j.silent_from ≤ since) × (begin < since + (p.ttd + tto p (source_of a)))).
    ap (λ b. (b && Soon) || Long) (le-leb j.silent_from since e.0) ∙ ap (λ b. b || Long) (lt-ltb begin (since + (p.ttd + tto p (source_of a) + slack)) (soon (tto p (source_of a)) e.1)))
    (λ (l : j.silent_from + tto p (source_of a) ≤ begin). or_true (nat_le j.silent_from since && Soon) Long (le-leb (j.silent_from + tto p (source_of a)) (begin + slack) (over (tto p (source_of a)) l))) fit
  where
    Soon : Bool
    Soon = nat_lt begin (since + (p.ttd + tto p (source_of a) + slack))

    Long : Bool
    Long = nat_le (j.silent_from + tto p (source_of a)) (begin + slack)

    soon : (n : ℕ) → begin < since + (p.ttd + n) → begin < since + (p.ttd + n + slack)
    soon n e = omega (arith, e)

    over : (n : ℕ) → j.silent_from + n ≤ begin → j.silent_from + n ≤ begin + slack
    over n l = omega (arith, l)

-- Where a listener has had silence since it began, up to a cable delay ago.
pub so_far : (p : Params) (delay since : ℕ) (trace : List Entry) (j : State) (v m : ℕ) → Silences p delay since trace j m → v ≤ m → m ≤ v + p.ttd → (since < v → AllClear delay since v trace) → (v ≤ j.silent_to) × (j.silent_from ≤ since)
so_far p delay since trace j v m s before near clear = ⊎_elim
    (λ (l : since < v). let h = s.early v (omega (arith, l)) before clear in (h.0, h.1 near))
    (λ (l : v ≤ since). let h = s.early since (omega arith) s.started (λ (w : since < since). absurd (omega (arith, w))) in let t = h.0 in (omega (arith, l, t), h.1 (omega (arith, l, near)))) (cases_lt since v)

-- A claim, before which a tap had silence for its time-out.
pub claim_is_one : (p : Params) (slack since : ℕ) (trace : List Entry) (j : State) (tap begin : ℕ) (a : Arrival) → 2 * p.ttd < p.tsl → 6 * p.tsl ≤ tto p (source_of a) → IsOrderedFrom 0 trace
    → Silences p p.ttd since trace j (begin + p.ttd) → is_claim_like a ≡ true
    → is_silent p.ttd tap trace (begin - tto p (source_of a)) begin ≡ true → may_claim p slack since j (begin + p.ttd) (initiator_of a) ≡ true
claim_is_one p slack since trace j tap begin a short least order s claims silent = by (tto p (source_of a)) least none (claim_fits p slack since j (begin + p.ttd) a claims)
  where
    none : list_any (λ e. is_within (begin - tto p (source_of a)) begin (active_at p.ttd tap e)) trace ≡ false
    none = unnot (list_any (λ e. is_within (begin - tto p (source_of a)) begin (active_at p.ttd tap e)) trace) silent

    by : (n : ℕ) → 6 * p.tsl ≤ n → list_any (λ e. is_within (begin - n) begin (active_at p.ttd tap e)) trace ≡ false
        → (begin + p.ttd ≤ j.silent_to + p.ttd → ((j.silent_from ≤ since) × (begin + p.ttd < since + (p.ttd + n))) ⊎ (j.silent_from + n ≤ begin + p.ttd) → may_claim p slack since j (begin + p.ttd) (initiator_of a) ≡ true)
        → may_claim p slack since j (begin + p.ttd) (initiator_of a) ≡ true
    by n least none fits = ⊎_elim
        (λ (first : begin < n). soon (omega (arith, first)) (inr (omega (arith, first))))
        (λ (room : n ≤ begin). ⊎_elim
        (λ (early : begin + p.ttd < since + n). soon (omega (arith, early)) (inl (omega (arith, early, room))))
        (λ (late : since + n ≤ begin + p.ttd).
        let h = s.long (begin - n + p.ttd) begin (omega (arith, late, room)) (omega (arith, short, least, room)) (omega (arith, least, room)) (omega arith) (clear_all p.ttd tap (begin - n) begin trace none) in
        let t = h.0 in
        let f = h.1 (omega arith) in
        fits (omega (arith, t)) (inr (omega (arith, f, room)))) (cases_lt (begin + p.ttd) (since + n))) (cases_lt begin n)
      where
        soon : begin < since + n → (begin - n + p.ttd ≤ since) ⊎ (begin - n ≡ 0) → may_claim p slack since j (begin + p.ttd) (initiator_of a) ≡ true
        soon l start =
            let h = so_far p p.ttd since trace j begin (begin + p.ttd) s (omega arith) (omega arith) (λ _. clear_since p.ttd tap (begin - n) since begin 0 trace order start none) in
            let t = h.0 in
            fits (omega (arith, t)) (inl (h.1, omega (arith, l)))

-- ---- it knows so burst by burst

-- where the last end is that of a burst, or since when the listener listens, nothing that lies about it is clear
abbrev pub EndsSolid : (delay since : ℕ) → List Entry → ℕ → Type 0
EndsSolid delay since trace q = (u v : ℕ) → since ≤ u → u < q → q < v → AllClear delay u v trace → ⊥

pub silences_before : (p : Params) (slack delay since : ℕ) (trace : List Entry) (j : State) (begin : ℕ) → since ≤ j.quiet → j.quiet ≤ begin → EndsSolid delay since trace j.quiet
    → Silences p delay since trace j j.quiet → Silences p delay since trace (silence_before p slack j begin) begin
silences_before p slack delay since trace j begin start late solid s = by (is_kept p slack j begin) refl (nat_le begin (j.silent_to + (p.ttd + slack))) refl
  where
    -- a stretch that goes on behind the last end begins no sooner
    behind_it : (u v : ℕ) → since ≤ u → j.quiet < v → AllClear delay u v trace → j.quiet ≤ u
    behind_it u v a past clear = ⊎_elim (λ (early : u < j.quiet). absurd (solid u v a early past clear)) (λ (l : j.quiet ≤ u). l) (cases_lt u j.quiet)

    -- if it is one in which listening began, nothing has come yet
    none_yet : (v : ℕ) → j.quiet < v → (since < v → AllClear delay since v trace) → j.quiet ≤ since
    none_yet v past clear = behind_it since v (omega arith) past (clear (omega (arith, start, past)))

    is_at : (q t : ℕ) → (q == t) ≡ false → q ≡ t → ⊥
    is_at q t off at = let w : true ≡ false = sym (eq-eqb q t at) ∙ off in cc

    by : (c : Bool) → is_kept p slack j begin ≡ c → (d : Bool) → nat_le begin (j.silent_to + (p.ttd + slack)) ≡ d
        → Silences p delay since trace (if c then record j { silent_from = if d then j.silent_from else j.quiet; silent_to = begin } else j) begin
    by true w true y = record {
      long = λ u v a some len h clear. (
        h,
        λ near. ⊎_elim
            (λ (past : j.quiet < v). let l = behind_it u v a past clear in let f = s.from in omega (arith, l, f))
            (λ (in_time : v ≤ j.quiet). (s.long u v a some len in_time clear).1 (omega (arith, late, near))) (cases_lt j.quiet v),
      );
      early = λ v a h clear. (
        h,
        λ near. ⊎_elim
            (λ (past : j.quiet < v). let l = none_yet v past clear in let f = s.from in omega (arith, l, f))
            (λ (in_time : v ≤ j.quiet). (s.early v a in_time clear).1 (omega (arith, late, near))) (cases_lt j.quiet v),
      );
      started = omega (arith, start, late);
      from = let f = s.from in omega (arith, f, late);
      to = omega arith;
    }
    by true w false y = let z = leb-false begin (j.silent_to + (p.ttd + slack)) y in record {
      long = λ u v a some len h clear. (
        h,
        λ near. ⊎_elim
            (λ (past : j.quiet < v). behind_it u v a past clear)
            (λ (in_time : v ≤ j.quiet). let t = (s.long u v a some len in_time clear).0 in absurd (omega (arith, z, near, t))) (cases_lt j.quiet v),
      );
      early = λ v a h clear. (
        h,
        λ near. ⊎_elim
            (λ (past : j.quiet < v). none_yet v past clear)
            (λ (in_time : v ≤ j.quiet). let t = (s.early v a in_time clear).0 in absurd (omega (arith, z, near, t))) (cases_lt j.quiet v),
      );
      started = omega (arith, start, late);
      from = late;
      to = omega arith;
    }
    by false w d y =
        let parts = or_parts (j.quiet == j.silent_to) (may_be_timeout p slack j.quiet begin) w in
        let z = leb-false (j.quiet + 6 * p.tsl) (begin + (p.ttd + slack)) parts.1 in record {
          long = λ u v a some len h clear. ⊎_elim
              (λ (past : j.quiet < v). let l = behind_it u v a past clear in absurd (omega (arith, l, len, h, z)))
              (λ (in_time : v ≤ j.quiet). let t = s.long u v a some len in_time clear in (t.0, λ near. t.1 (omega (arith, late, near)))) (cases_lt j.quiet v);
          early = λ v a h clear. ⊎_elim
              (λ (past : j.quiet < v).
              let l = none_yet v past clear in
              let t = (s.early since (omega arith) start (λ (x : since < since). absurd (omega (arith, x)))).0 in
              let u = s.to in absurd (is_at j.quiet j.silent_to parts.0 (omega (arith, l, t, u))))
              (λ (in_time : v ≤ j.quiet). let t = s.early v a in_time clear in (t.0, λ near. t.1 (omega (arith, late, near)))) (cases_lt j.quiet v);
          started = omega (arith, start, late);
          from = let f = s.from in omega (arith, f, late);
          to = let t = s.to in omega (arith, t, late);
        }

pub silences_behind : (p : Params) (slack delay since : ℕ) (trace : List Entry) (j : State) (b : Burst) → since ≤ j.quiet → j.quiet ≤ b.begin → b.begin < b.end → EndsSolid delay since trace j.quiet → IsSolid delay trace b
    → Silences p delay since trace j j.quiet → Silences p delay since trace (behind p slack j b) b.end
silences_behind p slack delay since trace j b start late some solid full s =
    let t = silences_before p slack delay since trace j b.begin start late solid s in record {
      long = λ u v a len time h clear. ⊎_elim (λ (past : b.begin < v). absurd (full u v len (omega (arith, len, h)) past clear))
          (λ (in_time : v ≤ b.begin). let r = t.long u v a len time in_time clear in (r.0, λ near. r.1 (omega (arith, some, near)))) (cases_lt b.begin v);
      early = λ v a h clear. ⊎_elim (λ (past : b.begin < v). absurd (full since v (omega (arith, start, late, past)) (omega (arith, start, late, some)) past (clear (omega (arith, start, late, past)))))
          (λ (in_time : v ≤ b.begin). let r = t.early v a in_time clear in (r.0, λ near. r.1 (omega (arith, some, near)))) (cases_lt b.begin v);
      started = omega (arith, start, late, some);
      from = let z = t.from in omega (arith, z, some);
      to = let z = t.to in omega (arith, z, some);
    }

-- and the end of a burst is one of those about which nothing is clear
pub burst_ends_solid : (delay since : ℕ) (trace : List Entry) (b : Burst) → b.begin < b.end → IsSolid delay trace b → EndsSolid delay since trace b.end
burst_ends_solid delay since trace b some full u v a early late clear = full u v (omega (arith, early, late)) early (omega (arith, some, late)) clear

pub start_is_solid : (delay since : ℕ) (trace : List Entry) → EndsSolid delay since trace since
start_is_solid delay since trace u v a early late clear = omega (arith, a, early)

pub nothing_yet : (p : Params) (delay since : ℕ) (trace : List Entry) → Silences p delay since trace (listening since) since
nothing_yet p delay since trace = record {
  long = λ u v a some len h clear. absurd (omega (arith, a, some, h));
  early = λ v a h clear. (h, λ near. omega arith);
  started = omega arith;
  from = omega arith;
  to = omega arith;
}
