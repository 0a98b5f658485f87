-- Time passes: all running taps of the world.
use Rattle.std.proofs.Common.{◌≡◌, ℕ, zero, suc, ◌+◌, ◌<◌, ◌≤◌, Bool, true, false, if◌then◌else◌, ◌==◌, ◌||◌, List, [], ◌∷◌, ◌++◌, map, refl, sym, ap, ◌∙◌, subst, arith, Option, Some, None}
use Rattle.std.specs.Prelude.{slice_get, find, IfSome}
use Rattle.std.specs.List.{list_any}
use Rattle.std.specs.Option.{option_and_then, option_map}
use Rattle.std.proofs.lemmas.Option.{none-some, same_Some}
use Rattle.pb_timers.specs.Timers.{Params}
use Rattle.law_turn.specs.Phases.{Phase}
use Rattle.law_model.specs.Trace.{Heard, Own, Whole, Damaged, Unheard, Pending, Record, Entry, Sent, Noise}
use Rattle.law_model.specs.Medium.{Tap, part_after, reaches, is_unheard, new_marks, is_whole_at, heard_in_the_end, heard_by, ends_between, entry_at, sensed, begins_in}
use Rattle.law_model.specs.World.{next_end_of}
use Rattle.law_model.specs.Step.{is_past, told}
use Rattle.law_model.proofs.Cases.{by_test}
use Rattle.law_runs.specs.Initiators.{offered_to}
use Rattle.law_runs.specs.Legality.{is_whole}
use Rattle.law_runs.specs.Premises.{is_late}
use Rattle.law_token.specs.Lists.{Each, In}
use Rattle.law_token.specs.Places.{LeavesTime}
use Rattle.law_token.specs.Views.{view, place, TapHolds, IsOn}
use Rattle.law_token.specs.Entries.{AllOthers}
use Rattle.law_token.proofs.pass.Alike.{SameTo, same_to, alike_self, alike_map, SameLast, tap_alike}
use Rattle.law_token.proofs.pass.Taps.{pass_tap, knows_on, phase_at}
use Rattle.law_token.proofs.pass.Brings.{HasLength, solid_sensed, relabel, relabelled, Tells, brings}

-- ---- the entries as a pass leaves them

unheard_in_the_end : (b : Bool) (h : Heard) → is_unheard (Some (heard_in_the_end b h)) ≡ is_unheard (Some h)
unheard_in_the_end true Pending = refl
unheard_in_the_end false Pending = refl
unheard_in_the_end b Own = refl
unheard_in_the_end b Whole = refl
unheard_in_the_end b Damaged = refl
unheard_in_the_end b Unheard = refl

pub unheard_by : (delay : ℕ) (trace : List Entry) (r : Record) (k i : ℕ) (ts : List Tap) (hs : List Heard) → is_unheard (slice_get hs i) ≡ is_unheard (slice_get (heard_by delay trace r k ts hs) i)
unheard_by delay trace r k i [] hs = refl
unheard_by delay trace r k i (t ∷ ts) [] = refl
unheard_by delay trace r k zero (t ∷ ts) (h ∷ hs) = sym (unheard_in_the_end (is_whole_at delay k t trace r) h)
unheard_by delay trace r k (suc i) (t ∷ ts) (h ∷ hs) = unheard_by delay trace r (k + 1) i ts hs

whole_in_the_end : (b : Bool) (h : Heard) → is_whole (Some h) ≡ true → is_whole (Some (heard_in_the_end b h)) ≡ true
whole_in_the_end b Whole e = refl
whole_in_the_end b Own e = absurd cc
whole_in_the_end b Damaged e = absurd cc
whole_in_the_end b Unheard e = absurd cc
whole_in_the_end b Pending e = absurd cc

pub whole_by : (delay : ℕ) (trace : List Entry) (r : Record) (k i : ℕ) (ts : List Tap) (hs : List Heard) → is_whole (slice_get hs i) ≡ true → is_whole (slice_get (heard_by delay trace r k ts hs) i) ≡ true
whole_by delay trace r k i [] hs e = e
whole_by delay trace r k i (t ∷ ts) [] e = absurd cc
whole_by delay trace r k zero (t ∷ ts) (h ∷ hs) e = whole_in_the_end (is_whole_at delay k t trace r) h e
whole_by delay trace r k (suc i) (t ∷ ts) (h ∷ hs) e = whole_by delay trace r (k + 1) i ts hs e

same_relabelled : (delay tap since : ℕ) (taps : List Tap) (trace : List Entry) (r : Record) → SameTo delay tap since (Sent r) (Sent (relabelled delay taps trace r))
same_relabelled delay tap since taps trace r = record {
  span = ap (λ b. option_and_then (part_after since) (if r.tap == tap || b then None else Some (reaches delay r))) (unheard_by delay trace r 0 tap taps r.heard);
  init = λ q h. h;
  init_back = λ q h. h;
  own = λ o h. h;
  sends = λ s. refl;
}

pub same_entry_at : (delay tap since : ℕ) (taps : List Tap) (trace : List Entry) (now to : ℕ) (e : Entry) → SameTo delay tap since e (entry_at delay taps trace now to e)
same_entry_at delay tap since taps trace now to (Noise span) = same_to delay tap since (Noise span)
same_entry_at delay tap since taps trace now to (Sent r) =
    by_test (SameTo delay tap since (Sent r)) (ends_between now to (reaches delay r)) (Sent (relabelled delay taps trace r)) (Sent r)
    (λ _. same_relabelled delay tap since taps trace r) (λ _. same_to delay tap since (Sent r))

held_relabel : (delay : ℕ) (taps : List Tap) (trace : List Entry) (now to : ℕ) (last : Option Record) (k a : ℕ) → SameLast delay last (option_map (relabel delay taps trace now to) last) k a
held_relabel delay taps trace now to None k a = record { held = λ own h. h; taken = λ at h. h; offers = λ own h. h }
held_relabel delay taps trace now to (Some l) k a =
    by_test (λ x. SameLast delay (Some l) (Some x) k a) (ends_between now to (reaches delay l)) (relabelled delay taps trace l) l
    (λ _. record {
      held = λ own h. let e = same_Some l h.r h.is in
          record { r = relabelled delay taps trace l; is = refl; by = ap (λ (r : Record). r.tap) e ∙ h.by; begin = ap (λ (r : Record). r.begin) e ∙ h.begin; end = ap (λ (r : Record). r.end) e ∙ h.end; no_offer = ap offered_to e ∙ h.no_offer };
      taken = λ at h. let e = same_Some l h.r h.is in
          record {
            r = relabelled delay taps trace l;
            is = refl;
            another = λ z. h.another (sym (ap (λ (r : Record). r.tap) e) ∙ z);
            offers = ap offered_to e ∙ h.offers;
            whole = whole_by delay trace l 0 k taps l.heard (ap (λ (r : Record). is_whole (slice_get r.heard k)) e ∙ h.whole);
            heard_at = h.heard_at ∙ ap (λ (r : Record). r.end + delay) (sym e);
          };
      offers = λ own h. let e = same_Some l h.r h.is in
          record { r = relabelled delay taps trace l; to = h.to; is = refl; by = ap (λ (r : Record). r.tap) e ∙ h.by; begin = ap (λ (r : Record). r.begin) e ∙ h.begin; end = ap (λ (r : Record). r.end) e ∙ h.end; offers = ap offered_to e ∙ h.offers };
    })
    (λ _. record { held = λ own h. h; taken = λ at h. h; offers = λ own h. h })

-- ---- the taps

-- what was there before a tap has its new marks
pub record Before (delay : ℕ) (trace : List Entry) (from to n : ℕ) (ts : List Tap) (i : ℕ) (x : Tap) : Type 0 where
  pub t : Tap
  pub here : slice_get ts i ≡ Some t
  pub is : x ≡ record t { marks = t.marks ++ new_marks delay n t trace from to }

pub told_at : (delay : ℕ) (trace : List Entry) (from to k n : ℕ) (ts : List Tap) (i : ℕ) (x : Tap) → n ≡ k + i → slice_get (told delay trace from to k ts) i ≡ Some x → Before delay trace from to n ts i x
told_at delay trace from to k n [] i x e h = absurd (none-some x h)
told_at delay trace from to k n (t ∷ ts) zero x e h =
    record { t = t; here = refl; is = sym (same_Some (record t { marks = t.marks ++ new_marks delay k t trace from to }) x h) ∙ ap (λ (m : ℕ). record t { marks = t.marks ++ new_marks delay m t trace from to }) (let z : k ≡ n = omega arith in z) }
told_at delay trace from to k n (t ∷ ts) (suc i) x e h =
    let b = told_at delay trace from to (k + 1) n ts i x (omega (arith, e)) h in record { t = b.t; here = b.here; is = b.is }

pub any_at : {X : Type 0} (test : X → Bool) (xs : List X) (i : ℕ) (x : X) → list_any test xs ≡ false → slice_get xs i ≡ Some x → test x ≡ false
any_at {X} test [] i x e h = absurd (none-some x h)
any_at {X} test (y ∷ ys) zero x e h = subst (λ z. test z ≡ false) (same_Some y x h) (first (test y) e)
  where
    first : (b : Bool) → (b || list_any test ys) ≡ false → b ≡ false
    first true e = absurd cc
    first false e = refl
any_at {X} test (y ∷ ys) (suc i) x e h = any_at test ys i x (rest (test y) e) h
  where
    rest : (b : Bool) → (b || list_any test ys) ≡ false → list_any test ys ≡ false
    rest true e = absurd cc
    rest false e = e

-- the phase in which a tap reads an End of a pass
abbrev pub phase_then : Params → ℕ → ℕ → List Entry → ℕ → Tap → Phase
phase_then p now to trace k t = phase_at (place p now k t) to (view p t) (view p t).phase (view p t).busy (find (begins_in (sensed p.ttd k t.since trace) now to) (sensed p.ttd k t.since trace))

-- every running tap; that marks leave a station its address is a lemma of law_turn
pub pass_taps : ((p : Params) (t : Tap) → (view p t).address ≡ t.station.address) → (p : Params) (now to : ℕ) (trace : List Entry) (taps : List Tap) (last : Option Record) → LeavesTime p → now < to → Each HasLength trace → AllOthers trace → is_past (next_end_of p.ttd now trace) to ≡ false
    → list_any (is_late p to) taps ≡ false → IfSome last (λ l. In (Sent l) trace × (l.begin ≤ now))
    → ((k : ℕ) (t : Tap) → slice_get taps k ≡ Some t → t.running ≡ true → TapHolds p now trace last k t × Each (Tells p now trace last k t (phase_then p now to trace k t)) trace)
    → (k : ℕ) (x : Tap) → slice_get (told p.ttd trace now to 0 taps) k ≡ Some x → x.running ≡ true → TapHolds p to (map (entry_at p.ttd taps trace now to) trace) (option_map (relabel p.ttd taps trace now to) last) k x
pass_taps same_address p now to trace taps last fits lt some others past late inside each k x at running =
    let b = told_at p.ttd trace now to 0 k taps k x (omega arith) at in
    let t = b.t in
    let run : t.running ≡ true = sym (ap (λ (z : Tap). z.running) b.is) ∙ running in
    let h = each k t b.here run in
    let last' = option_map (relabel p.ttd taps trace now to) last in
    let o : TapHolds p now trace last' k t = tap_alike p now trace trace last last' k t (alike_self p.ttd k t.since trace) (held_relabel p.ttd taps trace now to last k t.spec.address) h.0 in
    let trace' = map (entry_at p.ttd taps trace now to) trace in
    let bring = λ (on : IsOn (view p t).phase).
    let kn = knows_on (place p now k t) trace (view p t).phase (view p t).busy (view p t).quiet (view p t).own on h.0.knows in
    brings p now to k (view p t).address trace taps last t (view p t).own (phase_then p now to trace k t) kn.begun lt b.here (same_address p t ∙ h.0.address) others h.1 inside kn.sent in
    subst (λ z. TapHolds p to trace' last' k z) (sym b.is)
    (tap_alike p to trace trace' last' last' k (record t { marks = t.marks ++ new_marks p.ttd k t trace now to }) (alike_map p.ttd k t.since (entry_at p.ttd taps trace now to) trace (same_entry_at p.ttd k t.since taps trace now to))
    (record { held = λ own g. g; taken = λ at g. g; offers = λ own g. g })
    (pass_tap p now to trace last' k t fits lt run (solid_sensed p.ttd k t.since now to trace some past) (any_at (is_late p to) taps k t late b.here) bring o))
