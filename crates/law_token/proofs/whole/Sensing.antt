-- What every event keeps of what a running tap feels of the bus, whatever the premises: so one that is busy says nothing, and one that answers no requests keeps no reply.
use Rattle.std.proofs.Common.{◌≡◌, ℕ, zero, suc, ◌+◌, ◌<◌, ◌≤◌, ⊎_elim, Bool, true, false, if◌then◌else◌, not, ◌==◌, ◌&&◌, ◌||◌, List, [], ◌∷◌, ◌++◌, length, map, refl, sym, ap, ◌∙◌, subst, arith, Option, Some, None, Ok}
use Rattle.std.specs.Prelude.{slice_get, slice_set, nat_le, is_some, is_none, find}
use Rattle.std.specs.List.{list_any}
use Rattle.std.proofs.lemmas.Bool.{eqb-false}
use Rattle.std.proofs.lemmas.Option.{none-some, same_Some}
use Rattle.pb_timers.specs.Timers.{Params}
use Rattle.pb_cycles.specs.RequestFields.{RequestFields}
use Rattle.law_turn.specs.Spans.{Span}
use Rattle.law_turn.specs.Laws.{IsSilentWhileBusy}
use Rattle.law_turn.specs.Marks.{Mark, Begin, End, Alternates}
use Rattle.law_turn.specs.Phases.{Phase, Offline, PassiveIdle, Listening, Idle, Claim, Use, AwaitData, AwaitStatus, Pass as Passing, Checking, is_offline}
use Rattle.law_turn.specs.Stations.{Station, list_for, queued, pushed}
use Rattle.law_turn.specs.Hearing.{after_timer, after_mark, heard}
use Rattle.law_turn.specs.Turns.{after_marks, turn_of}
use Rattle.law_turn.proofs.Busy.{silent-after_marks, silent-turn_of, silent-started, silent-pushed, busy-turn_of}
use Rattle.law_turn.proofs.Moments.{after_marks-is_offline}
use Rattle.law_turn.proofs.Noting.{end-busy}
use Rattle.law_turn.proofs.Initiating.{fits-turn_of}
use Rattle.law_model.specs.Trace.{Hit, Entry, Sent, with_entry, cut_at, is_noise_at, noisy_until, begins_from, unheard_at}
use Rattle.law_model.specs.Trace as trace
use Rattle.law_model.specs.Medium.{TapSpec, Tap, sensed, begins_in, ends_in, marks_between, new_marks, entry_at}
use Rattle.law_model.specs.World.{World, Event, Turn, Pass, Damage, Start, Stop, Queue, Noise, Unheard, Reply, Fault, unless, NoSuchTap, Running, NotRunning, NothingInAir, ZeroTime, QueueFull, TraceFull, queue_limit, is_in_air_by, stopped_tap, IsNewWorld, new_faults}
use Rattle.law_model.specs.Step.{sending, with_said, step_turn, told, pass_faults, with_hit, change_first, has_place, started_tap, step_start, halted, step_stop, step_queue, with_noise, is_noisy, step, RunsTo}
use Rattle.law_model.specs.Laws.{AllBegun, AreEvents}
use Rattle.law_model.proofs.Worlds.{unless-Ok, begun-with_said, begun-entry_at, begun-change_first, begun-cut_at, begun-with_noise, lengthens-with_hit, lengthens-unheard_at}
use Rattle.law_token.specs.Places.{heard_span, IsOver, Place}
use Rattle.law_token.specs.Views.{place, view, IsOn}
use Rattle.law_token.specs.Invariant.{Settled}
use Rattle.law_token.specs.Runs.{IsTapAfter}
use Rattle.law_token.proofs.bus.Lists.{each_all, at_set}
use Rattle.law_token.proofs.bus.Hearers.{new_sent, new_noise, new_over}
use Rattle.law_token.proofs.air.FreshTap.{span_new}
use Rattle.law_token.proofs.air.Waiting.{marks_queue}
use Rattle.law_token.proofs.pass.Brings.{solid_sensed}
use Rattle.law_token.proofs.pass.AllTaps.{told_at}
use Rattle.law_model.proofs.Window.{EachSpan, Solid, WindowOf, window}
use Rattle.law_token.proofs.pass.Marks.{later}
use Rattle.law_token.proofs.pass.Taps.{over_to, over_of, over_in, none_in, append_marks, then_busy, alternate_in, offline_after}
use Rattle.law_token.proofs.turn.Initiator.{over_later}
use Rattle.law_token.proofs.bus.Live.{on_or_off}
use Rattle.law_token.proofs.quiet.Alert.{Feels, SameFor, feels_same, feels_spans, same_with, on_both}
use Rattle.law_token.proofs.quiet.SameEntries.{same_hit, same_noisy, same_cut, same_relabelled, same_lost}
use Rattle.law_token.proofs.quiet.Watched.{each_long}
use Rattle.law_token.proofs.whole.Stays.{new_params, same_bus, settled_new, settled_step}

-- what a running tap feels of the bus once it has read its unread marks
pub record Hears (p : Params) (now : ℕ) (trace : List Entry) (k : ℕ) (t : Tap) : Type 0 where
  pub began : t.since ≤ now
  pub feels : IsOn (view p t).phase → Feels (place p now k t) trace (view p t).busy
  pub silent : IsSilentWhileBusy (view p t)
  pub silent_now : IsSilentWhileBusy t.station

-- another trace that is to the tap as this one
hears_same : (p : Params) (now : ℕ) (trace other : List Entry) (k : ℕ) (t : Tap) → SameFor (place p now k t) trace other → Hears p now trace k t → Hears p now other k t
hears_same p now trace other k t s o = record {
  began = o.began;
  feels = λ on. feels_same (place p now k t) trace other (view p t).busy s (o.feels on);
  silent = o.silent;
  silent_now = o.silent_now;
}

-- ---- time passes

-- one that isn't offline after its marks wasn't before
still_on : (p : Params) (x : Station) (m : Mark) (ms : List Mark) → is_offline (after_marks p (after_mark p x m) ms).phase ≡ false → is_offline x.phase ≡ false
still_on p x m ms on = by (is_offline x.phase) refl
  where
    by : (b : Bool) → is_offline x.phase ≡ b → b ≡ false
    by false e = refl
    by true e =
        let same : after_mark p x m ≡ x = ap (λ b. if b then x else heard p x m) e in
        let stays : after_marks p (after_mark p x m) ms ≡ x = ap (λ z. after_marks p z ms) same ∙ after_marks-is_offline p x ms e in
        absurd (let w : true ≡ false = sym e ∙ sym (ap (λ (z : Station). is_offline z.phase) stays) ∙ on in cc)

-- a station that reads marks that take turns, and isn't offline then, is busy as they say
marks_busy : (p : Params) (s : Station) (ms : List Mark) (after : Bool) → Alternates s.busy ms after → is_offline (after_marks p s ms).phase ≡ false → (after_marks p s ms).busy ≡ after
marks_busy p s [] after turns on = turns
marks_busy p s (Begin at seen ∷ ms) after turns on =
    let x = after_timer p at s in
    let h : is_offline x.phase ≡ false = still_on p x (Begin at seen) ms on in
    let is : after_mark p x (Begin at seen) ≡ heard p x (Begin at seen) = ap (λ b. if b then x else heard p x (Begin at seen)) h in
    marks_busy p (after_mark p x (Begin at seen)) ms after (subst (λ b. Alternates b ms after) (sym (ap (λ (z : Station). z.busy) is)) (begins s.busy turns)) on
  where
    begins : (b : Bool) → Alternates b (Begin at seen ∷ ms) after → Alternates true ms after
    begins true turns = absurd turns
    begins false turns = turns
marks_busy p s (End at seen chars ∷ ms) after turns on =
    let x = after_timer p at s in
    let h : is_offline x.phase ≡ false = still_on p x (End at seen chars) ms on in
    marks_busy p (after_mark p x (End at seen chars)) ms after (subst (λ b. Alternates b ms after) (sym (end-busy p x at seen chars h)) (ends s.busy turns)) on
  where
    ends : (b : Bool) → Alternates b (End at seen chars ∷ ms) after → Alternates false ms after
    ends true turns = turns
    ends false turns = absurd turns

-- what it feels after the marks of a pass
feels_after : (c : Place) (to : ℕ) (trace : List Entry) (busy : Bool) (b e : Option Span) → c.now < to → Feels c trace busy → WindowOf c.now to (sensed c.p.ttd c.tap c.since trace) busy b e → Feels (later c to) trace (then_busy busy b e)
feels_after c to trace false None None lt f w = over_later (later c to) trace c.now to (omega arith) (over_to c trace to c.now (none_in c trace to w) f)
feels_after c to trace false (Some x) None lt f w = λ q over. w.2 q (over_of (later c to) trace q over)
feels_after c to trace false None (Some y) lt f w = absurd w
feels_after c to trace false (Some x) (Some y) lt f w = over_in (later c to) trace to w.3.0
feels_after c to trace true None None lt f w = λ q over. w q (over_of (later c to) trace q over)
feels_after c to trace true (Some x) e lt f w = absurd w
feels_after c to trace true None (Some y) lt f w = over_in (later c to) trace to w.1.0

on_of : (ph : Phase) → IsOn ph → is_offline ph ≡ false
on_of Offline on = absurd on
on_of PassiveIdle on = refl
on_of (Listening doubled) on = refl
on_of (Idle refused) on = refl
on_of (Claim sent ready) on = refl
on_of (Use asked ready) on = refl
on_of (AwaitData asked retry slot) on = refl
on_of (AwaitStatus of slot) on = refl
on_of (Passing tries ready) on = refl
on_of (Checking tries) on = refl

hears_pass : (p : Params) (now to : ℕ) (trace : List Entry) (k : ℕ) (t : Tap) → now < to → t.running ≡ true → EachSpan (Solid now to) (sensed p.ttd k t.since trace) → Hears p now trace k t
    → Hears p to trace k (record t { marks = t.marks ++ new_marks p.ttd k t trace now to })
hears_pass p now to trace k t lt running solid o =
    subst (λ ms. Hears p to trace k (record t { marks = t.marks ++ ms })) (sym (ap (λ b. if b then ns else []) running))
    (record { began = omega (arith, o.began); feels = both.0; silent = both.1; silent_now = o.silent_now })
  where
    c : Place
    c = place p now k t

    v : Station
    v = view p t

    xs : List Span
    xs = sensed p.ttd k t.since trace

    b : Option Span
    b = find (begins_in xs now to) xs

    e : Option Span
    e = find (ends_in xs now to) xs

    ns : List Mark
    ns = marks_between p.ttd k t trace now to

    After : Station → Type 0
    After z = (IsOn z.phase → Feels (later c to) trace z.busy) × IsSilentWhileBusy z

    reads : IsOn v.phase → After (after_marks p v ns)
    reads on =
        let w = window now to xs v.busy b e lt solid (feels_spans c trace v.busy (o.feels on)) refl refl in
        let turns = alternate_in c to trace v.busy t b e w in (
          λ then_. subst (λ z. Feels (later c to) trace z) (sym (marks_busy p v ns (then_busy v.busy b e) turns (on_of (after_marks p v ns).phase then_))) (feels_after c to trace v.busy b e lt (o.feels on) w),
          silent-after_marks p v ns (then_busy v.busy b e) turns o.silent,
        )

    rests : v.phase ≡ Offline → After (after_marks p v ns)
    rests off = subst After (sym (offline_after p v ns off)) (λ on. absurd (subst IsOn off on), o.silent)

    both : After (after_marks p t.station (t.marks ++ ns))
    both = subst After (sym (append_marks p t.station t.marks ns)) (⊎_elim rests reads (on_or_off v.phase))

-- ---- a turn

hears_said : (p : Params) (now : ℕ) (trace : List Entry) (taps : List Tap) (tap : ℕ) (said : Option (List ℕ)) (k : ℕ) (t : Tap) → Hears p now trace k t → Hears p now (with_said tap said now taps trace) k t
hears_said p now trace taps tap None k t o = o
hears_said p now trace taps tap (Some octets) k t o =
    let x = sending tap octets now taps in
    hears_same p now trace (with_entry (Sent x) trace) k t (same_with (place p now k t) trace (Sent x) (new_sent (place p now k t) x (omega arith))) o

hears_turn : (p : Params) (now : ℕ) (trace : List Entry) (k : ℕ) (t : Tap) → Hears p now trace k t → Hears p now trace k (record t { station = (turn_of p t.station t.marks now).0; marks = [] })
hears_turn p now trace k t o =
    let v = view p t in
    let s = silent-turn_of p v [] now v.busy refl o.silent in
    record {
      began = o.began;
      feels = λ on. subst (λ b. Feels (place p now k t) trace b) (sym (busy-turn_of p t.station t.marks now)) (o.feels (on_both p now t on).0);
      silent = s;
      silent_now = s;
    }

-- ---- a start, and a request that is to wait

hears_started : (w : World) (tap : ℕ) (t : Tap) → Hears w.params w.now w.trace tap (started_tap w tap t)
hears_started w tap t = record {
  began = omega arith;
  feels = λ on. each_all (λ e. IsOver w.now w.now (heard_span w.params.ttd tap w.now e)) w.trace (λ e. new_over w.now w.now (heard_span w.params.ttd tap w.now e) (span_new w.params.ttd tap w.now e));
  silent = silent-started w.params t.station t.spec.master w.now;
  silent_now = silent-started w.params t.station t.spec.master w.now;
}

hears_queue : (p : Params) (now : ℕ) (trace : List Entry) (k : ℕ) (t : Tap) (r : RequestFields) → Hears p now trace k t → Hears p now trace k (record t { station = pushed t.station r })
hears_queue p now trace k t r o =
    let same = marks_queue (queued t.station.cycles.queue r) p t.station t.marks in
    record {
      began = o.began;
      feels = subst (λ (z : Station). IsOn z.phase → Feels (place p now k t) trace z.busy) (sym same) o.feels;
      silent = subst IsSilentWhileBusy (sym same) (record { silent = o.silent.silent; in_place = o.silent.in_place });
      silent_now = silent-pushed t.station r o.silent_now;
    }

hears_noise : (p : Params) (now end : ℕ) (noisy : Bool) (entries : List Entry) (k : ℕ) (t : Tap) → Hears p now entries k t → Hears p now (with_noise now end noisy entries) k t
hears_noise p now end true entries k t o = hears_same p now entries (change_first (is_noise_at now) (noisy_until end) entries) k t (same_noisy (place p now k t) end entries o.began) o
hears_noise p now end false entries k t o =
    let span : Span = record { begin = now; end = end } in
    hears_same p now entries (with_entry (trace.Noise span) entries) k t (same_with (place p now k t) entries (trace.Noise span) (new_noise (place p now k t) span (omega arith))) o

-- ---- worlds

pub record Sensed (w : World) : Type 0 where
  pub begun : AllBegun w.now w.trace
  pub taps : (k : ℕ) (t : Tap) → slice_get w.taps k ≡ Some t → t.running ≡ true → Hears w.params w.now w.trace k t

-- what an event that is not refused makes
made : (tests : List (Bool × Fault)) (made next : World) (say reply : Reply) → unless {X = World × Reply} tests (made, say) ≡ Ok (next, reply) → Sensed made → Sensed next
made tests m next say reply ok s = subst Sensed (ap (λ (z : World × Reply). z.0) (unless-Ok tests (m, say) (next, reply) ok).1) s

pub step_sensed : (w next : World) (e : Event) (reply : Reply) → step w e ≡ Ok (next, reply) → Settled w → Sensed w → Sensed next
step_sensed w next (Turn tap) reply ok set k = by (slice_get w.taps tap) refl ok
  where
    by : (o : Option Tap) → slice_get w.taps tap ≡ o → step_turn w tap o ≡ Ok (next, reply) → Sensed next
    by None at ok = absurd cc
    by (Some t) at ok =
        let turn = turn_of w.params t.station t.marks w.now in
        let y : Tap = record t { station = turn.0; marks = [] } in
        made ((not t.running, NotRunning) ∷ (is_some turn.1 && nat_le w.limit (length w.trace), TraceFull) ∷ [])
        (record w { trace = with_said tap turn.1 w.now w.taps w.trace; taps = slice_set w.taps tap y }) next (record { now = w.now; spoke = turn.1 }) reply ok (record {
          begun = begun-with_said w tap turn.1 (fits-turn_of w.params t.station t.marks w.now (set.stays tap t at).sayable) k.begun;
          taps = at_set (λ j u. u.running ≡ true → Hears w.params w.now (with_said tap turn.1 w.now w.taps w.trace) j u) w.taps tap y
              (λ run. hears_said w.params w.now w.trace w.taps tap turn.1 tap y (hears_turn w.params w.now w.trace tap t (k.taps tap t at run)))
              (λ j u ne h run. hears_said w.params w.now w.trace w.taps tap turn.1 j u (k.taps j u h run));
        })
step_sensed w next (Pass d) reply ok set k =
    let to = w.now + d in
    let taps = told w.params.ttd w.trace w.now to 0 w.taps in
    let trace' = map (entry_at w.params.ttd w.taps w.trace w.now to) w.trace in
    let moved : World = record w { now = to; taps = taps; trace = trace' } in
    let both = unless-Ok (pass_faults w d taps) (moved, record { now = to; spoke = None }) (next, reply) ok in
    let some : d ≡ 0 → ⊥ = eqb-false d 0 both.0.0 in
    let lt : w.now < to = grind (arith, some) in
    made (pass_faults w d taps) moved next (record { now = to; spoke = None }) reply ok (record {
      begun = begun-entry_at w.params.ttd w.taps w.trace w.now to w.trace (omega arith) k.begun;
      taps = λ j x at run.
          let b = told_at w.params.ttd w.trace w.now to 0 j w.taps j x (omega arith) at in
          let t = b.t in
          let running : t.running ≡ true = sym (ap (λ (z : Tap). z.running) b.is) ∙ run in
          let u : Tap = record t { marks = t.marks ++ new_marks w.params.ttd j t w.trace w.now to } in
          let a = hears_pass w.params w.now to w.trace j t lt running (solid_sensed w.params.ttd j t.since w.now to w.trace (each_long w.now w.trace k.begun) both.0.1.0) (k.taps j t b.here running) in
          subst (λ (z : Tap). Hears w.params to trace' j z) (sym b.is) (hears_same w.params to w.trace trace' j u (same_relabelled (place w.params to j u) w.taps w.trace w.now to w.trace) a);
    })
step_sensed w next (Damage tap speaker at) reply ok set k =
    let in_air = is_in_air_by w.params.ttd w.now speaker in
    let hit : Hit = record { tap = tap; place = at } in
    made ((is_none (slice_get w.taps tap) || is_none (slice_get w.taps speaker), NoSuchTap) ∷ (tap == speaker || not (has_place (find in_air w.trace) at), NothingInAir) ∷ [])
    (record w { trace = change_first in_air (with_hit hit) w.trace }) next (record { now = w.now; spoke = None }) reply ok (record {
      begun = begun-change_first w.now in_air (with_hit hit) w.trace (lengthens-with_hit hit) k.begun;
      taps = λ j u h run. hears_same w.params w.now w.trace (change_first in_air (with_hit hit) w.trace) j u (same_hit (place w.params w.now j u) in_air hit w.trace) (k.taps j u h run);
    })
step_sensed w next (Start tap) reply ok set k = by (slice_get w.taps tap) refl ok
  where
    by : (o : Option Tap) → slice_get w.taps tap ≡ o → step_start w tap o ≡ Ok (next, reply) → Sensed next
    by None at ok = absurd cc
    by (Some t) at ok =
        let y = started_tap w tap t in
        made ((t.running || list_any (is_in_air_by w.params.ttd w.now tap) w.trace, Running) ∷ []) (record w { taps = slice_set w.taps tap y }) next (record { now = w.now; spoke = None }) reply ok (record {
          begun = k.begun;
          taps = at_set (λ j u. u.running ≡ true → Hears w.params w.now w.trace j u) w.taps tap y (λ run. hears_started w tap t) (λ j u ne h run. k.taps j u h run);
        })
step_sensed w next (Stop tap) reply ok set k = by (slice_get w.taps tap) refl ok
  where
    by : (o : Option Tap) → slice_get w.taps tap ≡ o → step_stop w tap o ≡ Ok (next, reply) → Sensed next
    by None at ok = absurd cc
    by (Some t) at ok =
        let y = halted t in
        let xs = map (cut_at w.now tap) w.trace in
        made ((not t.running, NotRunning) ∷ []) (record w { trace = xs; taps = slice_set w.taps tap y }) next (record { now = w.now; spoke = None }) reply ok (record {
          begun = begun-cut_at w.now tap w.trace k.begun;
          taps = at_set (λ j u. u.running ≡ true → Hears w.params w.now xs j u) w.taps tap y (λ run. absurd (let wrong : false ≡ true = run in cc))
              (λ j u ne h run. let o = k.taps j u h run in hears_same w.params w.now w.trace xs j u (same_cut (place w.params w.now j u) tap w.trace o.began ne) o);
        })
step_sensed w next (Queue tap r) reply ok set k = by (slice_get w.taps tap) refl ok
  where
    by : (o : Option Tap) → slice_get w.taps tap ≡ o → step_queue w tap r o ≡ Ok (next, reply) → Sensed next
    by None at ok = absurd cc
    by (Some t) at ok =
        let y : Tap = record t { station = pushed t.station r } in
        made ((not (t.running && t.spec.master), NotRunning) ∷ (nat_le queue_limit (length (list_for t.station.cycles.queue r)), QueueFull) ∷ []) (record w { taps = slice_set w.taps tap y }) next (record { now = w.now; spoke = None }) reply ok (record {
          begun = k.begun;
          taps = at_set (λ j u. u.running ≡ true → Hears w.params w.now w.trace j u) w.taps tap y (λ run. hears_queue w.params w.now w.trace tap t r (k.taps tap t at run)) (λ j u ne h run. k.taps j u h run);
        })
step_sensed w next (Noise bits) reply ok set k =
    let tests : List (Bool × Fault) = (bits == 0, ZeroTime) ∷ (not (is_noisy w) && nat_le w.limit (length w.trace), TraceFull) ∷ [] in
    let after : World = record w { trace = with_noise w.now (w.now + bits) (is_noisy w) w.trace } in
    let both = unless-Ok tests (after, record { now = w.now; spoke = None }) (next, reply) ok in
    let some : bits ≡ 0 → ⊥ = eqb-false bits 0 both.0.0 in
    made tests after next (record { now = w.now; spoke = None }) reply ok (record {
      begun = begun-with_noise w bits (is_noisy w) (grind (arith, some)) k.begun;
      taps = λ j u h run. hears_noise w.params w.now (w.now + bits) (is_noisy w) w.trace j u (k.taps j u h run);
    })
step_sensed w next (Unheard tap speaker) reply ok set k =
    let begins = begins_from w.now speaker in
    made ((is_none (slice_get w.taps tap) || is_none (slice_get w.taps speaker), NoSuchTap) ∷ (tap == speaker || not (list_any begins w.trace), NothingInAir) ∷ [])
    (record w { trace = change_first begins (unheard_at tap) w.trace }) next (record { now = w.now; spoke = None }) reply ok (record {
      begun = begun-change_first w.now begins (unheard_at tap) w.trace (lengthens-unheard_at tap) k.begun;
      taps = λ j u h run. hears_same w.params w.now w.trace (change_first begins (unheard_at tap) w.trace) j u (same_lost (place w.params w.now j u) tap speaker w.trace) (k.taps j u h run);
    })

-- ---- runs

new_sensed : (p : Params) (specs : List TapSpec) (w : World) → IsNewWorld p specs w → Sensed w
new_sensed p specs w new =
    let made : World = record { params = p; now = 0; trace = []; taps = map (stopped_tap p) specs; limit = new.0 } in
    subst Sensed (unless-Ok (new_faults p specs) made w new.1).1 (record { begun = tt; taps = λ k t at run. absurd (none_runs p specs k t at run) })
  where
    none_runs : (p : Params) (specs : List TapSpec) (k : ℕ) (t : Tap) → slice_get (map (stopped_tap p) specs) k ≡ Some t → t.running ≡ true → ⊥
    none_runs p [] k t at run = none-some t at
    none_runs p (spec ∷ specs) zero t at run = let w : false ≡ true = ap (λ (z : Tap). z.running) (same_Some (stopped_tap p spec) t at) ∙ run in cc
    none_runs p (spec ∷ specs) (suc k) t at run = none_runs p specs k t at run

runs_sense : (events : List Event) (w next : World) → w.params.hsa < 127 → AreEvents events → RunsTo w events next → Settled w → Sensed w → Sensed next
runs_sense [] w next highest are runs set s = subst Sensed runs s
runs_sense (e ∷ es) w next highest are runs set s =
    let one = same_bus w runs.0 e runs.1 runs.2 in
    runs_sense es runs.0 next (subst (λ (z : Params). z.hsa < 127) (sym one.params) highest) are.1 runs.3 (settled_step w runs.0 e runs.1 highest are.0 runs.2 set) (step_sensed w runs.0 e runs.1 runs.2 set s)

-- so after every run
pub silent_in_runs : (p : Params) (specs : List TapSpec) (events : List Event) (tap : ℕ) (t : Tap) → IsTapAfter p specs events tap t → t.running ≡ true → IsSilentWhileBusy t.station
silent_in_runs p specs events tap t is running =
    let low : p.hsa < 127 = (let h = is.highest in omega (arith, h)) in
    let highest : is.new.params.hsa < 127 = subst (λ (z : Params). z.hsa < 127) (sym (new_params p specs is.new is.run.made)) low in
    ((runs_sense events is.new is.w highest is.run.are is.run.runs (settled_new p specs is.new low is.run.fit is.run.made) (new_sensed p specs is.new is.run.made)).taps tap t is.here running).silent_now
