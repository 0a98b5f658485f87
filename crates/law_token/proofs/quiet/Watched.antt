-- What every event that loses nothing and comes in time keeps of a world, where it matters to the silence of a master, whatever stations hold the token.
use Rattle.std.proofs.Common.{◌≡◌, ℕ, zero, suc, ◌+◌, ◌<◌, Bool, true, false, not, ◌==◌, ◌&&◌, ◌||◌, List, [], ◌∷◌, ◌++◌, length, map, refl, sym, ap, ◌∙◌, subst, arith, Option, Some, None, Ok}
use Rattle.std.specs.Prelude.{slice_get, slice_set, nat_le, is_some, is_none, find}
use Rattle.std.specs.List.{list_any}
use Rattle.std.proofs.lemmas.Bool.{eqb-false}
use Rattle.std.proofs.lemmas.Option.{none-some, same_Some}
use Rattle.pb_timers.specs.Timers.{Params}
use Rattle.pb_cycles.specs.RequestFields.{RequestFields}
use Rattle.law_turn.specs.Spans.{Span}
use Rattle.law_turn.specs.Stations.{Station, started, list_for, queued, pushed}
use Rattle.law_turn.specs.Turns.{turn_of}
use Rattle.law_turn.proofs.Addresses.{turn-address}
use Rattle.law_turn.proofs.Initiating.{fits-turn_of, reply-turn_of}
use Rattle.law_turn.proofs.Keeping.{cycles-started, cycles-pushed}
use Rattle.law_turn.proofs.Retrying.{left-started}
use Rattle.law_model.specs.Trace.{Hit, Entry, Sent, with_entry, cut_at, is_noise_at, noisy_until}
use Rattle.law_model.specs.Trace as trace
use Rattle.law_model.specs.Medium.{TapSpec, Tap, new_marks, entry_at}
use Rattle.law_model.specs.World.{World, Event, Turn, Pass, Damage, Start, Stop, Queue, Noise, Unheard, Reply, NoSuchTap, Running, NotRunning, NothingInAir, ZeroTime, QueueFull, TraceFull, queue_limit, is_in_air_by, stopped_tap, IsNewWorld, new_faults}
use Rattle.law_model.specs.Step.{sending, with_said, step_turn, told, pass_faults, with_hit, change_first, has_place, started_tap, step_start, halted, step_stop, step_queue, with_noise, is_noisy, step}
use Rattle.law_model.specs.Laws.{AllBegun, AllSayable, AllFit, IsEvent}
use Rattle.law_model.proofs.Worlds.{unless-Ok, begun-with_said, begun-entry_at, begun-change_first, begun-cut_at, begun-with_noise, lengthens-with_hit, sayable-set, sayable-at, sayable-told, sayable-stopped_taps}
use Rattle.law_runs.specs.Premises.{loses, comes_late, is_late}
use Rattle.law_token.specs.Lists.{Each}
use Rattle.law_token.specs.Places.{LeavesTime, heard_span, IsOver, Place, Over}
use Rattle.law_token.specs.Views.{place, IsOn}
use Rattle.law_token.proofs.bus.Lists.{each_all, at_set}
use Rattle.law_token.proofs.bus.Hearers.{new_sent, new_noise, new_over}
use Rattle.law_token.proofs.air.FreshTap.{span_new}
use Rattle.law_token.proofs.air.Waiting.{marks_queue}
use Rattle.law_token.proofs.pass.Brings.{HasLength, solid_sensed}
use Rattle.law_token.proofs.pass.AllTaps.{told_at, any_at}
use Rattle.law_token.proofs.quiet.Waking.{wakes-started}
use Rattle.law_token.proofs.quiet.Alert.{BeganBefore, Minds, Alert, alert_same, same_with, alert_pass, alert_turn}
use Rattle.law_token.proofs.quiet.SameEntries.{same_hit, same_noisy, same_cut, same_relabelled}

abbrev pub Watched : World → ℕ → Tap → Type 0
Watched w k t = t.running ≡ true → t.spec.master ≡ true → Alert w.params w.now w.trace k t

pub record Watch (p : Params) (w : World) : Type 0 where
  pub params : w.params ≡ p
  pub fits : LeavesTime w.params
  pub begun : AllBegun w.now w.trace
  pub sayable : AllSayable w.taps
  pub addresses : (k : ℕ) (t : Tap) → slice_get w.taps k ≡ Some t → t.station.address ≡ t.spec.address
  pub taps : (k : ℕ) (t : Tap) → slice_get w.taps k ≡ Some t → Watched w k t

-- an event keeps it
abbrev pub Watches : World → Event → Type 0
Watches w e = (p : Params) (next : World) (reply : Reply) → step w e ≡ Ok (next, reply) → IsEvent e → (loses e ≡ true → ⊥) → (comes_late w e ≡ true → ⊥) → Watch p w → Watch p next

never : (b : Bool) → (b ≡ true → ⊥) → b ≡ false
never true h = absurd (h refl)
never false h = refl

-- ---- Turn

alert_other : (p : Params) (now : ℕ) (entries : List Entry) (taps : List Tap) (tap : ℕ) (said : Option (List ℕ)) (k : ℕ) (t : Tap) → Alert p now entries k t → Alert p now (with_said tap said now taps entries) k t
alert_other p now entries taps tap None k t o = o
alert_other p now entries taps tap (Some octets) k t o =
    let x = sending tap octets now taps in
    alert_same p now entries (with_entry (Sent x) entries) k t (same_with (place p now k t) entries (Sent x) (new_sent (place p now k t) x (omega arith))) o

turn_watches : (w : World) (tap : ℕ) → Watches w (Turn tap)
turn_watches w tap p next reply ok event heard_ in_time k = by (slice_get w.taps tap) refl ok
  where
    by : (o : Option Tap) → slice_get w.taps tap ≡ o → step_turn w tap o ≡ Ok (next, reply) → Watch p next
    by None at ok = absurd cc
    by (Some t) at ok =
        let turn = turn_of w.params t.station t.marks w.now in
        let y : Tap = record t { station = turn.0; marks = [] } in
        let made : World = record w { trace = with_said tap turn.1 w.now w.taps w.trace; taps = slice_set w.taps tap y } in
        let both = unless-Ok ((not t.running, NotRunning) ∷ (is_some turn.1 && nat_le w.limit (length w.trace), TraceFull) ∷ []) (made, record { now = w.now; spoke = turn.1 }) (next, reply) ok in
        let same : made ≡ next = ap (λ (z : World × Reply). z.0) both.1 in
        let has = sayable-at w.taps tap t k.sayable at in
        subst (λ z. Watch p z) same (record {
          params = k.params;
          fits = k.fits;
          begun = begun-with_said w tap turn.1 (fits-turn_of w.params t.station t.marks w.now has) k.begun;
          sayable = sayable-set w.taps tap y (reply-turn_of w.params t.station t.marks w.now has) k.sayable;
          addresses = at_set (λ j u. u.station.address ≡ u.spec.address) w.taps tap y (turn-address w.params t.station t.marks w.now ∙ k.addresses tap t at) (λ j u ne h. k.addresses j u h);
          taps = at_set (λ j u. Watched made j u) w.taps tap y
              (λ run master. alert_turn w.params w.now w.trace tap t w.taps k.fits (k.taps tap t at run master))
              (λ j u ne h run master. alert_other w.params w.now w.trace w.taps tap turn.1 j u (k.taps j u h run master));
        })

-- ---- Pass

pub each_long : (now : ℕ) (es : List Entry) → AllBegun now es → Each HasLength es
each_long now [] all = tt
each_long now (e ∷ es) all = (all.1, each_long now es all.2)

each_began : (now : ℕ) (es : List Entry) → AllBegun now es → Each (BeganBefore (now + 1)) es
each_began now [] all = tt
each_began now (e ∷ es) all = (omega (arith, all.0), each_began now es all.2)

pass_watches : (w : World) (d : ℕ) → Watches w (Pass d)
pass_watches w d p next reply ok event heard_ in_time k =
    let to = w.now + d in
    let taps = told w.params.ttd w.trace w.now to 0 w.taps in
    let moved : World = record w { now = to; taps = taps; trace = map (entry_at w.params.ttd w.taps w.trace w.now to) w.trace } in
    let both = unless-Ok (pass_faults w d taps) (moved, record { now = to; spoke = None }) (next, reply) ok in
    let same : moved ≡ next = ap (λ (z : World × Reply). z.0) both.1 in
    let some : d ≡ 0 → ⊥ = eqb-false d 0 both.0.0 in
    let lt : w.now < to = grind (arith, some) in
    subst (λ z. Watch p z) same (record {
      params = k.params;
      fits = k.fits;
      begun = begun-entry_at w.params.ttd w.taps w.trace w.now to w.trace (omega arith) k.begun;
      sayable = sayable-told w.params.ttd w.trace w.now to 0 w.taps k.sayable;
      addresses = λ j x at. let b = told_at w.params.ttd w.trace w.now to 0 j w.taps j x (omega arith) at in
          subst (λ (z : Tap). z.station.address ≡ z.spec.address) (sym b.is) (k.addresses j b.t b.here);
      taps = λ j x at run master.
          let b = told_at w.params.ttd w.trace w.now to 0 j w.taps j x (omega arith) at in
          let t = b.t in
          let running : t.running ≡ true = sym (ap (λ (z : Tap). z.running) b.is) ∙ run in
          let owns : t.spec.master ≡ true = sym (ap (λ (z : Tap). z.spec.master) b.is) ∙ master in
          let u : Tap = record t { marks = t.marks ++ new_marks w.params.ttd j t w.trace w.now to } in
          let a = alert_pass w.params w.now to w.trace j t k.fits lt running (each_began w.now w.trace k.begun)
          (solid_sensed w.params.ttd j t.since w.now to w.trace (each_long w.now w.trace k.begun) both.0.1.0)
          (any_at (is_late w.params to) w.taps j t (never (list_any (is_late w.params to) w.taps) in_time) b.here) (k.taps j t b.here running owns) in
          subst (λ (z : Tap). Alert w.params to (map (entry_at w.params.ttd w.taps w.trace w.now to) w.trace) j z) (sym b.is)
          (alert_same w.params to w.trace (map (entry_at w.params.ttd w.taps w.trace w.now to) w.trace) j u (same_relabelled (place w.params to j u) w.taps w.trace w.now to w.trace) a);
    })

-- ---- Damage

damage_watches : (w : World) (tap speaker : ℕ) (at : Option ℕ) → Watches w (Damage tap speaker at)
damage_watches w tap speaker at p next reply ok event heard_ in_time k =
    let in_air = is_in_air_by w.params.ttd w.now speaker in
    let hit : Hit = record { tap = tap; place = at } in
    let made : World = record w { trace = change_first in_air (with_hit hit) w.trace } in
    let both = unless-Ok ((is_none (slice_get w.taps tap) || is_none (slice_get w.taps speaker), NoSuchTap) ∷ (tap == speaker || not (has_place (find in_air w.trace) at), NothingInAir) ∷ []) (made, record { now = w.now; spoke = None }) (next, reply) ok in
    let same : made ≡ next = ap (λ (z : World × Reply). z.0) both.1 in
    subst (λ z. Watch p z) same (record {
      params = k.params;
      fits = k.fits;
      begun = begun-change_first w.now in_air (with_hit hit) w.trace (lengthens-with_hit hit) k.begun;
      sayable = k.sayable;
      addresses = k.addresses;
      taps = λ j u h run master. alert_same w.params w.now w.trace (change_first in_air (with_hit hit) w.trace) j u (same_hit (place w.params w.now j u) in_air hit w.trace) (k.taps j u h run master);
    })

-- ---- Start

alert_started : (w : World) (tap : ℕ) (t : Tap) → t.station.address ≡ t.spec.address → t.spec.master ≡ true → Alert w.params w.now w.trace tap (started_tap w tap t)
alert_started w tap t address master =
    subst (λ m. Alert w.params w.now w.trace tap (record (started_tap w tap t) { station = started w.params t.station m w.now })) (sym master) (record {
      began = omega arith;
      in_time = omega arith;
      read = tt;
      seen = λ on q over. tt;
      minds = λ on. (over, λ q since o ends. since);
      wakes = wakes-started w.params t.spec.address t.station w.now address;
      request = left-started w.params t.station true w.now;
      recalls = λ on reach m u short since lt le apart. absurd (omega (arith, since, lt, le));
    })
  where
    c : Place
    c = record { p = w.params; now = w.now; tap = tap; address = t.spec.address; since = w.now }

    over : Over c w.trace w.now
    over = each_all (λ e. IsOver w.now w.now (heard_span w.params.ttd tap w.now e)) w.trace (λ e. new_over w.now w.now (heard_span w.params.ttd tap w.now e) (span_new w.params.ttd tap w.now e))

start_watches : (w : World) (tap : ℕ) → Watches w (Start tap)
start_watches w tap p next reply ok event heard_ in_time k = by (slice_get w.taps tap) refl ok
  where
    by : (o : Option Tap) → slice_get w.taps tap ≡ o → step_start w tap o ≡ Ok (next, reply) → Watch p next
    by None at ok = absurd cc
    by (Some t) at ok =
        let y = started_tap w tap t in
        let made : World = record w { taps = slice_set w.taps tap y } in
        let both = unless-Ok ((t.running || list_any (is_in_air_by w.params.ttd w.now tap) w.trace, Running) ∷ []) (made, record { now = w.now; spoke = None }) (next, reply) ok in
        let same : made ≡ next = ap (λ (z : World × Reply). z.0) both.1 in
        subst (λ z. Watch p z) same (record {
          params = k.params;
          fits = k.fits;
          begun = k.begun;
          sayable = sayable-set w.taps tap y (tt, cycles-started w.params t.station t.spec.master w.now (sayable-at w.taps tap t k.sayable at).1) k.sayable;
          addresses = at_set (λ j u. u.station.address ≡ u.spec.address) w.taps tap y (k.addresses tap t at) (λ j u ne h. k.addresses j u h);
          taps = at_set (λ j u. Watched made j u) w.taps tap y (λ run master. alert_started w tap t (k.addresses tap t at) master) (λ j u ne h run master. k.taps j u h run master);
        })

-- ---- Stop

stop_watches : (w : World) (tap : ℕ) → Watches w (Stop tap)
stop_watches w tap p next reply ok event heard_ in_time k = by (slice_get w.taps tap) refl ok
  where
    by : (o : Option Tap) → slice_get w.taps tap ≡ o → step_stop w tap o ≡ Ok (next, reply) → Watch p next
    by None at ok = absurd cc
    by (Some t) at ok =
        let y = halted t in
        let made : World = record w { trace = map (cut_at w.now tap) w.trace; taps = slice_set w.taps tap y } in
        let both = unless-Ok ((not t.running, NotRunning) ∷ []) (made, record { now = w.now; spoke = None }) (next, reply) ok in
        let same : made ≡ next = ap (λ (z : World × Reply). z.0) both.1 in
        subst (λ z. Watch p z) same (record {
          params = k.params;
          fits = k.fits;
          begun = begun-cut_at w.now tap w.trace k.begun;
          sayable = sayable-set w.taps tap y (tt, (sayable-at w.taps tap t k.sayable at).1) k.sayable;
          addresses = at_set (λ j u. u.station.address ≡ u.spec.address) w.taps tap y (k.addresses tap t at) (λ j u ne h. k.addresses j u h);
          taps = at_set (λ j u. Watched made j u) w.taps tap y (λ run master. absurd (let wrong : false ≡ true = run in cc))
              (λ j u ne h run master. let o = k.taps j u h run master in
              alert_same w.params w.now w.trace (map (cut_at w.now tap) w.trace) j u (same_cut (place w.params w.now j u) tap w.trace o.began ne) o);
        })

-- ---- Queue

alert_queue : (p : Params) (now : ℕ) (entries : List Entry) (k : ℕ) (t : Tap) (r : RequestFields) → Alert p now entries k t → Alert p now entries k (record t { station = pushed t.station r })
alert_queue p now entries k t r o =
    let c = place p now k t in
    record {
      began = o.began;
      in_time = o.in_time;
      read = o.read;
      seen = o.seen;
      minds = subst (λ (z : Station). IsOn z.phase → Minds c entries z.busy z.quiet) (sym (marks_queue (queued t.station.cycles.queue r) p t.station t.marks)) o.minds;
      wakes = o.wakes;
      request = o.request;
      recalls = o.recalls;
    }

queue_watches : (w : World) (tap : ℕ) (r : RequestFields) → Watches w (Queue tap r)
queue_watches w tap r p next reply ok event heard_ in_time k = by (slice_get w.taps tap) refl ok
  where
    by : (o : Option Tap) → slice_get w.taps tap ≡ o → step_queue w tap r o ≡ Ok (next, reply) → Watch p next
    by None at ok = absurd cc
    by (Some t) at ok =
        let y : Tap = record t { station = pushed t.station r } in
        let made : World = record w { taps = slice_set w.taps tap y } in
        let both = unless-Ok ((not (t.running && t.spec.master), NotRunning) ∷ (nat_le queue_limit (length (list_for t.station.cycles.queue r)), QueueFull) ∷ []) (made, record { now = w.now; spoke = None }) (next, reply) ok in
        let same : made ≡ next = ap (λ (z : World × Reply). z.0) both.1 in
        let has = sayable-at w.taps tap t k.sayable at in
        subst (λ z. Watch p z) same (record {
          params = k.params;
          fits = k.fits;
          begun = k.begun;
          sayable = sayable-set w.taps tap y (has.0, cycles-pushed t.station r has.1 event) k.sayable;
          addresses = at_set (λ j u. u.station.address ≡ u.spec.address) w.taps tap y (k.addresses tap t at) (λ j u ne h. k.addresses j u h);
          taps = at_set (λ j u. Watched made j u) w.taps tap y (λ run master. alert_queue w.params w.now w.trace tap t r (k.taps tap t at run master)) (λ j u ne h run master. k.taps j u h run master);
        })

-- ---- Noise

alert_noise : (p : Params) (now end : ℕ) (noisy : Bool) (entries : List Entry) (k : ℕ) (t : Tap) → Alert p now entries k t → Alert p now (with_noise now end noisy entries) k t
alert_noise p now end true entries k t o = alert_same p now entries (change_first (is_noise_at now) (noisy_until end) entries) k t (same_noisy (place p now k t) end entries o.began) o
alert_noise p now end false entries k t o =
    let span : Span = record { begin = now; end = end } in
    alert_same p now entries (with_entry (trace.Noise span) entries) k t (same_with (place p now k t) entries (trace.Noise span) (new_noise (place p now k t) span (omega arith))) o

noise_watches : (w : World) (bits : ℕ) → Watches w (Noise bits)
noise_watches w bits p next reply ok event heard_ in_time k =
    let made : World = record w { trace = with_noise w.now (w.now + bits) (is_noisy w) w.trace } in
    let both = unless-Ok ((bits == 0, ZeroTime) ∷ (not (is_noisy w) && nat_le w.limit (length w.trace), TraceFull) ∷ []) (made, record { now = w.now; spoke = None }) (next, reply) ok in
    let same : made ≡ next = ap (λ (z : World × Reply). z.0) both.1 in
    let some : bits ≡ 0 → ⊥ = eqb-false bits 0 both.0.0 in
    subst (λ z. Watch p z) same (record {
      params = k.params;
      fits = k.fits;
      begun = begun-with_noise w bits (is_noisy w) (grind (arith, some)) k.begun;
      sayable = k.sayable;
      addresses = k.addresses;
      taps = λ j u h run master. alert_noise w.params w.now (w.now + bits) (is_noisy w) w.trace j u (k.taps j u h run master);
    })

-- ---- every event

pub event_watches : (w : World) (e : Event) → Watches w e
event_watches w (Turn tap) = turn_watches w tap
event_watches w (Pass d) = pass_watches w d
event_watches w (Damage tap speaker at) = damage_watches w tap speaker at
event_watches w (Start tap) = start_watches w tap
event_watches w (Stop tap) = stop_watches w tap
event_watches w (Queue tap r) = queue_watches w tap r
event_watches w (Noise bits) = noise_watches w bits
event_watches w (Unheard tap speaker) = λ p next reply ok event heard_ in_time k. absurd (heard_ refl)

-- ---- a new world

new_taps : (p : Params) (specs : List TapSpec) (k : ℕ) (t : Tap) → slice_get (map (stopped_tap p) specs) k ≡ Some t → (t.running ≡ false) × (t.station.address ≡ t.spec.address)
new_taps p [] k t at = absurd (none-some t at)
new_taps p (spec ∷ specs) zero t at = subst (λ (z : Tap). (z.running ≡ false) × (z.station.address ≡ z.spec.address)) (same_Some (stopped_tap p spec) t at) (refl, refl)
new_taps p (spec ∷ specs) (suc k) t at = new_taps p specs k t at

pub new_watches : (p : Params) (specs : List TapSpec) (w : World) → LeavesTime p → AllFit specs → IsNewWorld p specs w → Watch p w
new_watches p specs w fits fit new =
    let made : World = record { params = p; now = 0; trace = []; taps = map (stopped_tap p) specs; limit = new.0 } in
    let same = unless-Ok (new_faults p specs) made w new.1 in
    subst (λ z. Watch p z) same.1 (record {
      params = refl;
      fits = fits;
      begun = tt;
      sayable = sayable-stopped_taps p specs fit;
      addresses = λ k t at. (new_taps p specs k t at).1;
      taps = λ k t at run master. absurd (let wrong : true ≡ false = sym run ∙ (new_taps p specs k t at).0 in cc);
    })
