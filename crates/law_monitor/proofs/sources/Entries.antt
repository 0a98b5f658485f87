-- What holds of each entry of a trace, if of a new one, and whatever is done to it.
use Rattle.std.proofs.Common.{◌≡◌, ℕ, ◌+◌, Bool, true, false, not, ◌==◌, ◌&&◌, ◌||◌, List, [], ◌∷◌, length, map, refl, ap, subst, Option, Some, None, Ok}
use Rattle.std.specs.Prelude.{slice_get, slice_set, nat_le, find, is_some, is_none, IfSome}
use Rattle.std.specs.List.{list_any}
use Rattle.law_turn.specs.Spans.{Span}
use Rattle.law_turn.specs.Stations.{pushed, list_for}
use Rattle.law_turn.specs.Turns.{turn_of}
use Rattle.law_model.specs.Trace as trace
use Rattle.law_model.specs.Trace.{Hit, Entry, Sent, cut_at, is_noise_at, noisy_until, begins_from, unheard_at}
use Rattle.law_model.specs.Medium.{Tap, entry_at}
use Rattle.law_model.specs.World as world
use Rattle.law_model.specs.World.{World, Event, Turn, Pass, Damage, Start, Stop, Queue, Noise, Unheard, Reply, Fault, NoSuchTap, Running, NotRunning, NothingInAir, ZeroTime, QueueFull, TraceFull, queue_limit, is_in_air_by}
use Rattle.law_model.specs.Step.{sending, with_said, step_turn, told, pass_faults, with_hit, change_first, has_place, started_tap, step_start, halted, step_stop, step_queue, with_noise, is_noisy, step}
use Rattle.law_model.proofs.Worlds.{unless-Ok}
use Rattle.law_token.specs.Lists.{Each}
use Rattle.law_token.proofs.bus.Lists.{each_map, each_mapped, each_changed, each_with}
use Rattle.law_token.proofs.whole.Stays.{runs_then}

-- it holds of noise, and is left by damage, a stop, the end of a telegram, and a loss
pub record Lasting (P : Entry → Type 0) : Type 0 where
  pub noise : (span : Span) → P (trace.Noise span)
  pub hit : (hit : Hit) (e : Entry) → P e → P (with_hit hit e)
  pub cut : (now tap : ℕ) (e : Entry) → P e → P (cut_at now tap e)
  pub told : (delay : ℕ) (taps : List Tap) (trace : List Entry) (from to : ℕ) (e : Entry) → P e → P (entry_at delay taps trace from to e)
  pub lost : (tap : ℕ) (e : Entry) → P e → P (unheard_at tap e)

-- it holds of what a running tap says
abbrev pub HoldsOfSaid : (Entry → Type 0) → World → Type 0
HoldsOfSaid P w = (tap : ℕ) (t : Tap) → slice_get w.taps tap ≡ Some t → t.running ≡ true → IfSome (turn_of w.params t.station t.marks w.now).1 (λ octets. P (Sent (sending tap octets w.now w.taps)))

made : (P : Entry → Type 0) (tests : List (Bool × Fault)) (made next : World) (say reply : Reply) → world.unless {X = World × Reply} tests (made, say) ≡ Ok (next, reply) → Each P made.trace → Each P next.trace
made P tests m next say reply ok all = subst (λ (z : World). Each P z.trace) (ap (λ (z : World × Reply). z.0) (unless-Ok tests (m, say) (next, reply) ok).1) all

said : (P : Entry → Type 0) (tap now : ℕ) (taps : List Tap) (o : Option (List ℕ)) (es : List Entry) → IfSome o (λ octets. P (Sent (sending tap octets now taps))) → Each P es → Each P (with_said tap o now taps es)
said P tap now taps None es new all = all
said P tap now taps (Some octets) es new all = each_with P (Sent (sending tap octets now taps)) es new all

noised : (P : Entry → Type 0) → Lasting P → (now end : ℕ) (noisy : Bool) (es : List Entry) → Each P es → Each P (with_noise now end noisy es)
noised P q now end true es all = each_changed P (is_noise_at now) (noisy_until end) es longer all
  where
    longer : (e : Entry) → is_noise_at now e ≡ true → P e → P (noisy_until end e)
    longer (trace.Noise span) is h = q.noise _
    longer (Sent r) is h = absurd (let w : false ≡ true = is in cc)
noised P q now end false es all = each_with P (trace.Noise (record { begin = now; end = end })) es (q.noise _) all

-- so it holds of each entry after an event that is not refused
pub step_entries : (P : Entry → Type 0) → Lasting P → (w next : World) (e : Event) (reply : Reply) → step w e ≡ Ok (next, reply) → HoldsOfSaid P w → Each P w.trace → Each P next.trace
step_entries P q w next (Turn tap) reply ok new all = by (slice_get w.taps tap) refl ok
  where
    by : (o : Option Tap) → slice_get w.taps tap ≡ o → step_turn w tap o ≡ Ok (next, reply) → Each P next.trace
    by None at ok = absurd cc
    by (Some t) at ok =
        let turn = turn_of w.params t.station t.marks w.now in
        let tests : List (Bool × Fault) = (not t.running, NotRunning) ∷ (is_some turn.1 && nat_le w.limit (length w.trace), TraceFull) ∷ [] in
        let after : World = record w { trace = with_said tap turn.1 w.now w.taps w.trace; taps = slice_set w.taps tap (record t { station = turn.0; marks = [] }) } in
        let answer : Reply = record { now = w.now; spoke = turn.1 } in
        let running = runs_then t.running (unless-Ok tests (after, answer) (next, reply) ok).0.0 in
        made P tests after next answer reply ok (said P tap w.now w.taps turn.1 w.trace (new tap t at running) all)
step_entries P q w next (Pass bits) reply ok new all =
    let to = w.now + bits in
    let taps = told w.params.ttd w.trace w.now to 0 w.taps in
    made P (pass_faults w bits taps) (record w { now = to; taps = taps; trace = map (entry_at w.params.ttd w.taps w.trace w.now to) w.trace }) next (record { now = to; spoke = None }) reply ok
    (each_mapped P (entry_at w.params.ttd w.taps w.trace w.now to) w.trace (each_map P (λ e. P (entry_at w.params.ttd w.taps w.trace w.now to e)) w.trace (λ e h. q.told w.params.ttd w.taps w.trace w.now to e h) all))
step_entries P q w next (Damage tap speaker place) reply ok new all =
    let in_air = is_in_air_by w.params.ttd w.now speaker in
    let hit : Hit = record { tap = tap; place = place } in
    made P ((is_none (slice_get w.taps tap) || is_none (slice_get w.taps speaker), NoSuchTap) ∷ (tap == speaker || not (has_place (find in_air w.trace) place), NothingInAir) ∷ [])
    (record w { trace = change_first in_air (with_hit hit) w.trace }) next (record { now = w.now; spoke = None }) reply ok
    (each_changed P in_air (with_hit hit) w.trace (λ e _ h. q.hit hit e h) all)
step_entries P q w next (Start tap) reply ok new all = by (slice_get w.taps tap) ok
  where
    by : (o : Option Tap) → step_start w tap o ≡ Ok (next, reply) → Each P next.trace
    by None ok = absurd cc
    by (Some t) ok =
        made P ((t.running || list_any (is_in_air_by w.params.ttd w.now tap) w.trace, Running) ∷ []) (record w { taps = slice_set w.taps tap (started_tap w tap t) }) next (record { now = w.now; spoke = None }) reply ok all
step_entries P q w next (Stop tap) reply ok new all = by (slice_get w.taps tap) ok
  where
    by : (o : Option Tap) → step_stop w tap o ≡ Ok (next, reply) → Each P next.trace
    by None ok = absurd cc
    by (Some t) ok =
        made P ((not t.running, NotRunning) ∷ []) (record w { trace = map (cut_at w.now tap) w.trace; taps = slice_set w.taps tap (halted t) }) next (record { now = w.now; spoke = None }) reply ok
        (each_mapped P (cut_at w.now tap) w.trace (each_map P (λ e. P (cut_at w.now tap e)) w.trace (λ e h. q.cut w.now tap e h) all))
step_entries P q w next (Queue tap r) reply ok new all = by (slice_get w.taps tap) ok
  where
    by : (o : Option Tap) → step_queue w tap r o ≡ Ok (next, reply) → Each P next.trace
    by None ok = absurd cc
    by (Some t) ok =
        made P ((not (t.running && t.spec.master), NotRunning) ∷ (nat_le queue_limit (length (list_for t.station.cycles.queue r)), QueueFull) ∷ [])
        (record w { taps = slice_set w.taps tap (record t { station = pushed t.station r }) }) next (record { now = w.now; spoke = None }) reply ok all
step_entries P q w next (Noise bits) reply ok new all =
    made P ((bits == 0, ZeroTime) ∷ (not (is_noisy w) && nat_le w.limit (length w.trace), TraceFull) ∷ []) (record w { trace = with_noise w.now (w.now + bits) (is_noisy w) w.trace }) next (record { now = w.now; spoke = None }) reply ok
    (noised P q w.now (w.now + bits) (is_noisy w) w.trace all)
step_entries P q w next (Unheard tap speaker) reply ok new all =
    let begins = begins_from w.now speaker in
    made P ((is_none (slice_get w.taps tap) || is_none (slice_get w.taps speaker), NoSuchTap) ∷ (tap == speaker || not (list_any begins w.trace), NothingInAir) ∷ [])
    (record w { trace = change_first begins (unheard_at tap) w.trace }) next (record { now = w.now; spoke = None }) reply ok
    (each_changed P begins (unheard_at tap) w.trace (λ e _ h. q.lost tap e h) all)
