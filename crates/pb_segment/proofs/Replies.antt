-- Nothing is spoken in an event that is no turn, as its reply tells without a look at the world.
use Rattle.std.proofs.Common.{◌≡◌, ℕ, ◌+◌, Bool, false, List, [], ◌∷◌, length, map, Some, None, Ok, sym, ap}
use Rattle.std.specs.List.{list_any}
use Rattle.std.specs.Prelude.{Option, Result, Err, OnOk, slice_get, slice_set, find, is_none, is_some, nat_le, not, ◌&&◌, ◌||◌, ◌==◌}
use Rattle.pb_cycles.specs.RequestFields.{RequestFields}
use Rattle.law_turn.specs.Stations.{Station, list_for, pushed}
use Rattle.law_turn.specs.Turns.{turn_of}
use Rattle.law_model.specs.Medium.{Tap, entry_at}
use Rattle.law_model.specs.Trace.{begins_from, cut_at, unheard_at}
use Rattle.law_model.specs.World.{World, Event, Turn, Pass, Damage, Start, Stop, Queue, Noise, Unheard, Reply, Fault, NoSuchTap, Running, NotRunning, NothingInAir, ZeroTime, QueueFull, TraceFull, unless, is_in_air_by, queue_limit}
use Rattle.law_model.specs.Step.{step, step_turn, after_turn, with_said, step_start, step_stop, step_queue, told, pass_faults, has_place, change_first, with_hit, started_tap, halted, with_noise, is_noisy}
use Rattle.law_model.proofs.Worlds.{unless-Ok}
use Rattle.pb_segment.specs.Histories.{Receipt, is_turn}
use Rattle.pb_segment.specs.Locked.{LockedView, AppendsTo}
use Rattle.pb_segment.specs.Seats.{IsSilent, IsTold}

-- a step that is not refused replies what it says it does
silent : (tests : List (Bool × Fault)) (next u : World) (now : ℕ) (reply : Reply) → unless {X = World × Reply} tests (next, record { now = now; spoke = None }) ≡ Ok (u, reply) → IsSilent reply
silent tests next u now reply ok = sym (ap (λ (x : World × Reply). x.1.spoke) (unless-Ok {X = World × Reply} tests (next, record { now = now; spoke = None }) (u, reply) ok).1)

start_silent : (w u : World) (tap : ℕ) (o : Option Tap) (reply : Reply) → step_start w tap o ≡ Ok (u, reply) → IsSilent reply
start_silent w u tap None reply ok = absurd cc
start_silent w u tap (Some t) reply ok =
    silent ((t.running || list_any (is_in_air_by w.params.ttd w.now tap) w.trace, Running) ∷ []) (record w { taps = slice_set w.taps tap (started_tap w tap t) }) u w.now reply ok

stop_silent : (w u : World) (tap : ℕ) (o : Option Tap) (reply : Reply) → step_stop w tap o ≡ Ok (u, reply) → IsSilent reply
stop_silent w u tap None reply ok = absurd cc
stop_silent w u tap (Some t) reply ok =
    silent ((not t.running, NotRunning) ∷ []) (record w { trace = map (cut_at w.now tap) w.trace; taps = slice_set w.taps tap (halted t) }) u w.now reply ok

queue_silent : (w u : World) (tap : ℕ) (r : RequestFields) (o : Option Tap) (reply : Reply) → step_queue w tap r o ≡ Ok (u, reply) → IsSilent reply
queue_silent w u tap r None reply ok = absurd cc
queue_silent w u tap r (Some t) reply ok =
    silent ((not (t.running && t.spec.master), NotRunning) ∷ (nat_le queue_limit (length (list_for t.station.cycles.queue r)), QueueFull) ∷ [])
    (record w { taps = slice_set w.taps tap (record t { station = pushed t.station r }) }) u w.now reply ok

driven_silent : (w u : World) (e : Event) (reply : Reply) → is_turn e ≡ false → step w e ≡ Ok (u, reply) → IsSilent reply
driven_silent w u (Turn tap) reply driven ok = absurd cc
driven_silent w u (Pass bits) reply driven ok =
    let to = w.now + bits in
    let taps = told w.params.ttd w.trace w.now to 0 w.taps in
    silent (pass_faults w bits taps) (record w { now = to; taps = taps; trace = map (entry_at w.params.ttd w.taps w.trace w.now to) w.trace }) u to reply ok
driven_silent w u (Damage tap speaker place) reply driven ok =
    let in_air = is_in_air_by w.params.ttd w.now speaker in
    silent ((is_none (slice_get w.taps tap) || is_none (slice_get w.taps speaker), NoSuchTap) ∷ (tap == speaker || not (has_place (find in_air w.trace) place), NothingInAir) ∷ [])
    (record w { trace = change_first in_air (with_hit (record { tap = tap; place = place })) w.trace }) u w.now reply ok
driven_silent w u (Start tap) reply driven ok = start_silent w u tap (slice_get w.taps tap) reply ok
driven_silent w u (Stop tap) reply driven ok = stop_silent w u tap (slice_get w.taps tap) reply ok
driven_silent w u (Queue tap r) reply driven ok = queue_silent w u tap r (slice_get w.taps tap) reply ok
driven_silent w u (Noise bits) reply driven ok =
    silent ((bits == 0, ZeroTime) ∷ (not (is_noisy w) && nat_le w.limit (length w.trace), TraceFull) ∷ []) (record w { trace = with_noise w.now (w.now + bits) (is_noisy w) w.trace }) u w.now reply ok
driven_silent w u (Unheard tap speaker) reply driven ok =
    let begins = begins_from w.now speaker in
    silent ((is_none (slice_get w.taps tap) || is_none (slice_get w.taps speaker), NoSuchTap) ∷ (tap == speaker || not (list_any begins w.trace), NothingInAir) ∷ [])
    (record w { trace = change_first begins (unheard_at tap) w.trace }) u w.now reply ok

-- and so in what the conductor's seat is told of one
pub driven_told : (old new : LockedView) (e : Event) (before after : List Receipt) → is_turn e ≡ false → AppendsTo old new e before after → IsTold before after IsSilent
driven_told old new e before after driven (r, appends, tells) = (r, tells, driven_silent old.world new.world e r.reply driven appends.0)

-- a turn takes no time
after_turn_clock : (w u : World) (tap : ℕ) (t : Tap) (turn : Station × Option (List ℕ)) (reply : Reply) → after_turn w tap t turn ≡ Ok (u, reply) → reply.now ≡ w.now
after_turn_clock w u tap t turn reply ok =
    let next = record w { trace = with_said tap turn.1 w.now w.taps w.trace; taps = slice_set w.taps tap (record t { station = turn.0; marks = [] }) } in
    sym (ap (λ (x : World × Reply). x.1.now) (unless-Ok {X = World × Reply} ((not t.running, NotRunning) ∷ (is_some turn.1 && nat_le w.limit (length w.trace), TraceFull) ∷ []) (next, record { now = w.now; spoke = turn.1 }) (u, reply) ok).1)

step_turn_clock : (w u : World) (tap : ℕ) (o : Option Tap) (reply : Reply) → step_turn w tap o ≡ Ok (u, reply) → reply.now ≡ w.now
step_turn_clock w u tap None reply ok = absurd cc
step_turn_clock w u tap (Some t) reply ok = after_turn_clock w u tap t (turn_of w.params t.station t.marks w.now) reply ok

pub turn_clock : (w u : World) (tap : ℕ) (reply : Reply) → step w (Turn tap) ≡ Ok (u, reply) → reply.now ≡ w.now
turn_clock w u tap reply ok = step_turn_clock w u tap (slice_get w.taps tap) reply ok

-- what follows from what holds at Ok holds at Ok
pub on-ok : {X F : Type 0} {P Q : Type 0} (r : Result X F) → (P → Q) → OnOk r P → OnOk r Q
on-ok (Ok x) then p = then p
on-ok (Err f) then p = p
