-- The step of the world: an event gives the next world and a reply, or it is refused.
use Rattle.std.specs.Prelude.{◌≡◌, ℕ, ◌+◌, Bool, true, false, if◌then◌else◌, ◌==◌, nat_lt, nat_le, not, ◌&&◌, ◌||◌, List, [], ◌∷◌, ◌++◌, length, map, slice_get, slice_set, find, Option, Some, None, Result, Ok, Err, is_some, is_none, unwrap_or}
use Rattle.std.specs.List.{list_any}
use Rattle.pb_timers.specs.Timers.{bits}
use Rattle.pb_cycles.specs.RequestFields.{RequestFields}
use Rattle.law_turn.specs.Spans.{Span}
use Rattle.law_turn.specs.Stations.{Station, started, stopped, list_for, pushed}
use Rattle.law_turn.specs.Turns.{turn_of}
use Rattle.law_model.specs.Trace as trace
use Rattle.law_model.specs.Trace.{Record, Hit, Entry, Sent, with_entry, heard_at_first, cut_at, is_noise_at, noisy_until, begins_from, unheard_at}
use Rattle.law_model.specs.Medium.{Tap, at_tap, contains_moment, new_marks, entry_at}
use Rattle.law_model.specs.World.{World, Event, Turn, Pass, Damage, Start, Stop, Queue, Noise, Unheard, Reply, Fault, NoSuchTap, Running, NotRunning, NothingInAir, ZeroTime, TooFar, ClockFull, QueueFull, InboxFull, TraceFull, clock_limit, mark_limit, unless, next_end, is_in_air_by, queue_limit}

-- ---- Turn

-- the new telegram of a tap
abbrev pub sending : {X : Type 0} → ℕ → List ℕ → ℕ → List X → Record
sending tap octets now taps = record {
  tap = tap;
  octets = octets;
  begin = now;
  end = now + bits (length octets);
  hits = [];
  heard = heard_at_first tap 0 taps;
}

-- entries with what a tap sent at a moment, if anything
abbrev pub with_said : {X : Type 0} → ℕ → Option (List ℕ) → ℕ → List X → List Entry → List Entry
with_said tap None now taps entries = entries
with_said tap (Some octets) now taps entries = with_entry (Sent (sending tap octets now taps)) entries

-- the world after a turn, given the tap's new station and what it sends
abbrev pub after_turn : World → ℕ → Tap → Station × Option (List ℕ) → Result (World × Reply) Fault
after_turn w tap t turn =
    unless ((not t.running, NotRunning) ∷ (is_some turn.1 && nat_le w.limit (length w.trace), TraceFull) ∷ []) (
      record w { trace = with_said tap turn.1 w.now w.taps w.trace; taps = slice_set w.taps tap (record t { station = turn.0; marks = [] }) },
      record { now = w.now; spoke = turn.1 },
    )

abbrev pub step_turn : World → ℕ → Option Tap → Result (World × Reply) Fault
step_turn w tap None = Err NoSuchTap
step_turn w tap (Some t) = after_turn w tap t (turn_of w.params t.station t.marks w.now)

-- ---- Pass

-- the taps with their new marks, the first of them at an index
abbrev pub told : ℕ → List Entry → ℕ → ℕ → ℕ → List Tap → List Tap
told delay trace from to tap [] = []
told delay trace from to tap (t ∷ ts) = record t { marks = t.marks ++ new_marks delay tap t trace from to } ∷ told delay trace from to (tap + 1) ts

-- the first of some taps that has more unread marks than it may
abbrev pub first_full : ℕ → List Tap → Option ℕ
first_full tap [] = None
first_full tap (t ∷ ts) = if nat_lt mark_limit (length t.marks) then Some tap else first_full (tap + 1) ts

abbrev pub is_past : Option ℕ → ℕ → Bool
is_past None m = false
is_past (Some end) m = nat_lt end m

abbrev pub pass_faults : World → ℕ → List Tap → List (Bool × Fault)
pass_faults w bits taps =
    (bits == 0, ZeroTime)
    ∷ (is_past (next_end w) (w.now + bits), TooFar (unwrap_or (next_end w) 0))
    ∷ (nat_lt clock_limit (w.now + bits), ClockFull)
    ∷ (is_some (first_full 0 taps), InboxFull (unwrap_or (first_full 0 taps) 0))
    ∷ []

abbrev pub after_pass : World → ℕ → List Tap → Result (World × Reply) Fault
after_pass w bits taps =
    let now = w.now + bits in
    unless (pass_faults w bits taps) (
      record w { now = now; taps = taps; trace = map (entry_at w.params.ttd w.taps w.trace w.now now) w.trace },
      record { now = now; spoke = None },
    )

abbrev pub step_pass : World → ℕ → Result (World × Reply) Fault
step_pass w bits = after_pass w bits (told w.params.ttd w.trace w.now (w.now + bits) 0 w.taps)

-- ---- Damage

abbrev pub with_hit : Hit → Entry → Entry
with_hit hit (trace.Noise span) = trace.Noise span
with_hit hit (Sent r) = Sent (record r { hits = r.hits ++ hit ∷ [] })

-- the first entry that passes the test, changed
abbrev pub change_first : (Entry → Bool) → (Entry → Entry) → List Entry → List Entry
change_first test change [] = []
change_first test change (e ∷ es) = if test e then change e ∷ es else e ∷ change_first test change es

-- whether the telegram has a character with this index, among all octets that were to be sent
abbrev pub has_place : Option Entry → Option ℕ → Bool
has_place (Some (Sent r)) (Some place) = nat_lt place (length r.octets)
has_place (Some entry) place = true
has_place None place = false

abbrev pub step_damage : World → ℕ → ℕ → Option ℕ → Option Tap → Option Tap → Result (World × Reply) Fault
step_damage w tap speaker place at from =
    let in_air = is_in_air_by w.params.ttd w.now speaker in
    unless (
    (is_none at || is_none from, NoSuchTap)
    ∷ (tap == speaker || not (has_place (find in_air w.trace) place), NothingInAir)
    ∷ []
    ) (
      record w { trace = change_first in_air (with_hit (record { tap = tap; place = place })) w.trace },
      record { now = w.now; spoke = None },
    )

-- ---- Start

abbrev pub is_there : ℕ → Option Span → Bool
is_there now None = false
is_there now (Some span) = contains_moment now span

-- whether an entry is reaching the tap now
abbrev pub reaches_now : ℕ → ℕ → ℕ → Entry → Bool
reaches_now delay tap now e = is_there now (at_tap delay tap e)

abbrev pub started_tap : World → ℕ → Tap → Tap
started_tap w tap t = record t {
  running = true;
  since = w.now;
  amid = list_any (reaches_now w.params.ttd tap w.now) w.trace;
  station = started w.params t.station t.spec.master w.now;
  marks = [];
}

abbrev pub step_start : World → ℕ → Option Tap → Result (World × Reply) Fault
step_start w tap None = Err NoSuchTap
step_start w tap (Some t) =
    unless ((t.running || list_any (is_in_air_by w.params.ttd w.now tap) w.trace, Running) ∷ []) (
      record w { taps = slice_set w.taps tap (started_tap w tap t) },
      record { now = w.now; spoke = None },
    )

-- ---- Stop

-- a tap that stops drops its unread marks, and its station drops a reply that is not sent yet
abbrev pub halted : Tap → Tap
halted t = record t { running = false; station = stopped t.station; marks = [] }

abbrev pub step_stop : World → ℕ → Option Tap → Result (World × Reply) Fault
step_stop w tap None = Err NoSuchTap
step_stop w tap (Some t) =
    unless ((not t.running, NotRunning) ∷ []) (
      record w { trace = map (cut_at w.now tap) w.trace; taps = slice_set w.taps tap (halted t) },
      record { now = w.now; spoke = None },
    )

-- ---- Queue

-- a running master accepts a request, if its list is not full
abbrev pub step_queue : World → ℕ → RequestFields → Option Tap → Result (World × Reply) Fault
step_queue w tap r None = Err NoSuchTap
step_queue w tap r (Some t) =
    unless ((not (t.running && t.spec.master), NotRunning) ∷ (nat_le queue_limit (length (list_for t.station.cycles.queue r)), QueueFull) ∷ []) (
      record w { taps = slice_set w.taps tap (record t { station = pushed t.station r }) },
      record { now = w.now; spoke = None },
    )

-- ---- Noise

-- noise for some time from now on: noise on the bus is extended, else there is a new one
abbrev pub with_noise : ℕ → ℕ → Bool → List Entry → List Entry
with_noise now end true es = change_first (is_noise_at now) (noisy_until end) es
with_noise now end false es = with_entry (trace.Noise (record { begin = now; end = end })) es

abbrev pub is_noisy : World → Bool
is_noisy w = list_any (is_noise_at w.now) w.trace

abbrev pub step_noise : World → ℕ → Bool → Result (World × Reply) Fault
step_noise w bits noisy =
    unless ((bits == 0, ZeroTime) ∷ (not noisy && nat_le w.limit (length w.trace), TraceFull) ∷ []) (
      record w { trace = with_noise w.now (w.now + bits) noisy w.trace },
      record { now = w.now; spoke = None },
    )

-- ---- Unheard

abbrev pub step_unheard : World → ℕ → ℕ → Option Tap → Option Tap → Result (World × Reply) Fault
step_unheard w tap speaker at from =
    let begins = begins_from w.now speaker in
    unless (
    (is_none at || is_none from, NoSuchTap)
    ∷ (tap == speaker || not (list_any begins w.trace), NothingInAir)
    ∷ []
    ) (
      record w { trace = change_first begins (unheard_at tap) w.trace },
      record { now = w.now; spoke = None },
    )

-- ---- the step

abbrev pub step : World → Event → Result (World × Reply) Fault
step w (Turn tap) = step_turn w tap (slice_get w.taps tap)
step w (Pass bits) = step_pass w bits
step w (Damage tap speaker place) = step_damage w tap speaker place (slice_get w.taps tap) (slice_get w.taps speaker)
step w (Start tap) = step_start w tap (slice_get w.taps tap)
step w (Stop tap) = step_stop w tap (slice_get w.taps tap)
step w (Queue tap request) = step_queue w tap request (slice_get w.taps tap)
step w (Noise bits) = step_noise w bits (is_noisy w)
step w (Unheard tap speaker) = step_unheard w tap speaker (slice_get w.taps tap) (slice_get w.taps speaker)

-- ---- replay

abbrev pub world_after : World → Result (World × Reply) Fault → World
world_after w (Ok next) = next.0
world_after w (Err fault) = w

-- the world after a list of events; a refused event changes nothing
abbrev pub replay : World → List Event → World
replay w [] = w
replay w (e ∷ es) = replay (world_after w (step w e)) es

-- events, all of them accepted, lead from one world to another
abbrev pub RunsTo : World → List Event → World → Type 0
RunsTo w [] next = w ≡ next
RunsTo w (e ∷ es) next = (between : World) × (reply : Reply) × (step w e ≡ Ok (between, reply)) × RunsTo between es next
