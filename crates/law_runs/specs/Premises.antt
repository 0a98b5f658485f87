-- The premises on a list of accepted events, and the first one that breaks.
use Rattle.std.specs.Prelude.{ℕ, ◌+◌, ◌-◌, Bool, true, false, if◌then◌else◌, not, ◌==◌, nat_lt, nat_le, ◌&&◌, ◌||◌, List, [], ◌∷◌, ◌++◌, Option, Some, None, Result, Ok, Err}
use Rattle.std.specs.List.{list_any}
use Rattle.pb_timers.specs.Timers.{Params, tto}
use Rattle.law_turn.specs.Stations.{due_of}
use Rattle.law_model.specs.Medium.{Tap}
use Rattle.law_model.specs.World.{World, Event, Turn, Pass, Damage, Start, Stop, Queue, Noise, Unheard, Reply, Fault}
use Rattle.law_model.specs.Step.{step}
use Rattle.law_runs.specs.Activity.{is_silent}

-- ---- 1: no two running taps have equal addresses

abbrev pub runs_at : ℕ → Tap → Bool
runs_at address t = t.running && t.spec.address == address

abbrev pub has_namesakes : List Tap → Bool
has_namesakes [] = false
has_namesakes (t ∷ ts) = (t.running && list_any (runs_at t.spec.address) ts) || has_namesakes ts

-- ---- 2: no telegram is lost at a tap except by damage

abbrev pub loses : Event → Bool
loses (Turn tap) = false
loses (Pass bits) = false
loses (Damage tap speaker place) = false
loses (Start tap) = false
loses (Stop tap) = false
loses (Queue tap request) = false
loses (Noise bits) = false
loses (Unheard tap speaker) = true

-- ---- 3: no turn is later than the lag

abbrev pub is_overdue : ℕ → ℕ → Option ℕ → Bool
is_overdue lag now None = false
is_overdue lag now (Some due) = nat_lt (due + lag) now

-- a running tap whose turn has been due for longer than the lag
abbrev pub is_late : Params → ℕ → Tap → Bool
is_late p now t = t.running && is_overdue p.lag now (due_of p t.station t.marks)

abbrev pub comes_late : World → Event → Bool
comes_late w (Turn tap) = false
comes_late w (Pass bits) = list_any (is_late w.params (w.now + bits)) w.taps
comes_late w (Damage tap speaker place) = false
comes_late w (Start tap) = false
comes_late w (Stop tap) = false
comes_late w (Queue tap request) = false
comes_late w (Noise bits) = false
comes_late w (Unheard tap speaker) = false

-- ---- 4: no two masters have waited out their time-outs

-- a master at an index has run for its time-out, without activity in that time
abbrev pub has_waited : World → ℕ → Tap → Bool
has_waited w tap t =
    let timeout = tto w.params t.spec.address in
    t.running && t.spec.master && nat_le (t.since + timeout) w.now && is_silent w.params.ttd tap w.trace (w.now - timeout) w.now

-- a tap that had waited out its time-out at a moment
pub record Waited : Type 0 where
  pub tap : ℕ
  pub moment : ℕ

-- those of some taps that have waited out their time-outs, the first of them at an index
abbrev pub waited_by : World → ℕ → List Tap → List Waited
waited_by w tap [] = []
waited_by w tap (t ∷ ts) = if has_waited w tap t then record { tap = tap; moment = w.now } ∷ waited_by w (tap + 1) ts else waited_by w (tap + 1) ts

-- another tap had waited out its time-out at most a cable delay ago, whether it still runs or not
abbrev pub meets : ℕ → Waited → Waited → Bool
meets delay one other = not (one.tap == other.tap) && nat_le (one.moment - other.moment) delay

abbrev pub two_have_waited : ℕ → List Waited → List Waited → Bool
two_have_waited delay new all = list_any (λ one. list_any (meets delay one) all) new

-- ---- the first premise that breaks

-- the number of a premise, and the clock after the event that broke it
pub record Broken : Type 0 where
  pub number : ℕ
  pub clock : ℕ

abbrev pub first_number : Bool → Bool → Bool → Bool → Option ℕ
first_number true b c d = Some 1
first_number false true c d = Some 2
first_number false false true d = Some 3
first_number false false false true = Some 4
first_number false false false false = None

-- the lowest premise that an event breaks, from one world to the next, by the taps that had waited out before and have
-- after it
abbrev pub broken_by : World → Event → World → List Waited → List Waited → Option ℕ
broken_by w e next new all = first_number (has_namesakes next.taps) (loses e) (comes_late w e) (two_have_waited next.params.ttd new all)

-- a list of events so far: its world, the taps that had waited out their time-outs, and the first premise that broke
pub record Course : Type 0 where
  pub world : World
  pub waited : List Waited
  pub broken : Option Broken

abbrev pub broken_or : Option Broken → ℕ → Option ℕ → Option Broken
broken_or (Some before) clock number = Some before
broken_or None clock None = None
broken_or None clock (Some number) = Some (record { number = number; clock = clock })

-- the course after an event, by its step; a refused event is not in the list
abbrev pub followed : Course → Event → Result (World × Reply) Fault → Course
followed c e (Err fault) = c
followed c e (Ok next) =
    let new = waited_by next.0 0 next.0.taps in
    let all = new ++ c.waited in
    record { world = next.0; waited = all; broken = broken_or c.broken next.0.now (broken_by c.world e next.0 new all) }

abbrev pub course_of : Course → List Event → Course
course_of c [] = c
course_of c (e ∷ es) = course_of (followed c e (step c.world e)) es

abbrev pub first_broken : World → List Event → Option Broken
first_broken w events = (course_of (record { world = w; waited = []; broken = None }) events).broken
