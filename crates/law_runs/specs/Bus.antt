-- The bus as something that is run: when its taps are due, and when something else changes on it.
use Rattle.std.specs.Prelude.{ℕ, ◌+◌, Bool, ◌==◌, nat_lt, ◌&&◌, List, [], ◌∷◌, map, Option, Some, None, if◌then◌else◌}
use Rattle.std.specs.List.{list_any}
use Rattle.law_turn.specs.Stations.{due_of, earlier}
use Rattle.law_model.specs.Trace.{Entry, entry_begin}
use Rattle.law_model.specs.Medium.{Tap, reaches_taps}
use Rattle.law_model.specs.World.{World, Event, Turn, Pass, Reply, Fault, later_end, next_end}
use Rattle.law_model.specs.Step.{step}
use Rattle.law_runs.specs.Runs.{Machine}

-- when a tap is due, if it runs
abbrev pub due_in : World → Tap → Option ℕ
due_in w t = if t.running then due_of w.params t.station t.marks else None

-- when each tap is due
abbrev pub dues : World → List (Option ℕ)
dues w = map (due_in w) w.taps

-- the next moment at which a tap can know of a begin among some entries: one bit time after it has reached the taps
abbrev pub next_known : ℕ → ℕ → List Entry → Option ℕ
next_known delay now [] = None
next_known delay now (e ∷ es) = earlier (later_end now ((reaches_taps delay e).begin + 1)) (next_known delay now es)

-- an entry that began before now is still on the bus
abbrev pub is_in_air : ℕ → ℕ → Entry → Bool
is_in_air delay now e = nat_lt (entry_begin e) now && nat_lt now (reaches_taps delay e).end

abbrev pub started_now : ℕ → Tap → Bool
started_now now t = t.since == now

-- a tap has started now, during activity that began before
abbrev pub is_started_amid : World → Bool
is_started_amid w = list_any (started_now w.now) w.taps && list_any (is_in_air w.params.ttd w.now) w.trace

-- the next moment at which something changes apart from turns: an end on the bus, a begin that can be known, or the
-- moment after a start during activity
abbrev pub next_change : World → Option ℕ
next_change w = earlier (next_end w) (earlier (next_known w.params.ttd w.now w.trace) (if is_started_amid w then Some (w.now + 1) else None))

abbrev pub bus : Machine World Event Reply Fault
bus = record { step = step; turn = Turn; pass = Pass; due = dues; change = next_change }
