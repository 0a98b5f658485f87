-- The part of a world that an event changes: the clock, the entries that are not over, and the taps.
use Rattle.std.specs.Prelude.{ℕ, ◌≤◌, List, length, map, take, drop}
use Rattle.pb_timers.specs.Timers.{Params}
use Rattle.law_model.specs.World as model
use Rattle.law_model.specs.Trace as trace
use Rattle.law_model.specs.Laws.{AllOver, AllFrom}
use Rattle.pb_taps.specs.declared.taps.Tap.{Tap}
use Rattle.pb_taps.specs.Taps.{tap_of}

-- parameters of a bus with a cable delay; events that neither turn nor start a station use no other parameter
abbrev pub plain : ℕ → Params
plain delay = record { tsl = 0; tid1 = 0; tid2 = 0; tsdr = 0; lag = 0; ttr = 0; gap = 0; hsa = 0; retries = 0; ttd = delay }

-- some entries and taps as a world of the model, on a bus with a cable delay, at a moment
abbrev pub air : ℕ → ℕ → List trace.Entry → List Tap → model.World
air delay now entries taps = record { params = plain delay; now = now; trace = entries; taps = map tap_of taps; limit = 0 }

-- some entries have ended at all taps by a moment no later than the clock, before all others reach the taps
abbrev pub IsCut : ℕ → ℕ → ℕ → List trace.Entry → Type 0
IsCut delay now over entries = (m : ℕ) × (m ≤ now) × (over ≤ length entries) × AllOver delay m (take over entries) × AllFrom delay m (drop over entries)
