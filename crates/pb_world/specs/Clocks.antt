-- The passing of time.
use Rattle.std.specs.Prelude.{◌≡◌, ℕ, ◌+◌, ◌≤◌, ◌==◌, nat_lt, Bool, List, [], ◌∷◌, ◌++◌, Option, Some, None, Result, Ok, Err, unwrap_or}
use Rattle.std.specs.Option.{option_map}
use Rattle.pb_faults.specs.FirstFault.{first_fault}
use Rattle.law_model.specs.Step.{told, first_full, is_past, step_pass}
use Rattle.law_model.specs.World.{World, Fault, ZeroTime, TooFar, ClockFull, clock_limit, next_end_of}
use Rattle.law_model.specs.Trace.{Entry}
use Rattle.law_model.specs.Medium.{Tap}
use Rattle.pb_taps.specs.declared.faults.WorldFault.{WorldFault}
use Rattle.pb_taps.specs.Faults.{world_fault}

-- why time cannot pass, whatever the taps, given the next end on the bus
abbrev pub time_faults : ℕ → ℕ → Option ℕ → List (Bool × Fault)
time_faults now bits end =
    (bits == 0, ZeroTime)
    ∷ (is_past end (now + bits), TooFar (unwrap_or end 0))
    ∷ (nat_lt clock_limit (now + bits), ClockFull)
    ∷ []

-- time can pass to a moment, and each tap has room for its marks
pub record CanPass (w : World) (bits to : ℕ) : Type 0 where
  pub later : to ≡ w.now + bits
  pub clock : to ≤ clock_limit
  pub time : first_fault (time_faults w.now bits (next_end_of w.params.ttd w.now w.trace)) ≡ None
  pub room : first_full 0 (told w.params.ttd w.trace w.now to 0 w.taps) ≡ None

-- a step is refused by a fault
abbrev pub IsFault : {X : Type 0} → Result X Fault → WorldFault → Type 0
IsFault (Ok next) reason = ⊥
IsFault (Err f) reason = reason ≡ world_fault f

-- the first of some faults
abbrev pub IsFirstOf : List (Bool × Fault) → WorldFault → Type 0
IsFirstOf tests reason = option_map world_fault (first_fault tests) ≡ Some reason

-- time passes to a moment: these are the entries after those that are over, and the taps
abbrev pub PassesTo : World → ℕ → List Entry → ℕ → List Entry → List Tap → Type 0
PassesTo w bits old to entries taps = (recent : List Entry) × (entries ≡ old ++ recent)
    × (step_pass w bits ≡ Ok (record w { now = to; trace = recent; taps = taps }, record { now = to; spoke = None }))
