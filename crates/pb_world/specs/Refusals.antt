-- Why an event is refused, apart from memory.
use Rattle.std.specs.Prelude.{◌≡◌, ℕ, Bool, true, Option, Some, None, Result, Ok, Err, is_some, slice_get, MatchResult}
use Rattle.law_turn.specs.Turns.{turn_of}
use Rattle.law_model.specs.Medium as medium
use Rattle.law_model.specs.Step.{step}
use Rattle.law_model.specs.World.{World, Event, Fault, Turn}
use Rattle.pb_taps.specs.declared.faults.WorldFault.{WorldFault}
use Rattle.pb_taps.specs.Faults.{world_fault}

-- whether the station at a running tap would send anything in its turn
abbrev pub Speaks : World → ℕ → Bool → Type 0
Speaks w tap speaks = (t : medium.Tap) → slice_get w.taps tap ≡ Some t → t.running ≡ true
    → speaks ≡ is_some (turn_of w.params t.station t.marks w.now).1

-- the same for an event that is a turn
abbrev pub TellsSpeech : World → Event → Bool → Type 0
TellsSpeech w (Turn tap) speaks = Speaks w tap speaks
TellsSpeech w other speaks = Unit {0}

-- the fault of a step, if it has one
abbrev pub fault_of : {X : Type 0} → Result X Fault → Option WorldFault
fault_of (Ok next) = None
fault_of (Err f) = Some (world_fault f)

-- whether an event is refused, and why
abbrev pub Judges : World → Event → Result (Unit {0}) WorldFault → Type 0
Judges w event result = MatchResult result (λ _. fault_of (step w event) ≡ None) (λ reason. fault_of (step w event) ≡ Some reason)
