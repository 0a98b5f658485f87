-- What a tap of the bus hears while it runs, as bursts of a capture.
use Rattle.std.specs.Prelude.{◌≡◌, ◌⊎◌, ℕ, ◌+◌, ◌≤◌, ◌==◌, true, if◌then◌else◌, List, [], ◌∷◌, ◌++◌, slice_get, Option, Some, None}
use Rattle.pb_telegram.specs.declared.chars.RxChar.{RxChar}
use Rattle.pb_timers.specs.Timers.{Params}
use Rattle.law_turn.specs.Marks.{Mark, Begin, End}
use Rattle.law_model.specs.Trace.{Entry, Sent}
use Rattle.law_model.specs.Trace as trace
use Rattle.law_model.specs.Medium.{TapSpec, Tap, reaches_taps, at_tap, new_marks}
use Rattle.law_model.specs.World.{World, Event, Turn, Pass, Damage, Start, Stop, Queue, Noise, Unheard}
use Rattle.law_model.specs.Step.{step, world_after}
use Rattle.law_runs.specs.Premises.{first_broken}
use Rattle.law_token.specs.Places.{LeavesTime}
use Rattle.law_token.specs.Promises.{HasRun}
use Rattle.pb_monitor.specs.declared.alarms.Classes.{Classes}
use Rattle.pb_monitor.specs.Captures.{Burst, All}
use Rattle.pb_monitor.specs.Judge.{listening, alarms}
use Rattle.law_monitor.specs.Captures.{HearsSince}

-- the bursts that have ended, and when one began that has not
pub record Tape : Type 0 where
  pub bursts : List Burst
  pub begun : Option ℕ

abbrev pub blank : Tape
blank = record { bursts = []; begun = None }

-- ---- by marks

abbrev pub ended : Tape → Option ℕ → ℕ → List RxChar → Tape
ended tape None end chars = tape
ended tape (Some begin) end chars = record { bursts = tape.bursts ++ record { begin = begin; end = end; chars = chars } ∷ []; begun = None }

-- a Begin and the End after it are a burst
abbrev pub noted : Tape → Mark → Tape
noted tape (Begin at seen) = record tape { begun = Some at }
noted tape (End at seen chars) = ended tape tape.begun at chars

abbrev pub noted_all : Tape → List Mark → Tape
noted_all tape [] = tape
noted_all tape (m ∷ ms) = noted_all (noted tape m) ms

-- ---- by events

-- the marks that a pass of time delivers to a tap
abbrev pub marks_told : World → (tap bits : ℕ) → Option Tap → List Mark
marks_told w tap bits None = []
marks_told w tap bits (Some t) = new_marks w.params.ttd tap t w.trace w.now (w.now + bits)

-- it notes what a pass of time tells it, and begins anew where it starts
abbrev pub taped : (tap : ℕ) → World → Tape → Event → Tape
taped tap w tape (Turn k) = tape
taped tap w tape (Pass bits) = noted_all tape (marks_told w tap bits (slice_get w.taps tap))
taped tap w tape (Damage k speaker place) = tape
taped tap w tape (Start k) = if k == tap then blank else tape
taped tap w tape (Stop k) = tape
taped tap w tape (Queue k request) = tape
taped tap w tape (Noise bits) = tape
taped tap w tape (Unheard k speaker) = tape

abbrev pub taped_all : (tap : ℕ) → World → Tape → List Event → Tape
taped_all tap w tape [] = tape
taped_all tap w tape (e ∷ es) = taped_all tap (world_after w (step w e)) (taped tap w tape e) es

-- the bursts that a tap has heard since its last start, along events from a new world
abbrev pub bursts_heard : (tap : ℕ) → World → List Event → List Burst
bursts_heard tap new events = (taped_all tap new blank events).bursts

-- ---- a tap that only listens

-- an entry was over when the tap started, or the tap senses it: it is not its own telegram, nor lost there
abbrev pub IsSensed : (delay tap since : ℕ) → Entry → Type 0
IsSensed delay tap since e = ((reaches_taps delay e).end ≤ since) ⊎ (at_tap delay tap e ≡ Some (reaches_taps delay e))

-- a running tap that has sent nothing since its last start, and has lost no telegram
pub record OnlyListens (p : Params) (specs : List TapSpec) (events : List Event) (new w : World) (tap : ℕ) (t : Tap) : Type 0 where
  pub highest : p.hsa ≤ 126
  pub run : HasRun p specs events new w
  pub here : slice_get w.taps tap ≡ Some t
  pub running : t.running ≡ true
  pub senses : All (IsSensed p.ttd tap t.since) w.trace

-- What it hears is what a listener hears of the trace since the tap's start, whatever the premises.
abbrev pub TapsCapture : Type 0
TapsCapture = (p : Params) (specs : List TapSpec) (events : List Event) (new w : World) (tap : ℕ) (t : Tap) → OnlyListens p specs events new w tap t
    → HearsSince p.ttd t.since w.trace (bursts_heard tap new events)

-- ---- one that hears a run that keeps the premises

-- a telegram is not the tap's, or was over when the tap started
abbrev pub IsOfOthers : (delay tap since : ℕ) → Entry → Type 0
IsOfOthers delay tap since (trace.Noise span) = Unit {0}
IsOfOthers delay tap since (Sent r) = r.tap ≡ tap → r.end + delay ≤ since

-- a running tap that has sent nothing since its last start, in a run that keeps the premises
pub record HearsARun (p : Params) (specs : List TapSpec) (events : List Event) (new w : World) (tap : ℕ) (t : Tap) : Type 0 where
  pub time : LeavesTime p
  pub run : HasRun p specs events new w
  pub keeps : first_broken new events ≡ None
  pub here : slice_get w.taps tap ≡ Some t
  pub running : t.running ≡ true
  pub others : All (IsOfOthers p.ttd tap t.since) w.trace

-- What it hears is what a listener hears of the trace, and raises no alarm of any class.
abbrev pub TapsRaiseNone : Type 0
TapsRaiseNone = (p : Params) (specs : List TapSpec) (events : List Event) (new w : World) (tap : ℕ) (t : Tap) → HearsARun p specs events new w tap t
    → HearsSince p.ttd t.since w.trace (bursts_heard tap new events)
    × ((slack : ℕ) (c : Classes) → alarms p slack c t.since (listening t.since) (bursts_heard tap new events) ≡ [])
