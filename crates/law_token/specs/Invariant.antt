-- The invariant of a world, and of the taps that had waited out their time-outs before it, while the premises are kept.
use Rattle.std.specs.Prelude.{◌≡◌, ℕ, true, false, List, [], ◌++◌, Option, Some, None, Ok, IfSome, slice_get}
use Rattle.pb_timers.specs.Timers.{Params}
use Rattle.law_model.specs.Trace.{Record, Sent}
use Rattle.law_model.specs.Medium.{TapSpec, Tap}
use Rattle.law_model.specs.World.{World, Event, Reply, IsNewWorld}
use Rattle.law_model.specs.Step.{step}
use Rattle.law_model.specs.Laws.{AllFit, IsEvent}
use Rattle.law_runs.specs.Headline.{specs_of}
use Rattle.law_runs.specs.Initiators.{last_initiator}
use Rattle.law_runs.specs.Judging.{Stands}
use Rattle.law_runs.specs.Legality.{first_illegal}
use Rattle.law_runs.specs.Premises.{Waited, has_namesakes, waited_by, broken_by}
use Rattle.law_token.specs.Lists.{Each, In, EachTap}
use Rattle.law_token.specs.Places.{LeavesTime}
use Rattle.law_token.specs.Views.{TapHolds}
use Rattle.law_token.specs.Entries.{EntryHolds, AllOthers, SpeaksOk}
use Rattle.law_token.specs.Stations.{TapStays}

-- whatever the premises: the trace is in order of begin, and each tap's station is sound
pub record Settled (w : World) : Type 0 where
  pub stands : Stands w
  pub stays : EachTap (TapStays w.params) w.taps

-- the token: by the last initiator telegram
pub record InvariantHolds (w : World) (waited : List Waited) : Type 0 where
  pub last : Option Record
  pub is_last : last_initiator w.now w.trace ≡ last
  pub last_in : IfSome last (λ r. In (Sent r) w.trace)
  pub entries : Each (EntryHolds w.params w.now w.taps w.trace waited last) w.trace
  pub others : AllOthers w.trace
  pub speakers : Each (SpeaksOk w.params w.now w.taps) w.trace
  pub distinct : has_namesakes w.taps ≡ false
  pub taps : (k : ℕ) (t : Tap) → slice_get w.taps k ≡ Some t → t.running ≡ true → TapHolds w.params w.now w.trace last k t

-- with parameters that leave enough time, and a legal trace
pub record Keeps (w : World) (waited : List Waited) : Type 0 where
  pub fits : LeavesTime w.params
  pub inv : InvariantHolds w waited
  pub legal : first_illegal w.params (specs_of w) w.trace ≡ None

-- the whole
pub record Invariant (w : World) (waited : List Waited) : Type 0 where
  pub settled : Settled w
  pub keeps : Keeps w waited

-- an event that breaks no premise, given the taps that have waited out after it
abbrev pub BreaksNone : World → List Waited → Event → World → Type 0
BreaksNone w waited e next = broken_by w e next (waited_by next 0 next.taps) (waited_by next 0 next.taps ++ waited) ≡ None

-- such an event keeps the invariant
abbrev pub KeepsInvariant : World → Event → Type 0
KeepsInvariant w e = (waited : List Waited) (next : World) (reply : Reply) → step w e ≡ Ok (next, reply) → IsEvent e → BreaksNone w waited e next
    → Invariant w waited → Invariant next (waited_by next 0 next.taps ++ waited)

-- a new world satisfies the invariant
abbrev pub BeginsWithInvariant : Type 0
BeginsWithInvariant = (p : Params) (specs : List TapSpec) (w : World) → LeavesTime p → AllFit specs → IsNewWorld p specs w → Invariant w []
