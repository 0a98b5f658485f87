-- Whom a listener names: the station that may initiate, or nobody does.
use Rattle.std.specs.Prelude.{◌≡◌, ℕ, ◌+◌, ◌≤◌, List, None}
use Rattle.pb_timers.specs.Timers.{Params}
use Rattle.law_model.specs.Medium.{TapSpec}
use Rattle.law_model.specs.World.{World, Event}
use Rattle.law_model.specs.Step.{RunsTo}
use Rattle.law_model.specs.Laws.{AreEvents}
use Rattle.law_runs.specs.Headline.{MayInitiate}
use Rattle.law_runs.specs.Legality.{address_at}
use Rattle.law_runs.specs.Premises.{first_broken}
use Rattle.law_token.specs.Places.{LeavesTime}
use Rattle.law_token.specs.Promises.{HasRun}
use Rattle.pb_monitor.specs.declared.holders.Holder.{Holder}
use Rattle.pb_monitor.specs.declared.holders.Holder.TheVariants.{One, OfferedTo, Nobody, Unknown}
use Rattle.pb_monitor.specs.declared.states.State.{State}
use Rattle.pb_monitor.specs.Captures.{Burst, AllClear}
use Rattle.pb_monitor.specs.Holders.{holder_of}
use Rattle.pb_monitor.specs.Judge.{listening, behind_all}
use Rattle.law_monitor.specs.Captures.{HearsSince}

-- a word of a listener allows that the station with an address may initiate
abbrev pub Allows : Holder → ℕ → Type 0
Allows (One named) address = address ≡ named
Allows (OfferedTo named) address = address ≡ named
Allows Nobody address = ⊥
Allows Unknown address = Unit {0}

-- what a listener keeps of bursts
abbrev pub kept : Params → (slack since : ℕ) → List Burst → State
kept p slack since bs = behind_all p slack (listening since) bs

-- A listener has heard bursts of a run, a cable delay after the clock of one of its worlds: the last of them has ended,
-- and nothing has begun since.
pub record HearsBetween (p : Params) (specs : List TapSpec) (events more : List Event) (new w later : World) (slack since : ℕ) (bs : List Burst) : Type 0 where
  pub time : LeavesTime p
  pub run : HasRun p specs events new w
  pub are : AreEvents more
  pub goes_on : RunsTo w more later
  pub hears : HearsSince p.ttd since later.trace bs
  pub over : (kept p slack since bs).quiet ≤ w.now + p.ttd
  pub nothing : AllClear p.ttd (kept p slack since bs).quiet (w.now + p.ttd + 1) later.trace

-- If the run has kept the premises up to that world, whichever tap may initiate in it is allowed by what the listener
-- says: so it is the one that is named, or nobody is. Whatever comes after it.
abbrev pub NamedOrNobody : Type 0
NamedOrNobody = (p : Params) (specs : List TapSpec) (events more : List Event) (new w later : World) (slack since : ℕ) (bs : List Burst)
    → HearsBetween p specs events more new w later slack since bs → first_broken new events ≡ None
    → (tap : ℕ) → MayInitiate w tap → Allows (holder_of p slack (kept p slack since bs) (w.now + p.ttd)) (address_at specs tap)
