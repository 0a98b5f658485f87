-- The run of a bus by itself up to a moment.
use Rattle.std.specs.Prelude.{◌≡◌, ℕ, suc, ◌-◌, ◌<◌, ◌≤◌, Bool, nat_lt, List, [], ◌∷◌, ◌++◌, Option, Some, None, Result, Ok, Err, MatchResult, IfSome, if◌then◌else◌}
use Rattle.law_model.specs.World.{World, Event, Turn, Pass, Fault}
use Rattle.law_model.specs.Step.{step}
use Rattle.law_runs.specs.Runs.{Plan, all, run, with_front}
use Rattle.law_runs.specs.Bus.{bus}
use Rattle.pb_taps.specs.Faults.{Refuses}
use Rattle.pb_taps.specs.declared.faults.WorldFault.{WorldFault}
use Rattle.pb_world.specs.Driven.{ComesOn}
use Rattle.pb_world.specs.Watched.{IsFollowed, world_in}
use Rattle.pb_world.specs.declared.watched.Watched.{Watched}

-- nothing happens from outside up to a moment, and no tap is withheld
abbrev pub alone_until : ℕ → Plan Event
alone_until until = record { early = λ now. []; late = λ now. []; held_until = λ now tap. 0; later = λ now. None; until = until }

-- the run of a world from its clock to a moment, in at most so many instants: its last world and its events, or the first
-- fault with its moment
abbrev pub run_to : ℕ → ℕ → World → Option (Result (World × List Event) (ℕ × Fault))
run_to instants until w = run instants bus (alone_until until) w.now w

-- the events of a run have led on to its last world
pub record HasRun (until : ℕ) (old new : Watched) : Type 0 where
  pub events : List Event
  pub instants : ℕ
  pub run : run_to instants until (world_in old) ≡ Some (Ok (world_in new, events))
  pub comes : ComesOn old events new

-- the events before a refused one of a run have led on; where no want of memory refuses it, its fault ends the run
pub record HasStopped (until : ℕ) (fault : WorldFault) (old new : Watched) : Type 0 where
  pub events : List Event
  pub refused : Event
  pub why : Refuses (world_in new) refused (step (world_in new) refused) fault
  pub ends : (f : Fault) → step (world_in new) refused ≡ Err f → (instants moment : ℕ) × (run_to instants until (world_in old) ≡ Some (Err (moment, f)))
  pub comes : ComesOn old events new

-- ---- events of a moment

pub record Happened (now : ℕ) (old : Watched) (es : List Event) (new : Watched) : Type 0 where
  pub world : all bus now es (world_in old) ≡ Ok (world_in new)
  pub comes : ComesOn old es new
  pub followed : IsFollowed new

-- those before a refused one have happened
pub record Stopped (now : ℕ) (old : Watched) (es : List Event) (fault : WorldFault) (new : Watched) : Type 0 where
  pub before : List Event
  pub refused : Event
  pub rest : List Event
  pub cut : es ≡ before ++ (refused ∷ rest)
  pub happened : Happened now old before new
  pub why : Refuses (world_in new) refused (step (world_in new) refused) fault

abbrev pub Plays : ℕ → Watched → List Event → Result (Unit {0}) WorldFault → Watched → Type 0
Plays now old es result new = MatchResult result (λ _. Happened now old es new) (λ fault. Stopped now old es fault new)

-- the turn of a tap, if it takes one
abbrev pub turn_if : Bool → ℕ → List Event
turn_if b tap = if b then Turn tap ∷ [] else []

-- a pass of time to a moment, if that is later
abbrev pub passes_to : ℕ → ℕ → List Event
passes_to now to = if nat_lt now to then Pass (to - now) ∷ [] else []

-- ---- instants

-- a run that has had some events: it continues at an instant, for this many instants, or has ended
abbrev pub run_with : List Event → Plan Event → ℕ → Option ℕ → World → Option (Result (World × List Event) (ℕ × Fault))
run_with events p left None w = Some (Ok (w, events))
run_with events p left (Some moment) w = with_front events (run left bus p moment w)

-- the events of an instant have happened, and after them the run continues at the next instant, if there is one
pub record GoesOn (until now : ℕ) (old : Watched) (next : Option ℕ) (new : Watched) : Type 0 where
  pub events : List Event
  pub comes : ComesOn old events new
  pub rest : (before : List Event) (left : ℕ)
      → run_with before (alone_until until) (suc left) (Some now) (world_in old) ≡ run_with (before ++ events) (alone_until until) left next (world_in new)
  pub later : IfSome next (λ moment. (now < moment) × (moment ≤ until))
  pub followed : IsFollowed new

-- the run stops in the instant, before a refused event
pub record StopsIn (until now : ℕ) (old : Watched) (fault : WorldFault) (new : Watched) : Type 0 where
  pub events : List Event
  pub refused : Event
  pub why : Refuses (world_in new) refused (step (world_in new) refused) fault
  pub ends : (f : Fault) → step (world_in new) refused ≡ Err f
      → (before : List Event) (left : ℕ) → run_with before (alone_until until) (suc left) (Some now) (world_in old) ≡ Some (Err (now, f))
  pub comes : ComesOn old events new
  pub followed : IsFollowed new

abbrev pub Goes : ℕ → ℕ → Watched → Result (Option ℕ) WorldFault → Watched → Type 0
Goes until now old result new = MatchResult result (λ next. GoesOn until now old next new) (λ fault. StopsIn until now old fault new)
