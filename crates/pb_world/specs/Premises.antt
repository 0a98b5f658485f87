-- A watch over a run, in the words of the premises.
use Rattle.std.specs.Prelude.{◌≡◌, ℕ, ◌+◌, ◌≤◌, ◌<◌, Bool, true, false, List, [], ◌∷◌, length, drop, get_or, Option, Some, None, MatchOption, Ok, if◌then◌else◌}
use Rattle.std.specs.Option.{option_map}
use Rattle.law_model.specs.Behind.{IsPast}
use Rattle.law_model.specs.Trace.{Entry}
use Rattle.law_model.specs.World.{World, Event, Pass, Reply}
use Rattle.law_model.specs.Step.{step}
use Rattle.law_runs.specs.Premises.{Waited, Broken, Course, has_namesakes, waited_by, loses, comes_late, followed, course_of}
use Rattle.law_runs.specs.Quiet.{is_active, quiet_in}
use Rattle.law_runs.specs.Watching.{Watched, meets_last, watched_after, StandsFor}
use Rattle.pb_world.specs.Buses.{world_of, world_with}
use Rattle.pb_world.specs.declared.buses.Bus.{Bus}
use Rattle.pb_world.specs.declared.premises.Breach.{Breach}
use Rattle.pb_world.specs.declared.premises.Foresight.{Foresight}
use Rattle.pb_world.specs.declared.premises.Premise.{Premise}
use Rattle.pb_world.specs.declared.premises.Premise.TheVariants as premise
use Rattle.pb_world.specs.declared.premises.Waited as declared
use Rattle.pb_world.specs.declared.premises.Waiting.{Waiting}
use Rattle.pb_world.specs.declared.premises.Waiting.TheVariants as waiting
use Rattle.pb_world.specs.declared.premises.Watch.{Watch}

abbrev pub waited_of : declared.Waited → Waited
waited_of w = record { tap = w.tap; moment = w.moment }

abbrev pub number_of : Premise → ℕ
number_of premise.OwnAddresses = 1
number_of premise.NothingLost = 2
number_of premise.TurnsInTime = 3
number_of premise.OneWaits = 4

abbrev pub broken_of : Breach → Broken
broken_of b = record { number = number_of b.premise; clock = b.clock }

abbrev pub watched_of : Watch → Watched
watched_of v = record { waited = option_map waited_of v.waited; broken = option_map broken_of v.broken }

-- since when each tap of a world is in silence
abbrev pub IsQuiet : World → List ℕ → Type 0
IsQuiet w quiet = (tap : ℕ) → tap < length w.taps → get_or quiet tap 0 ≡ quiet_in w tap

-- no tap of this many has been in silence since before a moment
abbrev pub IsOldest : ℕ → ℕ → List ℕ → Type 0
IsOldest oldest taps quiet = (tap : ℕ) → tap < taps → oldest ≤ get_or quiet tap 0

-- what a watch knows of the world that it watches
pub record Knows (v : Watch) (w : World) : Type 0 where
  pub silent : IsQuiet w v.quiet
  pub oldest : IsOldest v.oldest (length w.taps) v.quiet
  pub namesakes : v.namesakes ≡ has_namesakes w.taps

-- it knows that of a bus, with whatever was let go
abbrev pub KnowsOf : Watch → Bus → Type 0
KnowsOf v bus = (old : List Entry) × IsPast old (world_of bus) × Knows v (world_with old bus)

-- an event has led to a world from one that had namesakes, or none
abbrev pub IsLedFrom : Event → World → Bool → Type 0
IsLedFrom e next had = (w : World) × (reply : Reply) × (step w e ≡ Ok (next, reply)) × (had ≡ has_namesakes w.taps)

-- the taps of a world at which something is active before a moment are no longer in silence
abbrev pub HaveHeard : World → ℕ → List ℕ → List ℕ → Type 0
HaveHeard w to before after = (tap : ℕ) → tap < length w.taps → get_or after tap 0 ≡ (if is_active w.params.ttd w.now to w.trace tap then to else get_or before tap 0)

-- how much time passes in an event, if any
abbrev pub time_in : Event → Option ℕ
time_in (Pass bits) = Some bits
time_in other = None

-- since when each tap is in silence, known before an accepted event
abbrev pub Listens : World → Event → List ℕ → Type 0
Listens w e quiet = (next : World) (reply : Reply) → step w e ≡ Ok (next, reply) → IsQuiet next quiet

-- what is foreseen of an event is what it does
pub record Foresees (f : Foresight) (w : World) (e : Event) : Type 0 where
  pub loses : f.loses ≡ loses e
  pub late : f.late ≡ comes_late w e

-- the first of the taps that have waited out their time-outs, with the others from an index on
abbrev pub IsFirstWaiting : World → ℕ → Option ℕ → Type 0
IsFirstWaiting w from first = MatchOption first (waited_by w from (drop from w.taps) ≡ [])
    (λ tap. (from ≤ tap) × (tap < length w.taps)
    × (waited_by w from (drop from w.taps) ≡ record { tap = tap; moment = w.now } ∷ waited_by w (tap + 1) (drop (tap + 1) w.taps)))

-- the taps that have waited out their time-outs
abbrev pub waiting_of : List Waited → Waiting
waiting_of [] = waiting.Nobody
waiting_of (one ∷ []) = waiting.One one.tap
waiting_of (one ∷ other ∷ more) = waiting.Several one.tap

abbrev pub met_by : (delay now : ℕ) → Waiting → Option Waited → Bool
met_by delay now waiting.Nobody last = false
met_by delay now (waiting.One tap) last = meets_last delay (record { tap = tap; moment = now }) last
met_by delay now (waiting.Several tap) last = true

abbrev pub last_by : ℕ → Waiting → Option Waited → Option Waited
last_by now waiting.Nobody last = last
last_by now (waiting.One tap) last = Some (record { tap = tap; moment = now })
last_by now (waiting.Several tap) last = Some (record { tap = tap; moment = now })

-- the watch after an event that was foreseen
abbrev pub IsAfter : Watch → Foresight → World → Watch → Type 0
IsAfter v f next result = (w : World) (e : Event) → Foresees f w e → watched_of result ≡ watched_after (watched_of v) w e next

-- a watch represents one event more
abbrev pub GoesOn : Watch → World → Event → Watch → Type 0
GoesOn v w e next = (c : Course) → c.world ≡ w → StandsFor (watched_of v) c → StandsFor (watched_of next) (followed c e (step c.world e))

-- the course of some events from a new world
abbrev pub course_at : World → List Event → Course
course_at w events = course_of (record { world = w; waited = []; broken = None }) events
