-- Worked runs, with a passive tap that listens.
use Rattle.std.specs.Prelude.{◌≡◌, ℕ, ◌+◌, ◌==◌, if◌then◌else◌, List, [], ◌∷◌, ◌++◌, drop, length, map, Some, None}
use Rattle.pb_telegram.specs.declared.chars.RxChar.TheVariants.{Good, Bad}
use Rattle.pb_timers.specs.Timers.{Params, bits}
use Rattle.law_model.specs.Medium.{TapSpec, Tap}
use Rattle.law_model.specs.World.{World, Event, Turn, Pass, Damage, Start, Noise}
use Rattle.law_model.specs.Scenarios.{two_masters}
use Rattle.law_runs.specs.Headline.{MayInitiate}
use Rattle.law_runs.specs.JudgedScenarios.{passive}
use Rattle.law_runs.specs.Premises.{first_broken}
use Rattle.pb_monitor.specs.declared.holders.Holder.{Holder}
use Rattle.pb_monitor.specs.Captures.{Burst}
use Rattle.pb_monitor.specs.Examples.{all_classes}
use Rattle.pb_monitor.specs.Holders.{holder_of}
use Rattle.pb_monitor.specs.Judge.{listening, alarms}
use Rattle.law_monitor.specs.Anywhere.{IsHeardAnywhere}
use Rattle.law_monitor.specs.Naming.{kept, HearsBetween}
use Rattle.law_monitor.specs.Taps.{HearsARun, bursts_heard}

-- two masters, and a passive station that nobody asks
abbrev pub with_passive : List TapSpec
with_passive = two_masters ++ passive 9 ∷ []

-- on a bus with a delay of 15, the passive tap listens from the beginning
abbrev pub heard_with_delay : List Event
heard_with_delay =
    Start 2 ∷ Start 0 ∷ Start 1 ∷ Pass 800 ∷ Turn 2 ∷ Turn 0 ∷ Pass 16 ∷ Turn 2 ∷ Turn 1 ∷ Pass 17 ∷ Turn 2 ∷
    Pass 15 ∷ Turn 2 ∷ Turn 1 ∷ Pass 22 ∷ Turn 2 ∷ Turn 0 ∷ Pass 16 ∷ Turn 2 ∷ Turn 1 ∷ Pass 17 ∷ Turn 2 ∷ Pass 15 ∷
    Turn 2 ∷ Turn 1 ∷ Pass 22 ∷ Turn 2 ∷ Turn 0 ∷ Pass 16 ∷ Turn 2 ∷ Turn 1 ∷ Pass 50 ∷ Turn 2 ∷ Pass 15 ∷ Turn 2 ∷
    Turn 1 ∷ Pass 11 ∷ Turn 2 ∷ Turn 1 ∷ Pass 16 ∷ Turn 2 ∷ Turn 0 ∷ Pass 50 ∷ Turn 2 ∷ Pass 15 ∷ Turn 2 ∷ Turn 0 ∷
    Pass 37 ∷ Turn 2 ∷ Turn 0 ∷ Pass 16 ∷ Turn 2 ∷ Turn 1 ∷ Pass 17 ∷ Turn 2 ∷ Pass 15 ∷ Turn 2 ∷ Turn 1 ∷ Pass 37 ∷
    Turn 2 ∷ Turn 1 ∷ Pass 16 ∷ Turn 2 ∷ Turn 0 ∷ Pass 50 ∷ Turn 2 ∷ Pass 15 ∷ Turn 2 ∷ Turn 0 ∷ Pass 85 ∷ Turn 2 ∷
    Turn 1 ∷ Pass 16 ∷ Turn 2 ∷ Turn 0 ∷ Pass 17 ∷ Turn 2 ∷ Pass 15 ∷ Turn 2 ∷ Turn 0 ∷ Pass 1 ∷ Turn 2 ∷ []

-- The passive tap starts at 1130, amid the first token to the second station. What the second sends then reaches it
-- damaged; noise follows the last token at once.
abbrev pub heard_amid : List Event
heard_amid =
    Start 0 ∷ Start 1 ∷ Pass 800 ∷ Turn 0 ∷ Pass 1 ∷ Turn 1 ∷ Pass 32 ∷ Turn 1 ∷ Pass 37 ∷ Turn 0 ∷ Pass 1 ∷ Turn 1 ∷
    Pass 32 ∷ Turn 1 ∷ Pass 37 ∷ Turn 0 ∷ Pass 1 ∷ Turn 1 ∷ Pass 65 ∷ Turn 1 ∷ Pass 11 ∷ Turn 1 ∷ Pass 1 ∷ Turn 0 ∷
    Pass 65 ∷ Turn 0 ∷ Pass 37 ∷ Turn 0 ∷ Pass 1 ∷ Turn 1 ∷ Pass 9 ∷ Start 2 ∷ Pass 23 ∷ Turn 2 ∷ Turn 1 ∷ Pass 37 ∷
    Turn 2 ∷ Turn 1 ∷ Pass 1 ∷ Turn 2 ∷ Turn 0 ∷ Damage 2 1 (Some 0) ∷ Pass 65 ∷ Turn 2 ∷ Turn 0 ∷ Pass 100 ∷ Turn 2 ∷
    Turn 1 ∷ Pass 1 ∷ Turn 2 ∷ Turn 0 ∷ Pass 32 ∷ Turn 2 ∷ Turn 0 ∷ Noise 20 ∷ Pass 1 ∷ Turn 0 ∷ Turn 1 ∷ Turn 2 ∷
    Pass 19 ∷ Turn 0 ∷ Turn 1 ∷ Turn 2 ∷ []

-- octets heard from a moment on, the first of them damaged
abbrev pub damaged_at : ℕ → List ℕ → Burst
damaged_at begin octets = record { begin = begin; end = begin + bits (length octets); chars = Bad ∷ map Good (drop 1 octets) }

-- A run keeps the premises, a tap that started at a moment hears bursts of it, and they raise no alarm of any class.
pub record IsCaptured (p : Params) (specs : List TapSpec) (events : List Event) (tap since : ℕ) (bs : List Burst) : Type 0 where
  pub new : World
  pub w : World
  pub t : Tap
  pub hears : HearsARun p specs events new w tap t
  pub begins : t.since ≡ since
  pub captured : bursts_heard tap new events ≡ bs
  pub raises_none : alarms p 0 all_classes since (listening since) bs ≡ []

-- beside the second station: its telegrams are heard at once, those of others a cable delay later
abbrev pub beside_second : ℕ → ℕ
beside_second tap = if tap == 1 then 0 else 15

-- A run keeps the premises, and a listener, at delays from the taps, hears bursts of it that raise no alarm of any class.
pub record IsHeardThere (p : Params) (specs : List TapSpec) (events : List Event) (delays : ℕ → ℕ) (since : ℕ) (bs : List Burst) : Type 0 where
  pub new : World
  pub w : World
  pub hears : IsHeardAnywhere p specs events new w delays since bs
  pub keeps : first_broken new events ≡ None
  pub raises_none : alarms p 0 all_classes since (listening since) bs ≡ []

-- After some events of such a run a tap may initiate; what a listener says a cable delay later, when it has heard bursts.
pub record IsNamed (p : Params) (specs : List TapSpec) (events more : List Event) (tap since : ℕ) (bs : List Burst) (word : Holder) : Type 0 where
  pub new : World
  pub w : World
  pub later : World
  pub hears : HearsBetween p specs events more new w later 0 since bs
  pub keeps : first_broken new events ≡ None
  pub may : MayInitiate w tap
  pub says : holder_of p 0 (kept p 0 since bs) (w.now + p.ttd) ≡ word
