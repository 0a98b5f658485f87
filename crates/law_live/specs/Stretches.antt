-- The outcome of a worked run: which premises it breaks, and how long the bus has been without a token for one of its
-- masters.
use Rattle.std.specs.Prelude.{ℕ, ◌-◌, Bool, true, false, not, nat_le, ◌&&◌, ◌||◌, if◌then◌else◌, List, [], ◌∷◌, ◌++◌, slice_get, Option, Some, None, Result, Ok, Err}
use Rattle.pb_timers.specs.Timers.{Params}
use Rattle.law_turn.specs.Phases.{is_offline}
use Rattle.law_model.specs.Medium.{TapSpec, Tap}
use Rattle.law_model.specs.World.{World, NewFault, Event, Reply, Fault, new_world}
use Rattle.law_model.specs.Step.{step}
use Rattle.law_runs.specs.Premises.{Waited, has_namesakes, loses, comes_late, waited_by, two_have_waited}
use Rattle.law_live.specs.NeverDead.{longest_without, has_token_since, has_noise_since}

-- a run so far: which premises broke, and whether an event was refused
pub record RunSoFar : Type 0 where
  pub world : World
  pub waited : List Waited
  pub namesakes : Bool
  pub lost : Bool
  pub late : Bool
  pub together : Bool
  pub refused : Bool

abbrev pub ran_after : RunSoFar → Event → Result (World × Reply) Fault → RunSoFar
ran_after c e (Err fault) = record c { refused = true }
ran_after c e (Ok next) =
    let new = waited_by next.0 0 next.0.taps in
    let all = new ++ c.waited in
    record {
      world = next.0;
      waited = all;
      namesakes = c.namesakes || has_namesakes next.0.taps;
      lost = c.lost || loses e;
      late = c.late || comes_late c.world e;
      together = c.together || two_have_waited next.0.params.ttd new all;
      refused = c.refused;
    }

abbrev pub ran : RunSoFar → List Event → RunSoFar
ran c [] = c
ran c (e ∷ es) = ran (ran_after c e (step c.world e)) es

-- a stretch up to the clock, for a master that has run since its begin and is not offline
pub record Stretch : Type 0 where
  -- the numbers of the premises that the run breaks
  pub broken : List ℕ
  pub noise : Bool
  pub token : Bool
  pub lasts : ℕ
  pub bound : ℕ

abbrev pub number_if : Bool → ℕ → List ℕ
number_if true n = n ∷ []
number_if false n = []

abbrev pub stretch : RunSoFar → ℕ → Option Tap → Option Stretch
stretch c m None = None
stretch c m (Some t) =
    if not c.refused && t.running && t.spec.master && not (is_offline t.station.phase) && nat_le t.since m then Some (record {
      broken = number_if c.namesakes 1 ++ number_if c.lost 2 ++ number_if c.late 3 ++ number_if c.together 4;
      noise = has_noise_since m c.world;
      token = has_token_since m c.world;
      lasts = c.world.now - m;
      bound = longest_without c.world.params t.spec.address;
    })
    else None

abbrev pub stretch_from : Result World NewFault → List Event → (tap m : ℕ) → Option Stretch
stretch_from (Err fault) events tap m = None
stretch_from (Ok w) events tap m =
    let c = ran (record { world = w; waited = []; namesakes = false; lost = false; late = false; together = false; refused = false }) events in
    stretch c m (slice_get c.world.taps tap)

-- the stretch of the master at a tap from a moment on, after the events of a run
abbrev pub stretch_on : Params → List TapSpec → List Event → (tap m : ℕ) → Option Stretch
stretch_on p specs events tap m = stretch_from (new_world p specs) events tap m

-- a stretch without a token, and without noise
abbrev pub quiet : (broken : List ℕ) (lasts bound : ℕ) → Option Stretch
quiet broken lasts bound = Some (record { broken = broken; noise = false; token = false; lasts = lasts; bound = bound })
