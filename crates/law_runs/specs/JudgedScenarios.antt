-- The verdicts on the traces and premises of the worked scenarios.
use Rattle.std.specs.Prelude.{ℕ, ◌+◌, Bool, true, false, not, ◌==◌, ◌&&◌, ◌||◌, List, [], ◌∷◌, Option, Some, None, Result, Ok, Err}
use Rattle.pb_timers.specs.Timers.{Params}
use Rattle.law_model.specs.Medium.{TapSpec, Tap}
use Rattle.law_model.specs.World.{World, NewFault, Event, new_world}
use Rattle.law_model.specs.Step.{world_after, step, replay}
use Rattle.law_model.specs.Scenarios.{example_bus}
use Rattle.law_runs.specs.Headline.{tap_may_initiate, specs_of}
use Rattle.law_runs.specs.Legality.{first_illegal}
use Rattle.law_runs.specs.Naming.{named}
use Rattle.law_runs.specs.Premises.{Broken, first_broken}

-- ---- which tap the trace names

abbrev pub is_at : ℕ → Option ℕ → Bool
is_at tap None = false
is_at tap (Some named) = named == tap

-- each of some taps that may initiate is the named one, the first of them at an index
abbrev pub only_may_initiate : Option ℕ → ℕ → List Tap → Bool
only_may_initiate named tap [] = true
only_may_initiate named tap (t ∷ ts) = (not (tap_may_initiate t) || is_at tap named) && only_may_initiate named (tap + 1) ts

abbrev pub holder_is_named : World → Bool
holder_is_named w = only_may_initiate (named w.params (specs_of w) w.trace w.now) 0 w.taps

-- this holds before the first of some events, and after each of them
abbrev pub named_throughout : World → List Event → Bool
named_throughout w [] = holder_is_named w
named_throughout w (e ∷ es) = holder_is_named w && named_throughout (world_after w (step w e)) es

-- ---- the verdict on a run

-- the first broken premise of a run, the index of its first illegal initiator record, and whether the trace names each
-- holder throughout
pub record Verdict : Type 0 where
  pub premise : Option Broken
  pub illegal : Option ℕ
  pub holders_named : Bool

abbrev pub judged : World → List Event → Verdict
judged w events =
    let last = replay w events in
    record { premise = first_broken w events; illegal = first_illegal last.params (specs_of last) last.trace; holders_named = named_throughout w events }

abbrev pub verdict_from : Result World NewFault → List Event → Option Verdict
verdict_from (Ok w) events = Some (judged w events)
verdict_from (Err fault) events = None

abbrev pub verdict_on : Params → List TapSpec → List Event → Option Verdict
verdict_on p specs events = verdict_from (new_world p specs) events

abbrev pub verdict_of : List TapSpec → List Event → Option Verdict
verdict_of specs events = verdict_on example_bus specs events

abbrev pub kept : Option Verdict
kept = Some (record { premise = None; illegal = None; holders_named = true })

-- a premise breaks, at a moment
abbrev pub breaks : (number clock : ℕ) → Option ℕ → Bool → Option Verdict
breaks number clock illegal holders_named = Some (record { premise = Some (record { number = number; clock = clock }); illegal = illegal; holders_named = holders_named })

-- ---- other buses and stations

abbrev pub bus_with_lag : Params
bus_with_lag = record example_bus { lag = 39 }

abbrev pub bus_with_delay : Params
bus_with_delay = record example_bus { ttd = 15 }

abbrev pub passive : ℕ → TapSpec
passive address = record { address = address; master = false; reply = [] }
