-- What instants are played on: a bus, and what is known of the course of events that led to it.
use Rattle.std.specs.Prelude.{◌≡◌, ℕ, List, length}
use Rattle.law_model.specs.Behind.{IsPast}
use Rattle.law_model.specs.Trace.{Entry}
use Rattle.law_runs.specs.Premises.{Course}
use Rattle.law_runs.specs.Watching.{StandsFor}
use Rattle.pb_world.specs.Buses.{world_of, world_with, IsKept}
use Rattle.pb_world.specs.Premises.{Knows, watched_of}
use Rattle.pb_world.specs.Watched.{IsFollowed, IsOfRun}
use Rattle.pb_world.specs.declared.buses.Bus.{Bus}
use Rattle.pb_world.specs.declared.watched.Watched.{Watched}

pub record StageView : Type 1 where
  pub bus : Bus
  -- it may take an event
  pub ready : Type 0
  -- what is kept of the world in which these entries stand in front is true
  pub knows : List Entry → Type 0
  -- what was found so far is that of a course
  pub found : Course → Type 0

abbrev pub taps_of : StageView → ℕ
taps_of v = length (world_of v.bus).taps

-- It is at the end of a course of events, in whose trace these entries stand in front of its own: they are over, and were
-- let go.
pub record IsAt (v : StageView) (old : List Entry) (c : Course) : Type 0 where
  pub kept : IsKept v.bus
  pub past : IsPast old (world_of v.bus)
  pub here : c.world ≡ world_with old v.bus
  pub found : v.found c

-- the same, and it may go on
pub record GoesFrom (v : StageView) (old : List Entry) (c : Course) : Type 0 where
  pub at : IsAt v old c
  pub knows : v.knows old

-- ---- the stages: a bus; and a watched one, whose watch stands for the course of a run

abbrev pub bus_view : Bus → StageView
bus_view bus = record { bus = bus; ready = IsKept bus; knows = λ old. Unit {0}; found = λ c. Unit {0} }

abbrev pub watched_view : Watched → StageView
watched_view w = record { bus = w.bus; ready = IsFollowed w; knows = λ old. Knows w.watch (world_with old w.bus); found = λ c. StandsFor (watched_of w.watch) c × IsOfRun c }
