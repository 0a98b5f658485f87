-- Courses of events, one after another.
use Rattle.std.specs.Prelude.{◌≡◌, List}
use Rattle.law_model.specs.World.{Event}
use Rattle.law_model.specs.Step.{RunsTo}
use Rattle.law_runs.specs.Premises.{Course, course_of}

-- events, all of them accepted, lead from one course to another
pub record Reaches (c d : Course) : Type 0 where
  pub events : List Event
  pub runs : RunsTo c.world events d.world
  pub course : d ≡ course_of c events
