-- The definition of a new world.
use Rattle.std.specs.Prelude.{◌≡◌, List, [], Ok}
use Rattle.pb_timers.specs.Timers.{Params}
use Rattle.law_model.specs.Medium.{TapSpec}
use Rattle.law_model.specs.World.{World, new_world, trace_limit}
use Rattle.law_runs.specs.Headline.{specs_of}
use Rattle.law_live.specs.Promises.{LeadTo}

-- the parameters of its bus, and the definition of each tap
pub record Origin : Type 0 where
  pub params : Params
  pub specs : List TapSpec

-- the new world of a bus and taps
abbrev pub IsMadeOf : Origin → World → Type 0
IsMadeOf o first = new_world o.params o.specs ≡ Ok first

abbrev pub origin_of : World → Origin
origin_of w = record { params = w.params; specs = specs_of w }

-- a world is the new world of its own parameters and taps: nothing has happened in it
abbrev pub IsMade : World → Type 0
IsMade w = IsMadeOf (origin_of w) w

-- a world is the new world of a bus: no events have led to it yet
abbrev pub IsNew : World → Type 0
IsNew w = LeadTo w [] w × (w.limit ≡ trace_limit)
