-- A bus that lets its past go.
use Rattle.std.specs.Prelude.{◌≡◌, List}
use Rattle.law_model.specs.Trace.{Entry}
use Rattle.law_model.specs.Behind.{behind, IsPast}
use Rattle.pb_world.specs.Buses.{world_of, IsKept}
use Rattle.pb_world.specs.declared.buses.Bus.{Bus}

-- Entries are let go: they stood in front of the others, had ended at all taps before those reach the taps, and may be
-- so many fewer.
pub record LetsPastGo (gone : List Entry) (before after : Bus) : Type 0 where
  pub whole : world_of before ≡ behind gone (world_of after)
  pub past : IsPast gone (world_of after)
  pub kept : IsKept after
