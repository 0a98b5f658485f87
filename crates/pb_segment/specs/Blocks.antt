-- Events in blocks.
use Rattle.std.specs.Prelude.{List, ◌++◌, ◌<◌, vec_len, vec_capacity}
use Rattle.std.specs.List.{flat_map}
use Rattle.pb_segment.specs.declared.blocks.Block.{Block}
use Rattle.pb_segment.specs.declared.blocks.Blocks.{Blocks}
use Rattle.pb_segment.specs.Histories.{Happened}

-- the events of the full blocks, and then those of the last one
abbrev pub happened_in : Blocks → List Happened
happened_in b = flat_map (λ (k : Block). k.happened.items) b.full.items ++ b.last.items

-- there is room for one more event
abbrev pub HasRoom : Blocks → Type 0
HasRoom b = (vec_len b.last < vec_capacity b.last) × (vec_len b.last < 1024)
