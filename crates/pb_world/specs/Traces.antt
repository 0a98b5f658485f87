-- The order of a trace, and a trace from anywhere that is judged.
use Rattle.std.specs.Prelude.{◌≡◌, ℕ, ◌+◌, Bool, nat_le, ◌||◌, if◌then◌else◌, List, [], ◌∷◌, Option, Some, None}
use Rattle.std.specs.Borrow.{Bor}
use Rattle.law_model.specs.Trace as model
use Rattle.law_model.specs.Trace.{entry_begin, entry_end, goes_before}
use Rattle.pb_medium.specs.Entries.{entry_of, record_of}
use Rattle.pb_medium.specs.declared.entries.Entry.{Entry}
use Rattle.pb_medium.specs.declared.entries.Record.{Record}
use Rattle.pb_world.specs.declared.traces.TraceFault.{TraceFault}
use Rattle.pb_world.specs.declared.traces.TraceFault.TheVariants.{NotInOrder}

-- an entry and a telegram behind a reference
abbrev pub lent_entry : Bor Entry → model.Entry
lent_entry e = entry_of e.now

abbrev pub lent_record : Bor Record → model.Record
lent_record r = record_of r.now

-- an entry has no duration, or precedes the one before it: by begin, noise first, then telegrams by tap
abbrev pub is_misplaced : Option model.Entry → model.Entry → Bool
is_misplaced None e = nat_le (entry_end e) (entry_begin e)
is_misplaced (Some before) e = goes_before e before || nat_le (entry_end e) (entry_begin e)

-- the index of the first such entry of some, the first of them at an index, after another entry
abbrev pub misplaced_from : Option model.Entry → ℕ → List model.Entry → Option ℕ
misplaced_from before place [] = None
misplaced_from before place (e ∷ es) = if is_misplaced before e then Some place else misplaced_from (Some e) (place + 1) es

abbrev pub first_misplaced : List model.Entry → Option ℕ
first_misplaced trace = misplaced_from None 0 trace

-- why a trace is not judged
abbrev pub IsOutOfOrder : List model.Entry → TraceFault → Type 0
IsOutOfOrder trace (NotInOrder place) = first_misplaced trace ≡ Some place
