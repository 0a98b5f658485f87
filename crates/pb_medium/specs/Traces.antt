-- The trace of a medium: what had ended before all else began, and the recent entries.
use Rattle.std.specs.Prelude.{◌≡◌, ◌≤◌, ◌<◌, ℕ, List, length, map, take, drop, ◌++◌, vec_capacity}
use Rattle.std.specs.List.{position_or_len}
use Rattle.law_model.specs.Trace as model
use Rattle.pb_medium.specs.Entries.{entry_of}
use Rattle.pb_medium.specs.declared.traces.Trace.{Trace}
use Rattle.pb_taps.specs.declared.faults.WorldFault.{WorldFault}
use Rattle.pb_taps.specs.declared.faults.WorldFault.TheVariants as fault

-- all entries
abbrev pub entries_of : Trace → List model.Entry
entries_of t = map entry_of t.entries.items

-- how many of them had ended before all others began
abbrev pub over_of : Trace → ℕ
over_of t = t.over

-- how many there may be
abbrev pub limit_of : Trace → ℕ
limit_of t = t.limit

-- the others
abbrev pub recent_of : Trace → List model.Entry
recent_of t = drop t.over (entries_of t)

-- the index of an entry among others: right before the first one that it precedes, or after them all
abbrev pub place_of : model.Entry → List model.Entry → ℕ
place_of e entries = position_or_len (model.goes_before e) entries

-- the recent entries change, and nothing else
pub record RecentBecomes (change : List model.Entry → List model.Entry) (before after : Trace) : Type 0 where
  pub over : over_of after ≡ over_of before
  pub entries : entries_of after ≡ take (over_of before) (entries_of before) ++ change (recent_of before)
  pub limit : limit_of after ≡ limit_of before

-- no entry changes
pub record StaysAs (before after : Trace) : Type 0 where
  pub over : over_of after ≡ over_of before
  pub entries : entries_of after ≡ entries_of before
  pub limit : limit_of after ≡ limit_of before

-- one entry more needs no memory
pub record HasRoom (t : Trace) : Type 0 where
  pub few : length t.entries.items < limit_of t
  pub held : length t.entries.items < vec_capacity t.entries

-- why there is no room for one more entry: the trace is full, or memory was refused
abbrev pub RefusesRoom : Trace → WorldFault → Type 0
RefusesRoom t fault.TraceFull = limit_of t ≤ length (entries_of t)
RefusesRoom t fault.NoMemory = length (entries_of t) < limit_of t
RefusesRoom t other = ⊥
