-- The entries of a trace that can be let go.
use Rattle.std.specs.Prelude.{◌≡◌, ℕ, ◌-◌, nat_le, List, take, drop, if◌then◌else◌}
use Rattle.law_model.specs.Trace as model
use Rattle.pb_medium.specs.Traces.{entries_of, limit_of, over_of}
use Rattle.pb_medium.specs.declared.traces.Trace.{Trace}

-- how many: all that are over, if there may be as many
abbrev pub gone_of : Trace → ℕ
gone_of t = if nat_le (over_of t) (limit_of t) then over_of t else 0

abbrev pub past_of : Trace → List model.Entry
past_of t = take (gone_of t) (entries_of t)

-- they are let go, and there may be as many fewer
pub record LetsGo (before after : Trace) : Type 0 where
  pub over : over_of after ≡ over_of before - gone_of before
  pub entries : entries_of after ≡ drop (gone_of before) (entries_of before)
  pub limit : limit_of after ≡ limit_of before - gone_of before
