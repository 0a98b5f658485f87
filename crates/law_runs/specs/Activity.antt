-- When there is activity on the bus: what is sent, and noise.
use Rattle.std.specs.Prelude.{ℕ, Bool, if◌then◌else◌, not, ◌==◌, nat_lt, ◌&&◌, List}
use Rattle.std.specs.List.{list_any}
use Rattle.law_turn.specs.Spans.{Span}
use Rattle.law_model.specs.Trace.{Entry, Sent, Noise}
use Rattle.law_model.specs.Medium.{reaches}

-- when an entry is active at a tap: its own telegrams as it sends them, those of others a cable delay later
abbrev pub active_at : ℕ → ℕ → Entry → Span
active_at delay tap (Noise span) = span
active_at delay tap (Sent r) = if r.tap == tap then record { begin = r.begin; end = r.end } else reaches delay r

-- a stretch has a moment between two moments, the first included, the second not
abbrev pub is_within : ℕ → ℕ → Span → Bool
is_within from to span = nat_lt span.begin to && nat_lt from span.end

-- no activity at a tap between two moments, the first included, the second not
abbrev pub is_silent : ℕ → ℕ → List Entry → ℕ → ℕ → Bool
is_silent delay tap trace from to = not (list_any (λ e. is_within from to (active_at delay tap e)) trace)
