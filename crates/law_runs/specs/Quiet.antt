-- Since when a tap has been in silence.
use Rattle.std.specs.Prelude.{ℕ, Bool, ◌+◌, if◌then◌else◌, nat_lt, List, [], ◌∷◌, max, min}
use Rattle.std.specs.List.{list_any}
use Rattle.law_turn.specs.Spans.{Span}
use Rattle.law_model.specs.Trace.{Entry}
use Rattle.law_model.specs.World.{World, Event, Turn, Pass, Damage, Start, Stop, Queue, Noise, Unheard}
use Rattle.law_runs.specs.Activity.{active_at, is_within}

-- until when a stretch has lasted before the clock
abbrev pub active_until : ℕ → Span → ℕ
active_until now span = if nat_lt span.begin now then min span.end now else 0

-- since when nothing has been active at a tap before the clock
abbrev pub quiet_at : (delay tap now : ℕ) → List Entry → ℕ
quiet_at delay tap now [] = 0
quiet_at delay tap now (e ∷ es) = max (active_until now (active_at delay tap e)) (quiet_at delay tap now es)

-- something is active at a tap between two moments, the first included, the second not
abbrev pub is_active : (delay from to : ℕ) → List Entry → ℕ → Bool
is_active delay from to trace tap = list_any (λ e. is_within from to (active_at delay tap e)) trace

-- since when a tap is in silence after an event: as before, unless time passes while something is active at it
abbrev pub quiet_after : World → Event → (tap : ℕ) → ℕ → ℕ
quiet_after w (Turn at) tap q = q
quiet_after w (Pass bits) tap q = if is_active w.params.ttd w.now (w.now + bits) w.trace tap then w.now + bits else q
quiet_after w (Damage at speaker place) tap q = q
quiet_after w (Start at) tap q = q
quiet_after w (Stop at) tap q = q
quiet_after w (Queue at request) tap q = q
quiet_after w (Noise bits) tap q = q
quiet_after w (Unheard at speaker) tap q = q

-- since when a tap of a world has been in silence
abbrev pub quiet_in : World → ℕ → ℕ
quiet_in w tap = quiet_at w.params.ttd tap w.now w.trace
