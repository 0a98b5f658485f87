-- What a tap hears of a trace, and by when it was over.
--
-- A tap's station is compared with what is on the bus by moments alone: by when all that it heard begin was over, and
-- by when its own telegrams were. No list of bursts is kept. This also holds with a cable delay.
use Rattle.std.specs.Prelude.{◌≡◌, ◌⊎◌, ℕ, ◌+◌, ◌*◌, ◌<◌, ◌≤◌, true, List, Option, Some, None}
use Rattle.std.specs.Option.{option_and_then}
use Rattle.pb_timers.specs.Timers.{Params}
use Rattle.law_turn.specs.Spans.{Span}
use Rattle.law_model.specs.Trace.{Entry, Sent, Noise}
use Rattle.law_model.specs.Medium.{part_after, at_tap}
use Rattle.law_runs.specs.Initiators.{is_initiator}
use Rattle.law_token.specs.Lists.{Each}

-- ---- the bus parameters

-- What the bus parameters leave time for. The taker speaks after an idle time, late by at most the lag, and its
-- telegram arrives a cable delay later; the token had taken a cable delay before. All this ends before the slot of the
-- token is over (`take`). With one bit time less the passer speaks again in the same instant as the taker. The token
-- does not need a reply to come within its slot.
pub record LeavesTime (p : Params) : Type 0 where
  pub slot : 100 ≤ p.tsl
  pub idle : 33 ≤ p.tid1
  pub idle_order : p.tid1 ≤ p.tid2
  pub take : p.tid2 + p.lag + 2 * p.ttd < p.tsl
  pub highest : p.hsa < 127

-- ---- the place of a tap

-- a tap with its index and address, running since a moment, on a bus at a clock
pub record Place : Type 0 where
  pub p : Params
  pub now : ℕ
  pub tap : ℕ
  pub address : ℕ
  pub since : ℕ

-- the part of an entry that a tap senses: not its own telegrams, and from its start on
abbrev pub heard_span : ℕ → ℕ → ℕ → Entry → Option Span
heard_span delay tap since e = option_and_then (part_after since) (at_tap delay tap e)

-- ---- by when it was over

-- what begins before the clock is over by a moment
abbrev pub IsOver : ℕ → ℕ → Option Span → Type 0
IsOver now q None = Unit {0}
IsOver now q (Some x) = (now ≤ x.begin) ⊎ (x.end ≤ q)

-- all that the tap has heard begin is over by a moment
abbrev pub OverIn : (delay tap since now q : ℕ) → List Entry → Type 0
OverIn delay tap since now q trace = Each (λ e. IsOver now q (heard_span delay tap since e)) trace

abbrev pub Over : Place → List Entry → ℕ → Type 0
Over c trace q = OverIn c.p.ttd c.tap c.since c.now q trace

-- the initiator telegrams of a tap have ended by a moment
abbrev pub InitEnds : ℕ → ℕ → Entry → Type 0
InitEnds tap q (Noise span) = Unit {0}
InitEnds tap q (Sent r) = r.tap ≡ tap → is_initiator r ≡ true → r.end ≤ q

abbrev pub InitsBy : ℕ → ℕ → List Entry → Type 0
InitsBy tap q trace = Each (InitEnds tap q) trace

-- what the tap hears begins at a moment or later, or was over by then
abbrev pub IsSplit : ℕ → Option Span → Type 0
IsSplit m None = Unit {0}
IsSplit m (Some x) = (m ≤ x.begin) ⊎ (x.end ≤ m)

-- what the tap hears has begun before the clock, or begins at a limit or later
abbrev pub Spares : ℕ → ℕ → Option Span → Type 0
Spares now limit None = Unit {0}
Spares now limit (Some x) = (x.begin < now) ⊎ (limit ≤ x.begin)

-- a telegram of the tap is the last one that it knows of, or ended before that began
abbrev pub IsOwn : ℕ → Span → Entry → Type 0
IsOwn tap own (Noise span) = Unit {0}
IsOwn tap own (Sent r) = r.tap ≡ tap → ((r.begin ≡ own.begin) × (r.end ≡ own.end)) ⊎ (r.end ≤ own.begin)
