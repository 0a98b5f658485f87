-- A running tap: what its station knows of time, and of the token.
--
-- Most is said of its view: the station once it has read its unread marks. So nothing need be said of which
-- marks are unread. A pass of time appends marks, and a turn that says nothing leaves the view as it is.
use Rattle.std.specs.Prelude.{◌≡◌, ◌⊎◌, ℕ, ◌+◌, ◌<◌, ◌≤◌, Bool, true, false, List, [], ◌∷◌, Option, Some, None, IfSome}
use Rattle.std.specs.List.{list_any}
use Rattle.pb_timers.specs.Timers.{Params}
use Rattle.law_turn.specs.Laws.{IsSilentWhileBusy}
use Rattle.law_turn.specs.Marks.{Mark, seen_at}
use Rattle.law_turn.specs.Phases.{Phase, Offline, PassiveIdle, Listening, Idle, Claim, Use, AwaitData, AwaitStatus, Pass, Checking}
use Rattle.law_turn.specs.Spans.{Span}
use Rattle.law_turn.specs.Stations.{Station, Reply, due_of}
use Rattle.law_turn.specs.Turns.{after_marks}
use Rattle.law_model.specs.Trace.{Record, Entry}
use Rattle.law_model.specs.Medium.{Tap, overlaps, sends_during}
use Rattle.law_token.specs.Lists.{Each}
use Rattle.law_token.specs.Places.{Place, Over, InitsBy, IsSplit, IsOwn, heard_span}
use Rattle.law_token.specs.Tokens.{Held, Taken, Offers, Doomed}

-- ---- time

-- Between a Begin and its End, something that the tap hears is still there. Otherwise all is over, by the moment since
-- which the station counts the bus as quiet, and by the clock. The first may be after the clock, while the station's
-- own telegram is on the bus.
abbrev pub Senses : Place → List Entry → (busy : Bool) (quiet : ℕ) → Type 0
Senses c trace true quiet = (q : ℕ) → Over c trace q → c.now < q
Senses c trace false quiet = Over c trace quiet × Over c trace c.now

-- What a station that is not offline knows of time. `split` says that it speaks only once all it heard is over: a Begin
-- from the begin of its own telegram on is that of a later telegram, and so it ends a check. `sent` ties the own
-- telegram to the trace; it is empty before the first one.
pub record Knows (c : Place) (trace : List Entry) (busy : Bool) (quiet : ℕ) (own : Span) : Type 0 where
  pub senses : Senses c trace busy quiet
  pub started : c.since ≤ own.begin
  pub begun : own.begin ≤ c.now
  pub order : own.begin ≤ own.end
  pub ended : own.end ≤ quiet
  pub quiet_by : (quiet ≤ c.now) ⊎ (quiet ≡ own.end)
  pub split : Each (λ e. IsSplit own.begin (heard_span c.p.ttd c.tap c.since e)) trace
  pub owns : Each (IsOwn c.tap own) trace
  pub sent : own.begin < own.end → (span : Span) → list_any (sends_during c.tap span) trace ≡ false → overlaps own span ≡ false

abbrev pub KnowsIn : Place → List Entry → Phase → (busy : Bool) (quiet : ℕ) → Span → Type 0
KnowsIn c trace Offline busy quiet own = Unit {0}
KnowsIn c trace _ busy quiet own = Knows c trace busy quiet own

-- The moment since which the station counts the bus as quiet is the end of what it heard, or of an initiator telegram
-- of its own. So a holder acts within a slot after a telegram that counts for all, and the bus is never silent for two
-- slots while there is a token.
abbrev pub IsRecent : Place → List Entry → ℕ → Type 0
IsRecent c trace quiet = (q : ℕ) → Over c trace q ⊎ (c.now ≤ q) → InitsBy c.tap q trace → quiet ≤ q

-- ---- the token

-- a reply that is not sent yet is due a reply delay after the end of what was heard; a busy station has none
abbrev pub Waits : Place → (busy : Bool) (quiet : ℕ) → Option Reply → Type 0
Waits c true quiet reply = reply ≡ None
Waits c false quiet reply = IfSome reply (λ a. a.ready ≡ quiet + c.p.tsdr)

-- a slot runs from the end of the own telegram: nothing was heard since its begin
pub record Armed (c : Place) (trace : List Entry) (quiet : ℕ) (own : Span) : Type 0 where
  pub still : quiet ≡ own.end
  pub clean : Over c trace own.begin

-- a station that waits for a reply: busy, or in its slot, or about to ask again
abbrev pub Awaits : Place → List Entry → (busy : Bool) (quiet : ℕ) → Span → (retry : Option ℕ) (slot : Bool) → Type 0
Awaits c trace true quiet own retry slot = (retry ≡ None) × (slot ≡ false)
Awaits c trace false quiet own None slot = (slot ≡ true) × Armed c trace quiet own
Awaits c trace false quiet own (Some m) slot = (slot ≡ false) × (m ≡ quiet + c.p.tid1)

-- The view in each phase. A holder is not busy unless it waits for a reply: a Begin takes the token from it. A station
-- that uses the token speaks after tid1, or after tid2 if it has sent a request that is not answered. A checking
-- station has offered the token, or is doomed. Pass occurs only within a turn.
abbrev pub ViewOf : Place → List Entry → Option Record → Phase → (busy : Bool) (quiet : ℕ) → Span → Option Reply → Type 0
ViewOf c trace last Offline busy quiet own reply = Unit {0}
ViewOf c trace last PassiveIdle busy quiet own reply = Waits c busy quiet reply
ViewOf c trace last (Listening doubled) busy quiet own reply = Waits c busy quiet reply
ViewOf c trace last (Idle refused) busy quiet own reply = Waits c busy quiet reply
ViewOf c trace last (Claim sent ready) busy quiet own reply =
    (busy ≡ false) × (quiet ≡ own.end) × (ready ≡ own.end + c.p.tid1) × Held last c.tap own × IsRecent c trace quiet
ViewOf c trace last (Use asked ready) busy quiet own reply =
    (busy ≡ false) × (quiet < ready) × (ready ≤ quiet + c.p.tid2) × IsRecent c trace quiet
    × (Held last c.tap own ⊎ (Taken c.p.ttd last c.tap c.address quiet × (ready ≡ quiet + c.p.tid1)))
ViewOf c trace last (AwaitData asked retry slot) busy quiet own reply =
    Awaits c trace busy quiet own retry slot × Held last c.tap own × IsRecent c trace quiet
ViewOf c trace last (AwaitStatus of slot) busy quiet own reply =
    Awaits c trace busy quiet own None slot × Held last c.tap own × IsRecent c trace quiet
ViewOf c trace last (Pass tries ready) busy quiet own reply = ⊥
ViewOf c trace last (Checking tries) busy quiet own reply =
    (busy ≡ false) × Armed c trace quiet own × IsRecent c trace quiet × (Offers last c.tap own ⊎ Doomed c trace own)

-- ---- the station with its unread marks

abbrev pub IsOn : Phase → Type 0
IsOn Offline = ⊥
IsOn PassiveIdle = Unit {0}
IsOn (Listening doubled) = Unit {0}
IsOn (Idle refused) = Unit {0}
IsOn (Claim sent ready) = Unit {0}
IsOn (Use asked ready) = Unit {0}
IsOn (AwaitData asked retry slot) = Unit {0}
IsOn (AwaitStatus of slot) = Unit {0}
IsOn (Pass tries ready) = Unit {0}
IsOn (Checking tries) = Unit {0}

-- the first unread mark was delivered by a moment
abbrev pub SeenBy : ℕ → List Mark → Type 0
SeenBy q [] = Unit {0}
SeenBy q (m ∷ ms) = seen_at m ≤ q

-- how a phase in which a station may initiate depends on the last initiator telegram
abbrev pub Grip : Place → Option Record → Phase → Span → Type 0
Grip c last Offline own = Unit {0}
Grip c last PassiveIdle own = Unit {0}
Grip c last (Listening doubled) own = Unit {0}
Grip c last (Idle refused) own = Unit {0}
Grip c last (Claim sent ready) own = Held last c.tap own
Grip c last (Use asked ready) own = Held last c.tap own ⊎ ((at : ℕ) × Taken c.p.ttd last c.tap c.address at × (ready ≡ at + c.p.tid1))
Grip c last (AwaitData asked retry slot) own = Held last c.tap own
Grip c last (AwaitStatus of slot) own = Held last c.tap own
Grip c last (Pass tries ready) own = Held last c.tap own
Grip c last (Checking tries) own = Unit {0}

abbrev pub view : Params → Tap → Station
view p t = after_marks p t.station t.marks

abbrev pub place : Params → ℕ → ℕ → Tap → Place
place p now k t = record { p = p; now = now; tap = k; address = t.spec.address; since = t.since }

-- What holds of a running tap. `silent`: once it has read its marks, a busy station sends nothing, and one that answers
-- no requests keeps no reply. `in_time` is the third premise as a fact of each world: no turn is overdue by more than
-- the lag. `seen`: the first unread mark is as old as something that is still on the bus, so a station that has not
-- read it is not late either.
pub record TapHolds (p : Params) (now : ℕ) (trace : List Entry) (last : Option Record) (k : ℕ) (t : Tap) : Type 0 where
  pub began : t.since ≤ now
  pub address : t.station.address ≡ t.spec.address
  pub in_time : IfSome (due_of p t.station t.marks) (λ d. now ≤ d + p.lag)
  pub seen : IsOn t.station.phase → (q : ℕ) → Over (place p now k t) trace q ⊎ (now ≤ q) → SeenBy q t.marks
  pub knows : KnowsIn (place p now k t) trace (view p t).phase (view p t).busy (view p t).quiet (view p t).own
  pub view_ok : ViewOf (place p now k t) trace last (view p t).phase (view p t).busy (view p t).quiet (view p t).own (view p t).reply
  pub grip : Grip (place p now k t) last t.station.phase t.station.own
  pub silent : IsSilentWhileBusy (view p t)
