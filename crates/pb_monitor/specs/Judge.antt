-- The judge over bursts: which initiator telegrams are wrong. It keeps a few moments, and no list. All moments may be
-- wrong by up to half the slack, which loosens each comparison; it is 0 where they are exact.
use Rattle.std.specs.Prelude.{ℕ, ◌+◌, ◌*◌, Bool, true, false, if◌then◌else◌, not, ◌==◌, nat_lt, nat_le, ◌&&◌, ◌||◌, List, [], ◌∷◌, Option, Some, None}
use Rattle.pb_timers.specs.Timers.{Params, tto}
use Rattle.law_turn.specs.Arrivals.{Arrival, arrival_of}
use Rattle.law_runs.specs.Initiators.{initiates}
use Rattle.pb_monitor.specs.declared.alarms.Alarm.{Alarm}
use Rattle.pb_monitor.specs.declared.alarms.Alarm.TheVariants.{SpokeWithoutToken, SpokeOutOfTurn, PassedAgainTooEarly, PassedAgainThoughHeard, TookAfterSlot, ClaimedTooEarly, SpokeAfterLoss, ClaimedTooEarlyAfterLoss, TookLate, TookTooSoon}
use Rattle.pb_monitor.specs.declared.alarms.AlarmClass.{AlarmClass}
use Rattle.pb_monitor.specs.declared.alarms.AlarmClass.TheVariants.{Legality, Loss, Timing}
use Rattle.pb_monitor.specs.declared.alarms.Classes.{Classes}
use Rattle.pb_monitor.specs.declared.meanings.InitiatorTelegram.{InitiatorTelegram}
use Rattle.pb_monitor.specs.declared.meanings.Meaning.{Meaning}
use Rattle.pb_monitor.specs.declared.meanings.Meaning.TheVariants as meaning
use Rattle.pb_monitor.specs.declared.states.LastHeard.{LastHeard}
use Rattle.pb_monitor.specs.declared.states.State.{State}
use Rattle.pb_monitor.specs.Captures.{Burst}
use Rattle.pb_monitor.specs.Meanings.{is_none, initiator_of}

-- one that has just begun to listen
abbrev pub listening : ℕ → State
listening since = record { last = None; quiet = since; silent_from = since; silent_to = since; lost = false }

abbrev pub class_of : Alarm → AlarmClass
class_of SpokeWithoutToken = Legality
class_of SpokeOutOfTurn = Legality
class_of PassedAgainTooEarly = Legality
class_of PassedAgainThoughHeard = Legality
class_of TookAfterSlot = Legality
class_of ClaimedTooEarly = Legality
class_of SpokeAfterLoss = Loss
class_of ClaimedTooEarlyAfterLoss = Loss
class_of TookLate = Timing
class_of TookTooSoon = Timing

-- the longest silence that a token in use leaves at a listener
abbrev pub live : Params → (slack : ℕ) → ℕ
live p slack = p.tsl + p.lag + 2 * p.ttd + slack

-- ---- an initiator telegram that begins at a moment

-- The silence that is kept may be a claimer's time-out: it was as long, or it began no later than the listener did, which
-- has not listened for so long.
abbrev pub may_be_its : Params → (slack since : ℕ) → State → ℕ → InitiatorTelegram → Bool
may_be_its p slack since j begin t =
    (nat_le j.silent_from since && nat_lt begin (since + (p.ttd + tto p t.source + slack)))
    || nat_le (j.silent_from + tto p t.source) (begin + slack)

-- A claim, before which its speaker had silence for its time-out. Noise reaches a listener sooner than a telegram: so a
-- silence that ended a cable delay ago at most counts too.
abbrev pub may_claim : Params → (slack since : ℕ) → State → ℕ → InitiatorTelegram → Bool
may_claim p slack since j begin t = t.is_claim && (nat_le begin (j.silent_to + (p.ttd + slack)) && may_be_its p slack since j begin t)

abbrev pub or_alarm : Bool → Alarm → Option Alarm
or_alarm good alarm = if good then None else Some alarm

abbrev pub or_claim : (is_claim : Bool) → Alarm → Option Alarm
or_claim is_claim alarm = Some (if is_claim then ClaimedTooEarly else alarm)

-- the source of a token that was offered to another speaks again
abbrev pub judged_passing : Params → (slack : ℕ) → LastHeard → ℕ → Option Alarm
judged_passing p slack l begin = if nat_lt (begin + slack) (l.end + p.tsl) then Some PassedAgainTooEarly else or_alarm (not l.touched) PassedAgainThoughHeard

abbrev pub judged_offer : Params → (slack : ℕ) → LastHeard → Option ℕ → ℕ → InitiatorTelegram → Option Alarm
judged_offer p slack l None begin t = if t.source == l.source then None else or_claim t.is_claim SpokeWithoutToken
judged_offer p slack l (Some to) begin t =
    if t.source == l.source then judged_passing p slack l begin
    else if t.source == to then (if nat_lt begin (l.end + (p.tsl + p.ttd + slack)) then None else or_claim t.is_claim TookAfterSlot)
    else or_claim t.is_claim SpokeOutOfTurn

-- whether it is legal after the last one, as far as that is known
abbrev pub judged_last : Params → (slack : ℕ) → Option LastHeard → ℕ → InitiatorTelegram → Option Alarm
judged_last p slack None begin t = None
judged_last p slack (Some l) begin t = judged_offer p slack l l.offered begin t

-- whether it is legal
abbrev pub judged_legal : Params → (slack since : ℕ) → State → ℕ → InitiatorTelegram → Option Alarm
judged_legal p slack since j begin t = if may_claim p slack since j begin t then None else judged_last p slack j.last begin t

-- a station takes the token an idle time after it, and no later than a turn may be
abbrev pub judged_taking : Params → (slack : ℕ) → LastHeard → ℕ → Option Alarm
judged_taking p slack l begin =
    if nat_lt (l.end + (p.tid1 + p.lag + 2 * p.ttd + slack)) begin then Some TookLate
    else or_alarm (not (nat_lt (begin + slack) (l.end + p.tid1))) TookTooSoon

abbrev pub taking_offer : Params → (slack : ℕ) → LastHeard → Option ℕ → ℕ → InitiatorTelegram → Option Alarm
taking_offer p slack l None begin t = None
taking_offer p slack l (Some to) begin t = if not (t.source == l.source) && t.source == to then judged_taking p slack l begin else None

abbrev pub taking_last : Params → (slack : ℕ) → Option LastHeard → ℕ → InitiatorTelegram → Option Alarm
taking_last p slack None begin t = None
taking_last p slack (Some l) begin t = taking_offer p slack l l.offered begin t

-- the alarm of legality, if there is one, else that of timing; each only where its class was chosen
abbrev pub chosen : Classes → Option Alarm → Option Alarm → Option Alarm
chosen c (Some illegal) timing = if c.legality then Some illegal else None
chosen c None timing = if c.timing then timing else None

abbrev pub lost_alarm : InitiatorTelegram → Alarm
lost_alarm t = if t.is_claim then ClaimedTooEarlyAfterLoss else SpokeAfterLoss

-- after a silence that no token in use leaves only a claim may come
abbrev pub judged : Params → (slack : ℕ) → Classes → (since : ℕ) → State → ℕ → InitiatorTelegram → Option Alarm
judged p slack c since j begin t =
    if may_claim p slack since j begin t then None
    else if c.loss && nat_lt (j.quiet + live p slack) begin then Some (lost_alarm t)
    else chosen c (judged_last p slack j.last begin t) (taking_last p slack j.last begin t)

-- ---- one burst more

-- A silence that may be a time-out: the shortest is that of address 0, and noise may end it a cable delay before a claim.
abbrev pub may_be_timeout : Params → (slack from to : ℕ) → Bool
may_be_timeout p slack from to = nat_le (from + 6 * p.tsl) (to + (p.ttd + slack))

-- Where the silence begins that is kept: where the one before it did, as long as a claim may still come after that one.
abbrev pub silent_since : Params → (slack : ℕ) → State → ℕ → ℕ
silent_since p slack j begin = if nat_le begin (j.silent_to + (p.ttd + slack)) then j.silent_from else j.quiet

-- A silence that is kept. One in which listening began may have begun earlier: it may always be a time-out.
abbrev pub is_kept : Params → (slack : ℕ) → State → ℕ → Bool
is_kept p slack j begin = j.quiet == j.silent_to || may_be_timeout p slack j.quiet begin

abbrev pub silence_before : Params → (slack : ℕ) → State → ℕ → State
silence_before p slack j begin =
    if is_kept p slack j begin then record j { silent_from = silent_since p slack j begin; silent_to = begin } else j

-- something begins in the part of a token's slot in which its speaker surely hears it
abbrev pub touch : Params → (slack : ℕ) → ℕ → Option LastHeard → Option LastHeard
touch p slack begin None = None
touch p slack begin (Some l) = Some (record l { touched = l.touched || nat_lt (begin + (2 * p.ttd + slack)) (l.end + p.tsl) })

abbrev pub heard_at : ℕ → InitiatorTelegram → LastHeard
heard_at end t = record { source = t.source; offered = t.offered; end = end; touched = false }

abbrev pub last_behind : Params → (slack : ℕ) → State → Burst → Arrival → Option LastHeard
last_behind p slack j b a = if initiates a then Some (heard_at b.end (initiator_of a)) else if is_none a then None else touch p slack b.begin j.last

abbrev pub behind : Params → (slack : ℕ) → State → Burst → State
behind p slack j b = record (silence_before p slack j b.begin) {
  last = last_behind p slack j b (arrival_of b.chars);
  quiet = b.end;
  lost = not (initiates (arrival_of b.chars)) && (j.lost || nat_lt (j.quiet + live p slack) b.begin);
}

abbrev pub alarm_of : Params → (slack : ℕ) → Classes → (since : ℕ) → State → Burst → Option Alarm
alarm_of p slack c since j b =
    if initiates (arrival_of b.chars) then judged p slack c since (silence_before p slack j b.begin) b.begin (initiator_of (arrival_of b.chars)) else None

-- the same by what a telegram means
abbrev pub last_by : Params → (slack : ℕ) → State → (begin end : ℕ) → Meaning → Option LastHeard
last_by p slack j begin end (meaning.Initiator t) = Some (heard_at end t)
last_by p slack j begin end meaning.Reply = touch p slack begin j.last
last_by p slack j begin end meaning.NoTelegram = None

abbrev pub initiates_by : Meaning → Bool
initiates_by (meaning.Initiator t) = true
initiates_by meaning.Reply = false
initiates_by meaning.NoTelegram = false

abbrev pub behind_by : Params → (slack : ℕ) → State → (begin end : ℕ) → Meaning → State
behind_by p slack j begin end m = record (silence_before p slack j begin) {
  last = last_by p slack j begin end m;
  quiet = end;
  lost = not (initiates_by m) && (j.lost || nat_lt (j.quiet + live p slack) begin);
}

abbrev pub alarm_by : Params → (slack : ℕ) → Classes → (since : ℕ) → State → ℕ → Meaning → Option Alarm
alarm_by p slack c since j begin (meaning.Initiator t) = judged p slack c since (silence_before p slack j begin) begin t
alarm_by p slack c since j begin meaning.Reply = None
alarm_by p slack c since j begin meaning.NoTelegram = None

-- ---- all bursts

abbrev pub behind_all : Params → (slack : ℕ) → State → List Burst → State
behind_all p slack j [] = j
behind_all p slack j (b ∷ bs) = behind_all p slack (behind p slack j b) bs

abbrev pub with_alarm : ℕ → Option Alarm → List (ℕ × Alarm) → List (ℕ × Alarm)
with_alarm begin None later = later
with_alarm begin (Some alarm) later = (begin, alarm) ∷ later

-- each alarm, with the moment at which its telegram begins
abbrev pub alarms : Params → (slack : ℕ) → Classes → (since : ℕ) → State → List Burst → List (ℕ × Alarm)
alarms p slack c since j [] = []
alarms p slack c since j (b ∷ bs) = with_alarm b.begin (alarm_of p slack c since j b) (alarms p slack c since (behind p slack j b) bs)

-- the first illegal telegram
abbrev pub legal_alarm_of : Params → (slack since : ℕ) → State → Burst → Option Alarm
legal_alarm_of p slack since j b =
    if initiates (arrival_of b.chars) then judged_legal p slack since (silence_before p slack j b.begin) b.begin (initiator_of (arrival_of b.chars)) else None
