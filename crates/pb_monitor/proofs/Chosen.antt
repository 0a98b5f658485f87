-- Where no telegram is judged illegal, no alarm is of legality, whatever classes are chosen.
use Rattle.std.proofs.Common.{◌≡◌, ℕ, ◌+◌, Bool, true, false, if◌then◌else◌, not, ◌==◌, ◌*◌, ◌&&◌, List, [], ◌∷◌, Option, Some, None}
use Rattle.std.specs.Prelude.{nat_lt}
use Rattle.pb_timers.specs.Timers.{Params}
use Rattle.law_turn.specs.Arrivals.{arrival_of}
use Rattle.law_runs.specs.Initiators.{initiates}
use Rattle.pb_monitor.specs.declared.alarms.Alarm.{Alarm}
use Rattle.pb_monitor.specs.declared.alarms.Alarm.TheVariants.{SpokeAfterLoss, ClaimedTooEarlyAfterLoss, TookLate, TookTooSoon}
use Rattle.pb_monitor.specs.declared.alarms.Classes.{Classes}
use Rattle.pb_monitor.specs.declared.meanings.InitiatorTelegram.{InitiatorTelegram}
use Rattle.pb_monitor.specs.declared.states.LastHeard.{LastHeard}
use Rattle.pb_monitor.specs.declared.states.State.{State}
use Rattle.pb_monitor.specs.Captures.{Burst, All}
use Rattle.pb_monitor.specs.Meanings.{initiator_of}
use Rattle.pb_monitor.specs.Judge.{live, may_claim, judged, judged_last, judged_legal, judged_taking, taking_offer, taking_last, chosen, lost_alarm, or_alarm, silence_before, behind, alarm_of, legal_alarm_of, with_alarm}
use Rattle.pb_monitor.specs.Promises.{IsNotOfLegality}

-- no alarm of legality, if any
abbrev pub IsGood : Option Alarm → Type 0
IsGood None = Unit {0}
IsGood (Some alarm) = IsNotOfLegality alarm

pub with_good : (begin : ℕ) (o : Option Alarm) (later : List (ℕ × Alarm)) → IsGood o → All (λ x. IsNotOfLegality x.1) later → All (λ x. IsNotOfLegality x.1) (with_alarm begin o later)
with_good begin None later good rest = rest
with_good begin (Some alarm) later good rest = (good, rest)

good_if : (b : Bool) (x y : Option Alarm) → IsGood x → IsGood y → IsGood (if b then x else y)
good_if true x y g h = g
good_if false x y g h = h

good_taking : (p : Params) (slack : ℕ) (l : LastHeard) (begin : ℕ) → IsGood (judged_taking p slack l begin)
good_taking p slack l begin = by (nat_lt (l.end + (p.tid1 + p.lag + 2 * p.ttd + slack)) begin) (nat_lt (begin + slack) (l.end + p.tid1))
  where
    by : (b c : Bool) → IsGood (if b then Some TookLate else or_alarm (not c) TookTooSoon)
    by true c = λ e. cc
    by false true = λ e. cc
    by false false = tt

good_offer : (p : Params) (slack : ℕ) (l : LastHeard) (o : Option ℕ) (begin : ℕ) (t : InitiatorTelegram) → IsGood (taking_offer p slack l o begin t)
good_offer p slack l None begin t = tt
good_offer p slack l (Some to) begin t = good_if (not (t.source == l.source) && t.source == to) (judged_taking p slack l begin) None (good_taking p slack l begin) tt

good_last : (p : Params) (slack : ℕ) (o : Option LastHeard) (begin : ℕ) (t : InitiatorTelegram) → IsGood (taking_last p slack o begin t)
good_last p slack None begin t = tt
good_last p slack (Some l) begin t = good_offer p slack l l.offered begin t

good_lost : (t : InitiatorTelegram) → IsGood (Some (lost_alarm t))
good_lost t = by t.is_claim
  where
    by : (b : Bool) → IsGood (Some (if b then ClaimedTooEarlyAfterLoss else SpokeAfterLoss))
    by true = λ e. cc
    by false = λ e. cc

good_chosen : (c : Classes) (o timing : Option Alarm) → o ≡ None → IsGood timing → IsGood (chosen c o timing)
good_chosen c None timing e good = good_if c.timing timing None good tt
good_chosen c (Some alarm) timing e good = absurd cc

good_judged : (p : Params) (slack : ℕ) (c : Classes) (since : ℕ) (j : State) (begin : ℕ) (t : InitiatorTelegram) → judged_legal p slack since j begin t ≡ None → IsGood (judged p slack c since j begin t)
good_judged p slack c since j begin t h = by (may_claim p slack since j begin t) h
  where
    by : (b : Bool) → (if b then None else judged_last p slack j.last begin t) ≡ None
        → IsGood (if b then None else if c.loss && nat_lt (j.quiet + live p slack) begin then Some (lost_alarm t) else chosen c (judged_last p slack j.last begin t) (taking_last p slack j.last begin t))
    by true e = tt
    by false e = good_if (c.loss && nat_lt (j.quiet + live p slack) begin) (Some (lost_alarm t)) (chosen c (judged_last p slack j.last begin t) (taking_last p slack j.last begin t))
        (good_lost t) (good_chosen c (judged_last p slack j.last begin t) (taking_last p slack j.last begin t) e (good_last p slack j.last begin t))

pub not_of_legality : (p : Params) (slack : ℕ) (c : Classes) (since : ℕ) (j : State) (b : Burst) → legal_alarm_of p slack since j b ≡ None → IsGood (alarm_of p slack c since j b)
not_of_legality p slack c since j b h = by (initiates (arrival_of b.chars)) h
  where
    by : (d : Bool) → (if d then judged_legal p slack since (silence_before p slack j b.begin) b.begin (initiator_of (arrival_of b.chars)) else None) ≡ None
        → IsGood (if d then judged p slack c since (silence_before p slack j b.begin) b.begin (initiator_of (arrival_of b.chars)) else None)
    by true e = good_judged p slack c since (silence_before p slack j b.begin) b.begin (initiator_of (arrival_of b.chars)) e
    by false e = tt

-- no telegram of some bursts is illegal
abbrev pub AllLegal : Params → (slack since : ℕ) → State → List Burst → Type 0
AllLegal p slack since j [] = Unit {0}
AllLegal p slack since j (b ∷ bs) = (legal_alarm_of p slack since j b ≡ None) × AllLegal p slack since (behind p slack j b) bs
