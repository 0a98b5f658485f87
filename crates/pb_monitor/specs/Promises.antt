-- What a listener's alarms mean.
use Rattle.std.specs.Prelude.{◌≡◌, ℕ, ◌*◌, ◌<◌, true, List, [], map, None}
use Rattle.pb_timers.specs.Timers.{Params}
use Rattle.law_turn.specs.Arrivals.{arrival_of}
use Rattle.law_model.specs.Trace.{Entry, Sent, Noise}
use Rattle.law_model.specs.Medium.{TapSpec}
use Rattle.law_runs.specs.Initiators.{telegram_of, is_initiator}
use Rattle.law_runs.specs.Legality.{address_at, first_illegal}
use Rattle.law_runs.specs.Judging.{IsOrdered}
use Rattle.pb_monitor.specs.declared.alarms.Alarm.{Alarm}
use Rattle.pb_monitor.specs.declared.alarms.AlarmClass.TheVariants.{Legality}
use Rattle.pb_monitor.specs.declared.alarms.Classes.{Classes}
use Rattle.pb_monitor.specs.Captures.{Burst, All, Hears}
use Rattle.pb_monitor.specs.Meanings.{source_of, meaning_of}
use Rattle.pb_monitor.specs.Judge.{listening, alarms, class_of}
use Rattle.pb_monitor.specs.Orders.{wrongs}

-- what an initiator telegram names as its source is its speaker's address
abbrev pub IsBySource : List TapSpec → Entry → Type 0
IsBySource specs (Noise span) = Unit {0}
IsBySource specs (Sent r) = is_initiator r ≡ true → source_of (telegram_of r) ≡ address_at specs r.tap

-- the alarm does not say that a telegram is illegal
abbrev pub IsNotOfLegality : Alarm → Type 0
IsNotOfLegality alarm = class_of alarm ≡ Legality → ⊥

-- Whatever a listener hears of a legal trace, since any moment and with any damage at its own tap, raises no alarm of
-- legality: no world, premise or station has a part in this.
abbrev pub LegalTracesRaiseNone : Type 0
LegalTracesRaiseNone = (p : Params) (slack : ℕ) (c : Classes) (specs : List TapSpec) (trace : List Entry) (since : ℕ) (bs : List Burst) → 2 * p.ttd < p.tsl
    → All (IsBySource specs) trace → IsOrdered trace → first_illegal p specs trace ≡ None → Hears p.ttd since trace bs
    → All (λ x. IsNotOfLegality x.1) (alarms p slack c since (listening since) bs)

-- nor is any of its telegrams wrong by their order alone
abbrev pub LegalOrdersAreRight : Type 0
LegalOrdersAreRight = (p : Params) (specs : List TapSpec) (trace : List Entry) (since : ℕ) (bs : List Burst) → 2 * p.ttd < p.tsl
    → All (IsBySource specs) trace → IsOrdered trace → first_illegal p specs trace ≡ None → Hears p.ttd since trace bs
    → wrongs None (map (λ b. meaning_of (arrival_of b.chars)) bs) ≡ []
