-- Which initiator telegrams come in time: a stricter law than legality.
use Rattle.std.specs.Prelude.{◌≡◌, ◌⊎◌, ℕ, ◌+◌, ◌*◌, ◌<◌, ◌≤◌, true, false, List, [], ◌∷◌, Option, Some, None}
use Rattle.pb_timers.specs.Timers.{Params}
use Rattle.law_model.specs.Trace.{Record, Entry, Sent, Noise}
use Rattle.law_model.specs.Medium.{TapSpec}
use Rattle.law_model.specs.World.{World, Event}
use Rattle.law_runs.specs.Activity.{is_silent}
use Rattle.law_runs.specs.Initiators.{is_initiator, offered_to, later_record}
use Rattle.law_runs.specs.Judging.{IsOrdered}
use Rattle.law_runs.specs.Legality.{is_claim, first_illegal}
use Rattle.law_runs.specs.Premises.{first_broken}
use Rattle.law_token.specs.Places.{LeavesTime}
use Rattle.law_token.specs.Promises.{HasRun}
use Rattle.pb_monitor.specs.declared.alarms.Classes.{Classes}
use Rattle.pb_monitor.specs.Captures.{Burst, All}
use Rattle.pb_monitor.specs.Judge.{listening, alarms}
use Rattle.pb_monitor.specs.Promises.{IsBySource}
use Rattle.law_monitor.specs.Captures.{HearsSince}

-- its speaker was not in silence before it for longer than a slot and the lag
abbrev pub EndsNoLoss : Params → List Entry → Record → Type 0
EndsNoLoss p trace r = (from : ℕ) → from + (p.tsl + p.lag) < r.begin → is_silent p.ttd r.tap trace from r.begin ≡ false

-- If another offered the token by the telegram before, it comes an idle time after that has arrived, late by the lag at
-- most.
abbrev pub TakesInTime : Params → Option Record → Record → Type 0
TakesInTime p None r = Unit {0}
TakesInTime p (Some last) r = (to : ℕ) → offered_to last ≡ Some to → (last.tap ≡ r.tap → ⊥)
    → (last.end + (p.ttd + p.tid1) ≤ r.begin) × (r.begin ≤ last.end + (p.ttd + p.tid1 + p.lag))

-- it is a claim, or both hold
abbrev pub IsTimely : Params → List TapSpec → List Entry → Option Record → Record → Type 0
IsTimely p specs trace last r = (is_claim p specs trace r ≡ true) ⊎ (EndsNoLoss p trace r × TakesInTime p last r)

-- each initiator telegram of some entries has a property after the one before it
abbrev pub Successive : (Option Record → Record → Type 0) → Option Record → List Entry → Type 0
Successive P last [] = Unit {0}
Successive P last (Noise span ∷ es) = Successive P last es
Successive P last (Sent r ∷ es) = (is_initiator r ≡ true → P last r) × Successive P (later_record last r) es

abbrev pub AllTimely : Params → List TapSpec → List Entry → Type 0
AllTimely p specs trace = Successive (IsTimely p specs trace) None trace

-- In every run that keeps the premises each initiator telegram comes in time.
abbrev pub RunsAreTimely : Type 0
RunsAreTimely = (p : Params) (specs : List TapSpec) (events : List Event) (new w : World) → LeavesTime p → HasRun p specs events new w → first_broken new events ≡ None
    → AllTimely p specs w.trace

-- ---- what this means for a listener

-- Whatever a listener hears of such a trace, if it is legal too, raises no alarm of any class.
abbrev pub TimelyTracesRaiseNone : Type 0
TimelyTracesRaiseNone = (p : Params) (slack : ℕ) (c : Classes) (specs : List TapSpec) (trace : List Entry) (since : ℕ) (bs : List Burst) → 2 * p.ttd < p.tsl
    → All (IsBySource specs) trace → IsOrdered trace → first_illegal p specs trace ≡ None → AllTimely p specs trace → HearsSince p.ttd since trace bs
    → alarms p slack c since (listening since) bs ≡ []
