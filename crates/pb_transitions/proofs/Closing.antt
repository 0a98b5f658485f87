-- How message cycles are closed.
use Rattle.std.proofs.Common.{◌≡◌, ◌∙◌, ap, sym, refl, ℕ, Bool, true, false, Option, Some, None}
use Rattle.std.specs.Option.{option_map}
use Rattle.std.specs.Prelude.{is_some, ◌+◌}
use Rattle.pb_timers.specs.Timers.{Params}
use Rattle.pb_cycles.specs.declared.messages.Message.{Message}
use Rattle.pb_cycles.specs.Initiating.{outcome_of, closed_by}
use Rattle.pb_cycles.specs.declared.initiators.OpenRequest.{OpenRequest}
use Rattle.pb_cycles.specs.declared.outcomes.Outcome.{Outcome}
use Rattle.law_turn.specs.Hearing.{asked_station, outcome_at, cycle_closed, data_told, no_reply}
use Rattle.law_turn.specs.Phases.{Use}
use Rattle.law_turn.specs.Stations.{Station, Cycles}

-- where the open request was sent to
pub sent_to : (o : Option OpenRequest) → option_map (λ (r : OpenRequest). r.sent.da) o ≡ asked_station o
sent_to None = refl
sent_to (Some r) = refl

-- the last outcome from its parts
pub last_of : (c : Cycles) (m : Option Message) (of : Option ℕ) (outcome : Option Outcome) (last : Option (ℕ × Outcome)) → last ≡ outcome_at of outcome c.last_outcome
    → of ≡ option_map (λ (r : OpenRequest). r.sent.da) c.initiator.pending → outcome ≡ outcome_of c.initiator m
    → last ≡ outcome_at (asked_station c.initiator.pending) (outcome_of c.initiator m) c.last_outcome
last_of c m of outcome last is at came =
    is ∙ ap (λ (x : Option ℕ). outcome_at x outcome c.last_outcome) (at ∙ sent_to c.initiator.pending)
    ∙ ap (λ (x : Option Outcome). outcome_at (asked_station c.initiator.pending) x c.last_outcome) came

-- what is no reply changes nothing
no_outcome-by : (of : Option ℕ) (last : Option (ℕ × Outcome)) → outcome_at of None last ≡ last
no_outcome-by None last = refl
no_outcome-by (Some of) last = refl

pub no_outcome : (c : Cycles) (m : Message) → outcome_of c.initiator (Some m) ≡ None → cycle_closed c (Some m) ≡ c
no_outcome c m e =
    ap (λ (o : Option Outcome). record c { initiator = closed_by c.initiator o; last_outcome = outcome_at (asked_station c.initiator.pending) o c.last_outcome }) e
    ∙ ap (λ (l : Option (ℕ × Outcome)). record c { last_outcome = l }) (no_outcome-by (asked_station c.initiator.pending) c.last_outcome)

-- ---- a station that hears a message while it waits for a reply

is_none : {A : Type 0} (o : Option A) → is_some o ≡ false → o ≡ None
is_none {A} None e = refl
is_none {A} (Some x) e = absurd cc

-- the message is a reply
pub told : (p : Params) (s : Station) (asked slot : Bool) (at ready : ℕ) (m : Message) (o : Option Outcome) (after : Cycles) → after ≡ cycle_closed s.cycles (Some m) → ready ≡ at + p.tid1
    → is_some o ≡ true → record s { phase = Use asked ready; cycles = after } ≡ data_told p s asked slot at m o
told p s asked slot at ready m (Some outcome) after closed is e =
    ap (λ (c : Cycles). record s { phase = Use asked ready; cycles = c }) closed ∙ ap (λ (r : ℕ). record s { phase = Use asked r; cycles = cycle_closed s.cycles (Some m) }) is
told p s asked slot at ready m None after closed is e = absurd cc

-- it is none
pub not_told : (p : Params) (s : Station) (asked slot : Bool) (at : ℕ) (m : Message) (after : Cycles) (result : Station)
    → result ≡ no_reply p (record s { cycles = after }) asked slot at → after ≡ cycle_closed s.cycles (Some m)
    → is_some (outcome_of s.cycles.initiator (Some m)) ≡ false → result ≡ data_told p s asked slot at m (outcome_of s.cycles.initiator (Some m))
not_told p s asked slot at m after result is closed e =
    let none : outcome_of s.cycles.initiator (Some m) ≡ None = is_none (outcome_of s.cycles.initiator (Some m)) e in
    is ∙ ap (λ (c : Cycles). no_reply p (record s { cycles = c }) asked slot at) (closed ∙ no_outcome s.cycles m none)
    ∙ sym (ap (λ (o : Option Outcome). data_told p s asked slot at m o) none)
