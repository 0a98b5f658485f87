-- The tables of a station's message cycles stand for what it did and heard.
use Rattle.std.proofs.Common.{◌≡◌, ◌∙◌, ℕ, ◌+◌, ◌-◌, ◌≤◌, ◌==◌, List, [], ◌∷◌, ◌++◌, Bool, true, false, refl, ap, sym, subst, arith, count_by, Option, Some, None, cond}
use Rattle.std.specs.Prelude.{IfSome, replicate, reverse}
use Rattle.std.specs.List.{after_last}
use Rattle.std.proofs.lemmas.Bool.{eqb-false}
use Rattle.std.proofs.lemmas.List.{get_or-replicate}
use Rattle.std.proofs.lemmas.Option.{none-some}
use Rattle.pb_cycles.specs.Fields.{Fields}
use Rattle.pb_cycles.specs.RequestFields.{RequestFields}
use Rattle.pb_cycles.specs.Requests.{is_answered}
use Rattle.pb_cycles.specs.declared.messages.Message.{Message}
use Rattle.pb_cycles.proofs.Acting.{closed}
use Rattle.pb_cycles.proofs.NewestActs.{reverse-more, after_last-more, count_by-more}
use Rattle.pb_cycles.specs.Acts.{Act, Told, Opened, Resent, Closed, sending_act, is_opening_to, is_unanswered_at, number_to, count_of, open_in, retries_in, InitiatorStandsFor}
use Rattle.pb_cycles.specs.Initiating.{retry_of, after_retry, message_outcome, closed_by, outcome_of, after_outcome, after_silence, after_request, first_sending}
use Rattle.pb_cycles.specs.Tables.{InitiatorTable}
use Rattle.pb_telegram.specs.declared.control.FrameCount.{FrameCount}
use Rattle.pb_telegram.specs.declared.control.FrameCount.TheVariants.{First}
use Rattle.pb_cycles.specs.declared.initiators.OpenRequest.{OpenRequest}
use Rattle.pb_cycles.specs.declared.outcomes.Outcome.{Outcome}
use Rattle.law_turn.specs.Hearing.{asked_station}
use Rattle.law_turn.specs.Laws.{IsOpenRequest}
use Rattle.law_turn.specs.Pasts.{newest_outcome}
use Rattle.law_turn.proofs.Cases.{by_test}

pub fresh-initiator : (retries : ℕ) → InitiatorStandsFor (record { retries = retries; counts = replicate 127 First; pending = None }) []
fresh-initiator retries = record {
  stations = refl;
  counts = λ (d : ℕ) (h : d ≤ 126). get_or-replicate 127 d First First (omega arith);
  pending = refl;
  left = tt;
}

-- ---- a retry

number-resent : (d : ℕ) (acts : List Act) (f : Fields) → number_to d (acts ++ Resent f ∷ []) ≡ number_to d acts
number-resent d acts f =
    ap (count_by (is_opening_to d)) (after_last-more (is_unanswered_at d) acts (Resent f) refl)
    ∙ count_by-more (is_opening_to d) (after_last (is_unanswered_at d) acts) (Resent f)
    ∙ omega arith

left-retried : (o : OpenRequest) (acts : List Act) (f : Fields) (retries : ℕ) → (o.left ≡ 0 → ⊥) → o.left + retries_in (reverse acts) ≡ retries
    → o.left - 1 + retries_in (reverse (acts ++ Resent f ∷ [])) ≡ retries
left-retried o acts f retries some left =
    let more : retries_in (reverse (acts ++ Resent f ∷ [])) ≡ retries_in (reverse acts) + 1 = ap retries_in (reverse-more acts (Resent f)) in omega (arith, some, left, more)

is_left : (b : Bool) (x f : Fields) → cond b None (Some x) ≡ Some f → b ≡ false
is_left true x f e = absurd (none-some _ e)
is_left false x f e = refl

resent-open : (retries : ℕ) (counts : List FrameCount) (pending : Option OpenRequest) (acts : List Act) (f : Fields)
    → InitiatorStandsFor (record { retries = retries; counts = counts; pending = pending }) acts → retry_of pending ≡ Some f
    → InitiatorStandsFor (after_retry (record { retries = retries; counts = counts; pending = pending })) (acts ++ Resent f ∷ [])
resent-open retries counts None acts f stands e = absurd (none-some _ e)
resent-open retries counts (Some o) acts f stands e = record {
  stations = stands.stations;
  counts = λ (d : ℕ) (h : d ≤ 126). stands.counts d h ∙ ap count_of (sym (number-resent d acts f));
  pending = stands.pending ∙ sym (ap open_in (reverse-more acts (Resent f)));
  left = left-retried o acts f retries (eqb-false o.left 0 (is_left (o.left == 0) o.sent f e)) stands.left;
}

pub resent : (t : InitiatorTable) (acts : List Act) (f : Fields) → InitiatorStandsFor t acts → retry_of t.pending ≡ Some f → InitiatorStandsFor (after_retry t) (acts ++ Resent f ∷ [])
resent t acts f stands e = resent-open t.retries t.counts t.pending acts f stands e

-- ---- an outcome

-- the table stands for the acts, and the outcome of a cycle with a station, if there is one
abbrev pub Closes : InitiatorTable → List Act → Option ℕ → Option Outcome → Type 0
Closes t acts None None = InitiatorStandsFor t acts
Closes t acts None (Some outcome) = InitiatorStandsFor t acts
Closes t acts (Some of) None = InitiatorStandsFor t acts
Closes t acts (Some of) (Some outcome) = InitiatorStandsFor t (acts ++ Closed of outcome ∷ [])

no_outcome : (retries : ℕ) (counts : List FrameCount) (o : Option OpenRequest) (acts : List Act) (m : Option Message)
    → InitiatorStandsFor (record { retries = retries; counts = counts; pending = o }) acts → outcome_of (record { retries = retries; counts = counts; pending = o }) m ≡ None
    → InitiatorStandsFor (after_outcome (record { retries = retries; counts = counts; pending = o }) m) acts
no_outcome retries counts None acts None stands e = stands
no_outcome retries counts (Some o) acts None stands e = absurd (none-some _ (sym e))
no_outcome retries counts o acts (Some m) stands e =
    subst (λ (x : Option Outcome). InitiatorStandsFor (closed_by (record { retries = retries; counts = counts; pending = o }) x) acts) (sym e) stands

with_outcome : (retries : ℕ) (counts : List FrameCount) (o : Option OpenRequest) (acts : List Act) (m : Option Message) (outcome : Option Outcome)
    → InitiatorStandsFor (record { retries = retries; counts = counts; pending = o }) acts → IfSome o IsOpenRequest
    → outcome_of (record { retries = retries; counts = counts; pending = o }) m ≡ outcome
    → Closes (after_outcome (record { retries = retries; counts = counts; pending = o }) m) acts (asked_station o) outcome
with_outcome retries counts None acts m None stands is e = no_outcome retries counts None acts m stands e
with_outcome retries counts None acts None (Some outcome) stands is e = absurd (none-some _ e)
with_outcome retries counts None acts (Some m) (Some outcome) stands is e = absurd (none-some _ e)
with_outcome retries counts (Some o) acts m None stands is e = no_outcome retries counts (Some o) acts m stands e
with_outcome retries counts (Some o) acts m (Some outcome) stands is e = closed (record { retries = retries; counts = counts; pending = Some o }) acts o m outcome stands refl is.addressed e

-- a table that stands for its acts, stands for the outcome too
pub closes : (t : InitiatorTable) (acts : List Act) (m : Option Message) → InitiatorStandsFor t acts → IfSome t.pending IsOpenRequest
    → Closes (after_outcome t m) acts (asked_station t.pending) (outcome_of t m)
closes t acts m stands is = with_outcome t.retries t.counts t.pending acts m (outcome_of t m) stands is refl

-- ---- how often a request is sent again

pub closed-retries : (t : InitiatorTable) (m : Option Message) → (after_outcome t m).retries ≡ t.retries
closed-retries t None = by_pending t.pending
  where
    by_pending : (o : Option OpenRequest) → (after_silence t o).retries ≡ t.retries
    by_pending None = refl
    by_pending (Some o) = refl
closed-retries t (Some m) = by_outcome (message_outcome t.pending m)
  where
    by_outcome : (o : Option Outcome) → (closed_by t o).retries ≡ t.retries
    by_outcome None = refl
    by_outcome (Some outcome) = refl

pub request-retries : (t : InitiatorTable) (ts : ℕ) (r : RequestFields) → (after_request t ts r).retries ≡ t.retries
request-retries t ts r = by_test (λ (x : InitiatorTable). x.retries ≡ t.retries) (is_answered r.service) _ _ (λ _. refl) (λ _. refl)

-- ---- the newest outcome

sent-newest : (r : RequestFields) (f : Fields) (older : List Act) → newest_outcome (sending_act r f ∷ older) ≡ newest_outcome older
sent-newest r f older = by_test (λ (a : Act). newest_outcome (a ∷ older) ≡ newest_outcome older) (is_answered r.service) (Opened f) (Told f) (λ _. refl) (λ _. refl)

-- a request has none yet
pub sent-outcome : (t : InitiatorTable) (ts : ℕ) (r : RequestFields) (acts : List Act)
    → newest_outcome (reverse (acts ++ sending_act r (first_sending t ts r) ∷ [])) ≡ newest_outcome (reverse acts)
sent-outcome t ts r acts =
    ap newest_outcome (reverse-more acts (sending_act r (first_sending t ts r))) ∙ sent-newest r (first_sending t ts r) (reverse acts)
