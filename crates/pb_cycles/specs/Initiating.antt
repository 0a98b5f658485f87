-- The table of an initiator, and its steps.
use Rattle.std.specs.Prelude.{ℕ, ◌-◌, ◌≤◌, ◌≡◌, ◌==◌, if◌then◌else◌, length, slice_set, IsBitSet, Option, Some, None, IfSome}
use Rattle.pb_cycles.specs.Fields.{Fields}
use Rattle.pb_cycles.specs.RequestFields.{RequestFields}
use Rattle.pb_cycles.specs.Requests.{is_answered, request_frame}
use Rattle.pb_cycles.specs.declared.messages.Message.{Message}
use Rattle.pb_cycles.specs.Counts.{count_at}
use Rattle.pb_telegram.specs.Control.{count_bits, count_after}
use Rattle.pb_cycles.specs.Outcomes.{reply_outcome}
use Rattle.pb_cycles.specs.Tables.{InitiatorTable}
use Rattle.pb_telegram.specs.declared.control.FrameCount.TheVariants.{First}
use Rattle.pb_cycles.specs.declared.initiators.OpenRequest.{OpenRequest}
use Rattle.pb_cycles.specs.declared.outcomes.Outcome.{Outcome}
use Rattle.pb_cycles.specs.declared.outcomes.Outcome.TheVariants.{NoAnswer}

-- ---- a request

-- the frame count bits of a request; a service that is not answered has none
abbrev pub bits_for : InitiatorTable → RequestFields → ℕ
bits_for t r = if is_answered r.service then count_bits (count_at t.counts r.da) else 0

-- the telegram of a request
abbrev pub first_sending : InitiatorTable → ℕ → RequestFields → Fields
first_sending t ts r = request_frame ts r (bits_for t r)

-- an SDA or SRD changes the frame count bits and becomes the open request
abbrev pub with_request : InitiatorTable → RequestFields → Fields → InitiatorTable
with_request t r sent = record t {
  counts = slice_set t.counts r.da (count_after (count_at t.counts r.da));
  pending = Some (record { sent = sent; left = t.retries });
}

abbrev pub without_request : InitiatorTable → InitiatorTable
without_request t = record t { pending = None }

-- the table after a request
abbrev pub after_request : InitiatorTable → ℕ → RequestFields → InitiatorTable
after_request t ts r = if is_answered r.service then with_request t r (first_sending t ts r) else without_request t

-- ---- a retry

abbrev pub retry_of : Option OpenRequest → Option Fields
retry_of (Some o) = if o.left == 0 then None else Some o.sent
retry_of None = None

abbrev pub retried : Option OpenRequest → Option OpenRequest
retried (Some o) = Some (record { sent = o.sent; left = o.left - 1 })
retried None = None

-- the table after a retry, if there was one
abbrev pub after_retry : InitiatorTable → InitiatorTable
after_retry t = record t { pending = retried t.pending }

-- ---- an outcome

-- the next request to the address is a first one
abbrev pub without_answer : InitiatorTable → ℕ → InitiatorTable
without_answer t d = record t { counts = slice_set t.counts d First; pending = None }

-- the outcome if no reply came and no retry is left, for the open request
abbrev pub silence_outcome : Option OpenRequest → Option Outcome
silence_outcome (Some o) = Some NoAnswer
silence_outcome None = None

abbrev pub after_silence : InitiatorTable → Option OpenRequest → InitiatorTable
after_silence t (Some o) = without_answer t o.sent.da
after_silence t None = t

-- the outcome of the open request by a message, if that is a reply to it
abbrev pub message_outcome : Option OpenRequest → Message → Option Outcome
message_outcome (Some o) m = reply_outcome o.sent.sa o.sent.da m
message_outcome None m = None

-- an outcome closes the request
abbrev pub closed_by : InitiatorTable → Option Outcome → InitiatorTable
closed_by t (Some outcome) = without_request t
closed_by t None = t

-- the outcome by a message, or by its absence
abbrev pub outcome_of : InitiatorTable → Option Message → Option Outcome
outcome_of t None = silence_outcome t.pending
outcome_of t (Some m) = message_outcome t.pending m

-- the table after that outcome
abbrev pub after_outcome : InitiatorTable → Option Message → InitiatorTable
after_outcome t None = after_silence t t.pending
after_outcome t (Some m) = closed_by t (message_outcome t.pending m)

-- the invariant of an initiator: bits for each station, and an open request to a station, with bit 6 of its control
-- octet
pub record IsInitiator (t : InitiatorTable) : Type 0 where
  pub stations : length t.counts ≡ 127
  pub retries : t.retries ≤ 7
  pub pending : IfSome t.pending (λ o. (o.sent.da ≤ 126) × (o.left ≤ t.retries))
  pub request : IfSome t.pending (λ o. IsBitSet o.sent.fc 6)
