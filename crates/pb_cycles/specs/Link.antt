-- A link between one initiator and one responder that loses requests and replies.
use Rattle.std.specs.Prelude.{◌≡◌, ◌≢◌, ℕ, ◌+◌, ◌≤◌, if◌then◌else◌, List, [], ◌∷◌, ◌++◌, All, Option, Some, None, IsTrue, IsFalse, IsSome}
use Rattle.pb_cycles.specs.Fields.{Fields}
use Rattle.pb_cycles.specs.Messages.{has_bit, heard_as}
use Rattle.pb_cycles.specs.RequestFields.{RequestFields}
use Rattle.pb_cycles.specs.Requests.{is_answered}
use Rattle.pb_cycles.specs.declared.messages.Message.{Message}
use Rattle.pb_cycles.specs.declared.messages.Message.TheVariants.{Framed}
use Rattle.pb_cycles.specs.declared.messages.Reply.{Reply}
use Rattle.pb_cycles.specs.Initiating.{first_sending, after_request, retry_of, after_retry, outcome_of, after_outcome}
use Rattle.pb_cycles.specs.Responding.{is_repeat, after_message, reply_to_message}
use Rattle.pb_cycles.specs.Tables.{InitiatorTable, ResponderTable}
use Rattle.pb_cycles.specs.declared.outcomes.Outcome.{Outcome}
use Rattle.pb_cycles.specs.declared.outcomes.Outcome.TheVariants.{NoAnswer}

-- the addresses of initiator and responder, and the responder's station type
pub record Link : Type 0 where
  pub ts : ℕ
  pub d : ℕ
  pub station_type : ℕ

-- what happens to a sending of a request
pub data Fate : Type 0 where
  RequestLost : Fate
  ReplyLost : Fate
  Delivered : Fate

-- the state of a cycle: the telegram of its request, the sendings that arrived and how many of them were executed, the
-- replies to them in order, and the outcome
pub record Cycle : Type 0 where
  pub initiator : InitiatorTable
  pub responder : ResponderTable
  pub sent : Fields
  pub arrived : ℕ
  pub executed : ℕ
  pub replies : List (Option Reply)
  pub outcome : Option Outcome

-- ---- one cycle

abbrev pub reply_on : Link → Cycle → Fields → Option Reply
reply_on l c f = reply_to_message c.responder l.d l.station_type (Framed f)

-- a sending arrives
abbrev pub arrive : Link → Cycle → Fields → Cycle
arrive l c f = record c {
  responder = after_message c.responder l.d l.station_type (Framed f);
  arrived = c.arrived + 1;
  executed = c.executed + (if is_repeat c.responder.kept f then 0 else 1);
  replies = c.replies ++ reply_on l c f ∷ [];
}

-- no reply came, and no retry is left
abbrev pub unanswered : Cycle → Cycle
unanswered c = record c { initiator = after_outcome c.initiator None; outcome = outcome_of c.initiator None }

-- a retry is sent, as long as one is left
abbrev pub resend : Cycle → Option Fields → (Cycle → Fields → Cycle) → Cycle
resend c (Some f) more = more (record c { initiator = after_retry c.initiator }) f
resend c None more = unanswered c

abbrev pub retry : Cycle → (Cycle → Fields → Cycle) → Cycle
retry c more = resend c (retry_of c.initiator.pending) more

-- a reply with an outcome is heard, or another message
abbrev pub conclude : Cycle → Message → Option Outcome → (Cycle → Fields → Cycle) → Cycle
conclude c m (Some outcome) more = record c { initiator = after_outcome c.initiator (Some m); outcome = Some outcome }
conclude c m None more = retry c more

abbrev pub receive : Cycle → Option Reply → (Cycle → Fields → Cycle) → Cycle
receive c (Some reply) more = conclude c (heard_as reply) (outcome_of c.initiator (Some (heard_as reply))) more
receive c None more = retry c more

-- the sendings of a request, by what happens to each, until its cycle has an outcome
abbrev pub sendings : Link → Cycle → Fields → List Fate → Cycle
sendings l c f [] = unanswered c
sendings l c f (RequestLost ∷ fates) = retry c (λ next g. sendings l next g fates)
sendings l c f (ReplyLost ∷ fates) = retry (arrive l c f) (λ next g. sendings l next g fates)
sendings l c f (Delivered ∷ fates) = receive (arrive l c f) (reply_on l c f) (λ next g. sendings l next g fates)

-- a cycle begins with its request
abbrev pub begun : Link → InitiatorTable → ResponderTable → RequestFields → Cycle
begun l i t r = record {
  initiator = after_request i l.ts r;
  responder = t;
  sent = first_sending i l.ts r;
  arrived = 0;
  executed = 0;
  replies = [];
  outcome = None;
}

abbrev pub cycle : Link → InitiatorTable → ResponderTable → RequestFields → List Fate → Cycle
cycle l i t r fates = sendings l (begun l i t r) (first_sending i l.ts r) fates

-- ---- consecutive cycles

abbrev pub then_more : Cycle → (Cycle → List Cycle) → List Cycle
then_more c more = c ∷ more c

-- each begins with the tables that the one before it left, after its outcome
abbrev pub cycles : Link → InitiatorTable → ResponderTable → List (RequestFields × List Fate) → List Cycle
cycles l i t [] = []
cycles l i t (x ∷ xs) = then_more (cycle l i t x.0 x.1) (λ c. cycles l c.initiator c.responder xs)

-- ---- what holds of a cycle

-- an SDA or SRD to the responder
abbrev pub IsCallTo : Link → RequestFields → Type 0
IsCallTo l r = IsTrue (is_answered r.service) × (r.da ≡ l.d)

pub record ExecutesOnce (c : Cycle) : Type 0 where
  pub ended : IsSome c.outcome
  pub at_most_once : IsTrue (has_bit c.sent.fc 4) → c.executed ≤ 1
  pub once_where_answered : IsTrue (has_bit c.sent.fc 4) → c.outcome ≢ Some NoAnswer → c.executed ≡ 1
  pub first_each_time : IsFalse (has_bit c.sent.fc 4) → c.executed ≡ c.arrived
  pub same_reply : (reply : Reply) × All (λ r. r ≡ Some reply) c.replies
