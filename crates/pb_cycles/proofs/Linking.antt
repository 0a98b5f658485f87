-- A request over a link that loses requests and replies is executed once.
use Rattle.std.proofs.Common.{◌≡◌, ◌∙◌, sym, subst, refl, ap, ℕ, ◌+◌, ◌-◌, ◌≤◌, ◌%◌, ◌==◌, ◌⊎◌, inl, inr, Bool, true, false, not, ◌&&◌, if◌then◌else◌, List, [], ◌∷◌, ◌++◌, length, slice_set, replicate, Option, Some, None, arith, All, zero, suc}
use Rattle.std.proofs.lemmas.Bool.{eq-eqb, both_ways, cases_Bool}
use Rattle.std.proofs.lemmas.List.{get_or-set_same, get_or-replicate, length-set}
use Rattle.std.proofs.lemmas.List.Elements.{All-append}
use Rattle.pb_cycles.specs.Fields.{Fields}
use Rattle.pb_cycles.specs.Messages.{has_bit, address_in, heard_as}
use Rattle.pb_cycles.specs.RequestFields.{RequestFields}
use Rattle.pb_cycles.specs.Requests.{is_answered, priority_of, asked_by, code_of}
use Rattle.pb_cycles.specs.declared.messages.Message.{Message}
use Rattle.pb_cycles.specs.declared.messages.Message.TheVariants.{Framed}
use Rattle.pb_cycles.specs.declared.messages.Reply.{Reply}
use Rattle.pb_cycles.specs.declared.services.Asked.{Asked}
use Rattle.pb_cycles.specs.declared.services.Asked.TheVariants.{Send}
use Rattle.pb_cycles.specs.declared.services.Priority.{Priority}
use Rattle.pb_cycles.specs.declared.services.Priority.TheVariants.{Low, High}
use Rattle.pb_cycles.specs.declared.services.Service.{Service}
use Rattle.pb_cycles.specs.declared.services.Service.TheVariants.{Sda, Sdn, Srd}
use Rattle.pb_cycles.specs.Counts.{count_at}
use Rattle.pb_telegram.specs.Control.{count_bits, count_after}
use Rattle.pb_cycles.specs.Initiating.{with_request, without_request, retry_of, retried, silence_outcome, after_silence, closed_by, outcome_of}
use Rattle.pb_cycles.specs.Link.{Link, Fate, RequestLost, ReplyLost, Delivered, Cycle, arrive, unanswered, resend, retry, conclude, receive, sendings, cycle, cycles, IsCallTo, ExecutesOnce}
use Rattle.pb_cycles.specs.Responding.{same_bit, is_repeat, executed, once, reply_once, kept_reply, service_reply, after_service, reply_to_service, after_asked, reply_to_asked, after_message, reply_to_message}
use Rattle.pb_cycles.specs.Tables.{InitiatorTable, ResponderTable}
use Rattle.pb_telegram.specs.declared.control.FrameCount.{FrameCount}
use Rattle.pb_telegram.specs.declared.control.FrameCount.TheVariants.{First, Clear, Set}
use Rattle.pb_cycles.specs.declared.initiators.OpenRequest.{OpenRequest}
use Rattle.pb_cycles.specs.declared.outcomes.Outcome.{Outcome}
use Rattle.pb_cycles.specs.declared.responders.Kept.{Kept}

-- ---- a call at the responder

-- the telegram of an SDA or SRD over the link
record IsCall (l : Link) (f : Fields) (service : Service) (priority : Priority) : Type 0 where
  da : f.da ≡ l.d
  station : l.d ≤ 126
  request : has_bit f.fc 6 ≡ true
  asks : asked_by (f.fc % 16) ≡ Send service priority
  is_call : is_answered service ≡ true

is_here : (l : Link) (f : Fields) → f.da ≡ l.d → l.d ≤ 126 → (address_in f.da == l.d) ≡ true
is_here l f e b = eq-eqb _ _ (omega arith)

service_here : (t : ResponderTable) (ts station_type : ℕ) (f : Fields) (service : Service) (priority : Priority) → is_answered service ≡ true → (address_in f.da == ts) ≡ true
    → after_service t ts station_type f service priority ≡ once t f (service_reply ts station_type f service priority t.reply)
service_here t ts station_type f Sda priority e h =
    subst (λ b. (if b then once t f (service_reply ts station_type f Sda priority t.reply) else t) ≡ once t f (service_reply ts station_type f Sda priority t.reply)) (sym h) refl
service_here t ts station_type f Sdn priority e h = absurd cc
service_here t ts station_type f Srd priority e h =
    subst (λ b. (if b then once t f (service_reply ts station_type f Srd priority t.reply) else t) ≡ once t f (service_reply ts station_type f Srd priority t.reply)) (sym h) refl

reply_here : (t : ResponderTable) (ts station_type : ℕ) (f : Fields) (service : Service) (priority : Priority) → is_answered service ≡ true → (address_in f.da == ts) ≡ true
    → reply_to_service t ts station_type f service priority ≡ reply_once t f (service_reply ts station_type f service priority t.reply)
reply_here t ts station_type f Sda priority e h =
    subst (λ b. (if b then reply_once t f (service_reply ts station_type f Sda priority t.reply) else None) ≡ reply_once t f (service_reply ts station_type f Sda priority t.reply)) (sym h) refl
reply_here t ts station_type f Sdn priority e h = absurd cc
reply_here t ts station_type f Srd priority e h =
    subst (λ b. (if b then reply_once t f (service_reply ts station_type f Srd priority t.reply) else None) ≡ reply_once t f (service_reply ts station_type f Srd priority t.reply)) (sym h) refl

call_after : (l : Link) (f : Fields) (service : Service) (priority : Priority) (t : ResponderTable) → IsCall l f service priority
    → after_message t l.d l.station_type (Framed f) ≡ once t f (service_reply l.d l.station_type f service priority t.reply)
call_after l f service priority t c =
    subst (λ b. (if b then after_asked t l.d l.station_type f (asked_by (f.fc % 16)) else t) ≡ once t f (service_reply l.d l.station_type f service priority t.reply)) (sym c.request)
    (subst (λ (a : Asked). after_asked t l.d l.station_type f a ≡ once t f (service_reply l.d l.station_type f service priority t.reply)) (sym c.asks)
    (service_here t l.d l.station_type f service priority c.is_call (is_here l f c.da c.station)))

call_reply : (l : Link) (f : Fields) (service : Service) (priority : Priority) (t : ResponderTable) → IsCall l f service priority
    → reply_to_message t l.d l.station_type (Framed f) ≡ reply_once t f (service_reply l.d l.station_type f service priority t.reply)
call_reply l f service priority t c =
    subst (λ b. (if b then reply_to_asked t l.d l.station_type f (asked_by (f.fc % 16)) else None) ≡ reply_once t f (service_reply l.d l.station_type f service priority t.reply)) (sym c.request)
    (subst (λ (a : Asked). reply_to_asked t l.d l.station_type f a ≡ reply_once t f (service_reply l.d l.station_type f service priority t.reply)) (sym c.asks)
    (reply_here t l.d l.station_type f service priority c.is_call (is_here l f c.da c.station)))

-- ---- repeats

abbrev kept_of : Fields → Reply → Option Kept
kept_of f reply = Some (record { requester = address_in f.sa; bit = has_bit f.fc 5; reply = reply })

and_same : (x : Bool) (n : ℕ) (b : Bool) → (x && (n == n && same_bit b b)) ≡ x
and_same x n b = subst (λ e. (x && (e && same_bit b b)) ≡ x) (sym (eq-eqb n n refl)) (and_bit x b) where
  and_bit : (x b : Bool) → (x && (true && same_bit b b)) ≡ x
  and_bit true true = refl
  and_bit true false = refl
  and_bit false b = refl

own_repeat : (f : Fields) (reply : Reply) → is_repeat (kept_of f reply) f ≡ has_bit f.fc 4
own_repeat f reply = and_same (has_bit f.fc 4) (address_in f.sa) (has_bit f.fc 5)

uncounted : (kept : Option Kept) (f : Fields) → has_bit f.fc 4 ≡ false → is_repeat kept f ≡ false
uncounted None f e = refl
uncounted (Some k) f e = subst (λ x. (x && (k.requester == address_in f.sa && same_bit k.bit (has_bit f.fc 5))) ≡ false) (sym e) refl

-- no sending of the request has arrived
abbrev NoneArrived : Fields → Option Kept → ℕ → ℕ → Type 0
NoneArrived f kept arrived executed = (arrived ≡ 0) × (executed ≡ 0) × (has_bit f.fc 4 ≡ true → is_repeat kept f ≡ false)

abbrev SomeArrived : Fields → Reply → Option Kept → ℕ → ℕ → Type 0
SomeArrived f reply kept arrived executed = (kept ≡ kept_of f reply) × (has_bit f.fc 4 ≡ true → executed ≡ 1) × (has_bit f.fc 4 ≡ false → executed ≡ arrived)

one_arrives : (f : Fields) (reply : Reply) (t : ResponderTable) (arrived count : ℕ) (again : Bool) → is_repeat t.kept f ≡ again
    → NoneArrived f t.kept arrived count ⊎ SomeArrived f reply t.kept arrived count
    → SomeArrived f reply (if again then t else executed t f reply).kept (arrived + 1) (count + (if again then 0 else 1))
one_arrives f reply t arrived count true e (inl (a, n, new)) = ⊎_absurd (cases_Bool (has_bit f.fc 4)) where
  ⊎_absurd : (has_bit f.fc 4 ≡ true) ⊎ (has_bit f.fc 4 ≡ false) → SomeArrived f reply t.kept (arrived + 1) (count + 0)
  ⊎_absurd (inl v) = absurd (both_ways _ (new v) e)
  ⊎_absurd (inr v) = absurd (both_ways _ (uncounted t.kept f v) e)
one_arrives f reply t arrived count true e (inr (kept, one, each)) = (
  kept,
  λ (v : has_bit f.fc 4 ≡ true). (let n : count ≡ 1 = one v in omega arith),
  λ (v : has_bit f.fc 4 ≡ false). absurd (both_ways _ (uncounted t.kept f v) e),
)
one_arrives f reply t arrived count false e (inl (a, n, new)) = (
  refl,
  λ (v : has_bit f.fc 4 ≡ true). omega arith,
  λ (v : has_bit f.fc 4 ≡ false). omega arith,
)
one_arrives f reply t arrived count false e (inr (kept, one, each)) = (
  refl,
  λ (v : has_bit f.fc 4 ≡ true). absurd (both_ways _ e (ap (λ (k : Option Kept). is_repeat k f) kept ∙ own_repeat f reply ∙ v)),
  λ (v : has_bit f.fc 4 ≡ false). (let n : count ≡ arrived = each v in omega arith),
)

one_reply : (f : Fields) (reply : Reply) (t : ResponderTable) (arrived count : ℕ) (again : Bool) → is_repeat t.kept f ≡ again
    → NoneArrived f t.kept arrived count ⊎ SomeArrived f reply t.kept arrived count
    → (if again then kept_reply t.kept else Some reply) ≡ Some reply
one_reply f reply t arrived count true e (inl (a, n, new)) = ⊎_absurd (cases_Bool (has_bit f.fc 4)) where
  ⊎_absurd : (has_bit f.fc 4 ≡ true) ⊎ (has_bit f.fc 4 ≡ false) → kept_reply t.kept ≡ Some reply
  ⊎_absurd (inl v) = absurd (both_ways _ (new v) e)
  ⊎_absurd (inr v) = absurd (both_ways _ (uncounted t.kept f v) e)
one_reply f reply t arrived count true e (inr (kept, one, each)) = ap kept_reply kept
one_reply f reply t arrived count false e a = refl

same_data : (t : ResponderTable) (f : Fields) (reply : Reply) (again : Bool) → (if again then t else executed t f reply).reply ≡ t.reply
same_data t f reply true = refl
same_data t f reply false = refl

-- ---- a cycle that goes on

record Going (l : Link) (f : Fields) (next : FrameCount) (reply : Reply) (unit : List ℕ) (c : Cycle) : Type 0 where
  stations : length c.initiator.counts ≡ 127
  counts : count_at c.initiator.counts l.d ≡ next
  left : ℕ
  pending : c.initiator.pending ≡ Some (record { sent = f; left = left })
  data_unit : c.responder.reply ≡ unit
  sent : c.sent ≡ f
  replies : All (λ r. r ≡ Some reply) c.replies
  arrivals : NoneArrived f c.responder.kept c.arrived c.executed ⊎ SomeArrived f reply c.responder.kept c.arrived c.executed

-- what the responder keeps is of the request before the next one
abbrev Matches : FrameCount → ℕ → Option Kept → Type 0
Matches First ts kept = Unit {0}
Matches Clear ts kept = (reply : Reply) × (kept ≡ Some (record { requester = address_in ts; bit = true; reply = reply }))
Matches Set ts kept = (reply : Reply) × (kept ≡ Some (record { requester = address_in ts; bit = false; reply = reply }))

-- the next cycle may begin
record Ready (l : Link) (i : InitiatorTable) (t : ResponderTable) : Type 0 where
  stations : length i.counts ≡ 127
  matches : Matches (count_at i.counts l.d) l.ts t.kept

record Done (l : Link) (c : Cycle) : Type 0 where
  once : ExecutesOnce c
  ready : Ready l c.initiator c.responder

at_most_one : (f : Fields) (reply : Reply) (kept : Option Kept) (arrived count : ℕ) → NoneArrived f kept arrived count ⊎ SomeArrived f reply kept arrived count
    → has_bit f.fc 4 ≡ true → count ≤ 1
at_most_one f reply kept arrived count (inl (a, n, new)) v = omega arith
at_most_one f reply kept arrived count (inr (k, one, each)) v = let n : count ≡ 1 = one v in omega arith

each_time : (f : Fields) (reply : Reply) (kept : Option Kept) (arrived count : ℕ) → NoneArrived f kept arrived count ⊎ SomeArrived f reply kept arrived count
    → has_bit f.fc 4 ≡ false → count ≡ arrived
each_time f reply kept arrived count (inl (a, n, new)) v = omega arith
each_time f reply kept arrived count (inr (k, one, each)) v = each v

-- ---- ends of a cycle

module _ (l : Link) (f : Fields) (next : FrameCount) (reply : Reply) (unit : List ℕ) where
  -- no reply came: the next request is a first one
  unanswered-done : (c : Cycle) → Going l f next reply unit c → f.da ≡ l.d → l.d ≤ 126 → Done l (unanswered c)
  unanswered-done c g at bound =
      subst (λ (p : Option OpenRequest). Done l (record c { initiator = after_silence c.initiator p; outcome = silence_outcome p })) (sym g.pending) (record {
        once = record {
          ended = refl;
          at_most_once = λ v. at_most_one f reply c.responder.kept c.arrived c.executed g.arrivals (ap (λ (x : Fields). has_bit x.fc 4) (sym g.sent) ∙ v);
          once_where_answered = λ v answered. absurd (answered refl);
          first_each_time = λ v. each_time f reply c.responder.kept c.arrived c.executed g.arrivals (ap (λ (x : Fields). has_bit x.fc 4) (sym g.sent) ∙ v);
          same_reply = (reply, g.replies);
        };
        ready = record {
          stations = length-set c.initiator.counts f.da First ∙ g.stations;
          matches =
              let many : length c.initiator.counts ≡ 127 = g.stations in
              let first : count_at (slice_set c.initiator.counts f.da First) l.d ≡ First
              = subst (λ (x : ℕ). count_at (slice_set c.initiator.counts f.da First) x ≡ First) at (get_or-set_same c.initiator.counts f.da First First (omega arith)) in
              subst (λ (n : FrameCount). Matches n l.ts c.responder.kept) (sym first) tt;
        };
      })

  -- a reply came
  answered-done : (c : Cycle) (outcome : Outcome) → Going l f next reply unit c → SomeArrived f reply c.responder.kept c.arrived c.executed → Matches next l.ts (kept_of f reply)
      → Done l (record c { initiator = without_request c.initiator; outcome = Some outcome })
  answered-done c outcome g arrivals m = record {
    once = record {
      ended = refl;
      at_most_once = λ v. at_most_one f reply c.responder.kept c.arrived c.executed g.arrivals (ap (λ (x : Fields). has_bit x.fc 4) (sym g.sent) ∙ v);
      once_where_answered = λ v answered. arrivals.1 (ap (λ (x : Fields). has_bit x.fc 4) (sym g.sent) ∙ v);
      first_each_time = λ v. each_time f reply c.responder.kept c.arrived c.executed g.arrivals (ap (λ (x : Fields). has_bit x.fc 4) (sym g.sent) ∙ v);
      same_reply = (reply, g.replies);
    };
    ready = record {
      stations = g.stations;
      matches = subst (λ (n : FrameCount). Matches n l.ts c.responder.kept) (sym g.counts) (subst (λ (k : Option Kept). Matches next l.ts k) (sym arrivals.0) m);
    };
  }

  -- ---- steps of a cycle

  resend-done : (c : Cycle) (spent : Bool) (more : Cycle → Fields → Cycle) → Going l f next reply unit c → f.da ≡ l.d → l.d ≤ 126
      → ((q : Cycle) → Going l f next reply unit q → Done l (more q f)) → Done l (resend c (if spent then None else Some f) more)
  resend-done c true more g at bound goes = unanswered-done c g at bound
  resend-done c false more g at bound goes = goes _ (record {
    stations = g.stations;
    counts = g.counts;
    left = g.left - 1;
    pending = ap retried g.pending;
    data_unit = g.data_unit;
    sent = g.sent;
    replies = g.replies;
    arrivals = g.arrivals;
  })

  retry-done : (c : Cycle) (more : Cycle → Fields → Cycle) → Going l f next reply unit c → f.da ≡ l.d → l.d ≤ 126
      → ((q : Cycle) → Going l f next reply unit q → Done l (more q f)) → Done l (retry c more)
  retry-done c more g at bound goes =
      subst (λ (p : Option OpenRequest). Done l (resend c (retry_of p) more)) (sym g.pending) (resend-done c (g.left == 0) more g at bound goes)

  conclude-done : (c : Cycle) (m : Message) (outcome : Option Outcome) (more : Cycle → Fields → Cycle) → Going l f next reply unit c → f.da ≡ l.d → l.d ≤ 126
      → SomeArrived f reply c.responder.kept c.arrived c.executed → Matches next l.ts (kept_of f reply) → outcome_of c.initiator (Some m) ≡ outcome
      → ((q : Cycle) → Going l f next reply unit q → Done l (more q f)) → Done l (conclude c m outcome more)
  conclude-done c m (Some outcome) more g at bound arrivals fits e goes =
      subst (λ (o : Option Outcome). Done l (record c { initiator = closed_by c.initiator o; outcome = Some outcome })) (sym e) (answered-done c outcome g arrivals fits)
  conclude-done c m None more g at bound arrivals fits e goes = retry-done c more g at bound goes

  receive-done : (c : Cycle) (back : Option Reply) (more : Cycle → Fields → Cycle) → Going l f next reply unit c → f.da ≡ l.d → l.d ≤ 126
      → SomeArrived f reply c.responder.kept c.arrived c.executed → Matches next l.ts (kept_of f reply)
      → ((q : Cycle) → Going l f next reply unit q → Done l (more q f)) → Done l (receive c back more)
  receive-done c (Some r) more g at bound arrivals fits goes = conclude-done c (heard_as r) _ more g at bound arrivals fits refl goes
  receive-done c None more g at bound arrivals fits goes = retry-done c more g at bound goes

  -- a sending has arrived
  arrived-by : (c : Cycle) (t : ResponderTable) (back : Option Reply) (n : ℕ) → Going l f next reply unit c → t.reply ≡ unit → back ≡ Some reply
      → SomeArrived f reply t.kept (c.arrived + 1) (c.executed + n)
      → Going l f next reply unit (record c { responder = t; arrived = c.arrived + 1; executed = c.executed + n; replies = c.replies ++ back ∷ [] })
  arrived-by c t back n g same is arrivals = record {
    stations = g.stations;
    counts = g.counts;
    left = g.left;
    pending = g.pending;
    data_unit = same;
    sent = g.sent;
    replies = All-append (λ (x : Option Reply). x ≡ Some reply) c.replies (back ∷ []) g.replies (one back is);
    arrivals = inr arrivals;
  } where
    one : (r : Option Reply) → r ≡ Some reply → All (λ x. x ≡ Some reply) (r ∷ [])
    one r e zero d h = e
    one r e (suc k) d h = absurd (omega arith)

module _ (l : Link) (f : Fields) (next : FrameCount) (unit : List ℕ) (service : Service) (priority : Priority) (call : IsCall l f service priority)
    (fits : Matches next l.ts (kept_of f (service_reply l.d l.station_type f service priority unit))) where
  some-arrived : (c : Cycle) → Going l f next (service_reply l.d l.station_type f service priority unit) unit c
      → SomeArrived f (service_reply l.d l.station_type f service priority unit) (arrive l c f).responder.kept (arrive l c f).arrived (arrive l c f).executed
  some-arrived c g =
      subst (λ (t : ResponderTable). SomeArrived f (service_reply l.d l.station_type f service priority unit) t.kept (c.arrived + 1) (c.executed + (if is_repeat c.responder.kept f then 0 else 1)))
      (sym (call_after l f service priority c.responder call))
      (subst (λ (u : List ℕ). SomeArrived f (service_reply l.d l.station_type f service priority unit) (once c.responder f (service_reply l.d l.station_type f service priority u)).kept
      (c.arrived + 1) (c.executed + (if is_repeat c.responder.kept f then 0 else 1))) (sym g.data_unit)
      (one_arrives f (service_reply l.d l.station_type f service priority unit) c.responder c.arrived c.executed (is_repeat c.responder.kept f) refl g.arrivals))

  arrive-going : (c : Cycle) → Going l f next (service_reply l.d l.station_type f service priority unit) unit c
      → Going l f next (service_reply l.d l.station_type f service priority unit) unit (arrive l c f)
  arrive-going c g =
      arrived-by l f next (service_reply l.d l.station_type f service priority unit) unit c _ _ _ g
      (ap (λ (t : ResponderTable). t.reply) (call_after l f service priority c.responder call)
      ∙ same_data c.responder f _ (is_repeat c.responder.kept f) ∙ g.data_unit)
      (call_reply l f service priority c.responder call
      ∙ ap (λ (u : List ℕ). reply_once c.responder f (service_reply l.d l.station_type f service priority u)) g.data_unit
      ∙ one_reply f _ c.responder c.arrived c.executed (is_repeat c.responder.kept f) refl g.arrivals)
      (some-arrived c g)

  sendings-done : (c : Cycle) (fates : List Fate) → Going l f next (service_reply l.d l.station_type f service priority unit) unit c → Done l (sendings l c f fates)
  sendings-done c [] g = unanswered-done l f next _ unit c g call.da call.station
  sendings-done c (RequestLost ∷ fates) g =
      retry-done l f next _ unit c _ g call.da call.station (λ q h. sendings-done q fates h)
  sendings-done c (ReplyLost ∷ fates) g =
      retry-done l f next _ unit (arrive l c f) _ (arrive-going c g) call.da call.station (λ q h. sendings-done q fates h)
  sendings-done c (Delivered ∷ fates) g =
      receive-done l f next _ unit (arrive l c f) _ _ (arrive-going c g) call.da call.station (some-arrived c g) fits (λ q h. sendings-done q fates h)

-- ---- a cycle, from its request on

abbrev call_frame : Link → Service → Priority → List ℕ → FrameCount → Fields
call_frame l service priority unit count = record { da = l.d; sa = l.ts; fc = 0x40 + count_bits count + code_of service priority; unit = unit }

is_call : (l : Link) (service : Service) (priority : Priority) (unit : List ℕ) (count : FrameCount) → l.d ≤ 126 → is_answered service ≡ true
    → IsCall l (call_frame l service priority unit count) service priority
is_call l Sda High unit First b e = record { da = refl; station = b; request = refl; asks = refl; is_call = refl }
is_call l Sda High unit Clear b e = record { da = refl; station = b; request = refl; asks = refl; is_call = refl }
is_call l Sda High unit Set b e = record { da = refl; station = b; request = refl; asks = refl; is_call = refl }
is_call l Sda Low unit First b e = record { da = refl; station = b; request = refl; asks = refl; is_call = refl }
is_call l Sda Low unit Clear b e = record { da = refl; station = b; request = refl; asks = refl; is_call = refl }
is_call l Sda Low unit Set b e = record { da = refl; station = b; request = refl; asks = refl; is_call = refl }
is_call l Sdn priority unit count b e = absurd cc
is_call l Srd High unit First b e = record { da = refl; station = b; request = refl; asks = refl; is_call = refl }
is_call l Srd High unit Clear b e = record { da = refl; station = b; request = refl; asks = refl; is_call = refl }
is_call l Srd High unit Set b e = record { da = refl; station = b; request = refl; asks = refl; is_call = refl }
is_call l Srd Low unit First b e = record { da = refl; station = b; request = refl; asks = refl; is_call = refl }
is_call l Srd Low unit Clear b e = record { da = refl; station = b; request = refl; asks = refl; is_call = refl }
is_call l Srd Low unit Set b e = record { da = refl; station = b; request = refl; asks = refl; is_call = refl }

-- bits 4 and 5 of the control octet
abbrev counts_of : FrameCount → Bool
counts_of First = false
counts_of Clear = true
counts_of Set = true

abbrev bit_of : FrameCount → Bool
bit_of First = true
bit_of Clear = false
bit_of Set = true

bits_are : (service : Service) (priority : Priority) (count : FrameCount) → is_answered service ≡ true
    → (has_bit (0x40 + count_bits count + code_of service priority) 4 ≡ counts_of count) × (has_bit (0x40 + count_bits count + code_of service priority) 5 ≡ bit_of count)
bits_are Sda High First e = (refl, refl)
bits_are Sda High Clear e = (refl, refl)
bits_are Sda High Set e = (refl, refl)
bits_are Sda Low First e = (refl, refl)
bits_are Sda Low Clear e = (refl, refl)
bits_are Sda Low Set e = (refl, refl)
bits_are Sdn priority count e = absurd cc
bits_are Srd High First e = (refl, refl)
bits_are Srd High Clear e = (refl, refl)
bits_are Srd High Set e = (refl, refl)
bits_are Srd Low First e = (refl, refl)
bits_are Srd Low Clear e = (refl, refl)
bits_are Srd Low Set e = (refl, refl)

abbrev kept_as : ℕ → Reply → Bool → Option Kept
kept_as a reply bit = Some (record { requester = a; bit = bit; reply = reply })

-- a request that was answered is the one that the next count follows
followed : (ts : ℕ) (count : FrameCount) (bit : Bool) (reply : Reply) → bit ≡ bit_of count → Matches (count_after count) ts (kept_as (address_in ts) reply bit)
followed ts First bit reply e = (reply, ap (kept_as (address_in ts) reply) e)
followed ts Clear bit reply e = (reply, ap (kept_as (address_in ts) reply) e)
followed ts Set bit reply e = (reply, ap (kept_as (address_in ts) reply) e)

and_false : (x y b : Bool) → b ≡ false → (x && (y && b)) ≡ false
and_false true true b e = e
and_false true false b e = refl
and_false false y b e = refl

-- the next request whose frame count bit counts is no repeat
no_repeat : (ts : ℕ) (count : FrameCount) (kept : Option Kept) (f : Fields) → Matches count ts kept
    → has_bit f.fc 4 ≡ counts_of count → has_bit f.fc 5 ≡ bit_of count → has_bit f.fc 4 ≡ true → is_repeat kept f ≡ false
no_repeat ts First kept f m e b v = absurd (both_ways _ e v)
no_repeat ts Clear kept f (reply, m) e b v =
    ap (λ (k : Option Kept). is_repeat k f) m ∙ and_false (has_bit f.fc 4) (address_in ts == address_in f.sa) (same_bit true (has_bit f.fc 5)) b
no_repeat ts Set kept f (reply, m) e b v =
    ap (λ (k : Option Kept). is_repeat k f) m ∙ and_false (has_bit f.fc 4) (address_in ts == address_in f.sa) (same_bit false (has_bit f.fc 5)) (ap not b)

none : {X : Type 0} (P : X → Type 0) → All P []
none P k d h = absurd (omega arith)

module _ (l : Link) (i : InitiatorTable) (t : ResponderTable) (bound : l.d ≤ 126) (ready : Ready l i t) where
  started : (service : Service) (high : Bool) (unit : List ℕ) (reply : Reply) → is_answered service ≡ true
      → Going l (call_frame l service (priority_of high) unit (count_at i.counts l.d)) (count_after (count_at i.counts l.d)) reply t.reply
      (record {
        initiator = with_request i (record { da = l.d; service = service; high = high; unit = unit }) (call_frame l service (priority_of high) unit (count_at i.counts l.d));
        responder = t;
        sent = call_frame l service (priority_of high) unit (count_at i.counts l.d);
        arrived = 0;
        executed = 0;
        replies = [];
        outcome = None;
      })
  started service high unit reply e =
      let many : length i.counts ≡ 127 = ready.stations in
      let bits = bits_are service (priority_of high) (count_at i.counts l.d) e in
      record {
        stations = length-set i.counts l.d _ ∙ ready.stations;
        counts = get_or-set_same i.counts l.d _ First (omega arith);
        left = i.retries;
        pending = refl;
        data_unit = refl;
        sent = refl;
        replies = none _;
        arrivals = inl (refl, refl, no_repeat l.ts (count_at i.counts l.d) t.kept _ ready.matches bits.0 bits.1);
      }

  call-done : (service : Service) (high : Bool) (unit : List ℕ) (fates : List Fate) → is_answered service ≡ true
      → Done l (cycle l i t (record { da = l.d; service = service; high = high; unit = unit }) fates)
  call-done Sda high unit fates e =
      sendings-done l _ (count_after (count_at i.counts l.d)) t.reply Sda (priority_of high) (is_call l Sda (priority_of high) unit (count_at i.counts l.d) bound e)
      (followed l.ts (count_at i.counts l.d) _ _ (bits_are Sda (priority_of high) (count_at i.counts l.d) e).1) _ fates (started Sda high unit _ e)
  call-done Sdn high unit fates e = absurd cc
  call-done Srd high unit fates e =
      sendings-done l _ (count_after (count_at i.counts l.d)) t.reply Srd (priority_of high) (is_call l Srd (priority_of high) unit (count_at i.counts l.d) bound e)
      (followed l.ts (count_at i.counts l.d) _ _ (bits_are Srd (priority_of high) (count_at i.counts l.d) e).1) _ fates (started Srd high unit _ e)

  cycle-done : (r : RequestFields) (fates : List Fate) → IsCallTo l r → Done l (cycle l i t r fates)
  cycle-done r fates (e, at) =
      subst (λ (da : ℕ). Done l (cycle l i t (record { da = da; service = r.service; high = r.high; unit = r.unit }) fates)) (sym at) (call-done r.service r.high r.unit fates e)

all-cons : {X : Type 0} (P : X → Type 0) (x : X) (xs : List X) → P x → All P xs → All P (x ∷ xs)
all-cons P x xs p ps zero d h = p
all-cons P x xs p ps (suc k) d h = ps k d (omega arith)

all-rest : {X : Type 0} (P : X → Type 0) (x : X) (xs : List X) → All P (x ∷ xs) → All P xs
all-rest P x xs ps k d h = ps (suc k) d (omega arith)

all-done : (l : Link) (i : InitiatorTable) (t : ResponderTable) (requests : List (RequestFields × List Fate)) → l.d ≤ 126 → Ready l i t
    → All (λ x. IsCallTo l x.0) requests → All ExecutesOnce (cycles l i t requests)
all-done l i t [] bound ready calls = none _
all-done l i t (x ∷ xs) bound ready calls =
    let done : Done l (cycle l i t x.0 x.1) = cycle-done l i t bound ready x.0 x.1 (calls 0 x (omega arith)) in
    all-cons ExecutesOnce _ _ done.once
    (all-done l (cycle l i t x.0 x.1).initiator (cycle l i t x.0 x.1).responder xs bound done.ready (all-rest (λ (y : RequestFields × List Fate). IsCallTo l y.0) x xs calls))

pub executed-once : (l : Link) (retries : ℕ) (t : ResponderTable) (requests : List (RequestFields × List Fate)) → l.d ≤ 126
    → All (λ x. IsCallTo l x.0) requests → All ExecutesOnce (cycles l (record { retries = retries; counts = replicate 127 First; pending = None }) t requests)
executed-once l retries t requests bound calls =
    let first : count_at (replicate 127 First) l.d ≡ First = get_or-replicate 127 l.d First First (omega arith) in
    all-done l _ t requests bound (record {
      stations = refl;
      matches = subst (λ (n : FrameCount). Matches n l.ts t.kept) (sym first) tt;
    }) calls
