-- A turn never changes the data that a station replies.
use Rattle.std.proofs.Common.{◌≡◌, ◌∙◌, refl, ℕ, ◌+◌, ◌%◌, ◌==◌, nat_lt, nat_le, Bool, true, false, List, [], ◌∷◌, Option, Some, None}
use Rattle.std.specs.Prelude.{is_some, max}
use Rattle.pb_timers.specs.Timers.{Params}
use Rattle.pb_ring.specs.Gap.{last_asked, next_asked, round_after}
use Rattle.pb_cycles.specs.declared.services.Priority.{Priority}
use Rattle.pb_cycles.specs.Messages.{has_bit}
use Rattle.pb_cycles.specs.Fields.{Fields}
use Rattle.pb_cycles.specs.RequestFields.{RequestFields}
use Rattle.pb_cycles.specs.Messages.{address_in}
use Rattle.pb_cycles.specs.Requests.{is_answered, asked_by}
use Rattle.pb_cycles.specs.declared.messages.Reply as messages
use Rattle.pb_cycles.specs.declared.services.Asked.{Asked}
use Rattle.pb_cycles.specs.declared.services.Asked.TheVariants.{Send, Status, Unknown}
use Rattle.pb_cycles.specs.declared.services.Service.{Service}
use Rattle.pb_cycles.specs.declared.services.Service.TheVariants.{Sda, Sdn, Srd}
use Rattle.pb_cycles.specs.Tables.{ResponderTable}
use Rattle.pb_cycles.specs.Responding.{service_reply, is_repeat, executed, once, counted, after_service, after_asked, after_framed}
use Rattle.pb_cycles.specs.declared.messages.Message.{Message}
use Rattle.pb_cycles.specs.declared.messages.Message.TheVariants as message
use Rattle.pb_cycles.specs.Initiating.{retry_of, outcome_of}
use Rattle.pb_cycles.specs.Outcomes.{status_reply}
use Rattle.pb_cycles.specs.declared.outcomes.Outcome.{Outcome}
use Rattle.pb_ring.specs.Las.{place_of, skips_of}
use Rattle.law_turn.specs.Arrivals.{Arrival, Token, Framed, Acknowledgement, NoTelegram, arrival_of}
use Rattle.law_turn.specs.Hearing.{in_ring, passive as passive_type, not_answered, passive_hears, data_told, awaiting_data_hears, phase_timed_out, timed_out, after_timer, tries_limit, listening_hears, is_taken_from, skips_limit, own_token, foreign_token, idle_hears, holder_hears, status_told, awaiting_status_hears, with_token, lost, phase_ended, heard, after_mark}
use Rattle.law_turn.specs.Marks.{Mark, Begin, End, moment_of}
use Rattle.law_turn.specs.Phases.{Phase, Offline, PassiveIdle, Listening, Idle, Claim, Use, AwaitData, AwaitStatus, Pass, Checking, is_offline}
use Rattle.law_turn.specs.Stations.{Station, Reply, timer_of, speaks_at, next_station, previous_station}
use Rattle.law_turn.specs.Turns.{after_marks, settled, saying, received_own, says_token, says_claim, looks_at_gap, says_look, says_no_request, high_request, low_request, high_taken, low_taken, says_request, says_low, says_high, says_in_use, says_again, replying, joining, says_reply, says_ready, phase_says, speech, turn_of, token_octets}
use Rattle.law_turn.proofs.Cases.{by_test}

abbrev Has : List ℕ → Station → Type 0
Has a s = s.cycles.responder.reply ≡ a

-- ---- a responder's table

same-executed : (t : ResponderTable) (f : Fields) (reply : messages.Reply) → (once t f reply).reply ≡ t.reply
same-executed t f reply = by_test (λ (x : ResponderTable). x.reply ≡ t.reply) (is_repeat t.kept f) t (executed t f reply) (λ _. refl) (λ _. refl)

served : (t : ResponderTable) (ts station_type : ℕ) (f : Fields) (service : Service) (priority : Priority) → (after_service t ts station_type f service priority).reply ≡ t.reply
served t ts station_type f Sda priority =
    by_test (λ (x : ResponderTable). x.reply ≡ t.reply) (address_in f.da == ts) _ t (λ _. same-executed t f (service_reply ts station_type f Sda priority t.reply)) (λ _. refl)
served t ts station_type f Sdn priority = by_test (λ (x : ResponderTable). x.reply ≡ t.reply) _ (counted t) t (λ _. refl) (λ _. refl)
served t ts station_type f Srd priority =
    by_test (λ (x : ResponderTable). x.reply ≡ t.reply) (address_in f.da == ts) _ t (λ _. same-executed t f (service_reply ts station_type f Srd priority t.reply)) (λ _. refl)

asked : (t : ResponderTable) (ts station_type : ℕ) (f : Fields) (what : Asked) → (after_asked t ts station_type f what).reply ≡ t.reply
asked t ts station_type f (Send service priority) = served t ts station_type f service priority
asked t ts station_type f Status = refl
asked t ts station_type f Unknown = refl

framed : (t : ResponderTable) (ts station_type : ℕ) (f : Fields) → (after_framed t ts station_type f).reply ≡ t.reply
framed t ts station_type f =
    by_test (λ (x : ResponderTable). x.reply ≡ t.reply) (has_bit f.fc 6) _ t (λ _. asked t ts station_type f (asked_by (f.fc % 16))) (λ _. refl)

-- ---- timers

unanswered : (s : Station) (asked slot : Bool) (ready : ℕ) → Has s.cycles.responder.reply (not_answered s asked slot ready)
unanswered s asked slot ready = by_test (Has s.cycles.responder.reply) (is_some (retry_of s.cycles.initiator.pending)) _ _ (λ _. refl) (λ _. refl)

timed : (s : Station) (ph : Phase) (t : ℕ) → Has s.cycles.responder.reply (phase_timed_out s ph t)
timed s Offline t = refl
timed s PassiveIdle t = refl
timed s (Listening doubled) t = refl
timed s (Idle refused) t = refl
timed s (Claim sent ready) t = refl
timed s (Use asked ready) t = refl
timed s (AwaitData asked retry slot) t = unanswered s asked false t
timed s (AwaitStatus of slot) t = refl
timed s (Pass tries ready) t = refl
timed s (Checking tries) t = by_test (Has s.cycles.responder.reply) (nat_le tries_limit tries) _ _ (λ _. refl) (λ _. refl)

timer : (p : Params) (limit : ℕ) (s : Station) → Has s.cycles.responder.reply (after_timer p limit s)
timer p limit s = by_timer (timer_of p s)
  where
    by_timer : (o : Option ℕ) → Has s.cycles.responder.reply (timed_out s o limit)
    by_timer None = refl
    by_timer (Some t) = by_test (Has s.cycles.responder.reply) (nat_lt t limit) (phase_timed_out s s.phase t) s (λ _. timed s s.phase t) (λ _. refl)

-- ---- marks

foreign : (s : Station) → Has s.cycles.responder.reply (foreign_token s)
foreign s = by_test (Has s.cycles.responder.reply) (nat_le skips_limit (skips_of (place_of s.las.stage))) _ s (λ _. refl) (λ _. refl)

own : (p : Params) (s : Station) (taken : Bool) (sa at : ℕ) → Has s.cycles.responder.reply (own_token p s taken sa at)
own p s true sa at = refl
own p s false sa at = refl

idle : (p : Params) (s : Station) (refused : Option ℕ) (at : ℕ) (arrival : Arrival) → Has s.cycles.responder.reply (idle_hears p s refused at arrival)
idle p s refused at (Token da sa) =
    by_test (Has s.cycles.responder.reply) (da == s.address) _ _
    (λ _. own p (with_token s da sa) (is_taken_from refused (previous_station s) sa) sa at) (λ _. foreign (with_token s da sa))
idle p s refused at (Framed f) = framed s.cycles.responder s.address in_ring f
idle p s refused at Acknowledgement = refl
idle p s refused at NoTelegram = refl

listening : (p : Params) (s : Station) (doubled : Bool) (at : ℕ) (arrival : Arrival) → Has s.cycles.responder.reply (listening_hears p s doubled at arrival)
listening p s doubled at (Token da sa) = refl
listening p s doubled at (Framed f) = refl
listening p s doubled at Acknowledgement = refl
listening p s doubled at NoTelegram = refl

holder : (s : Station) (arrival : Arrival) → Has s.cycles.responder.reply (holder_hears s arrival)
holder s (Token da sa) = refl
holder s (Framed f) = refl
holder s Acknowledgement = refl
holder s NoTelegram = refl

told : (p : Params) (s : Station) (of at : ℕ) (reply : Option ℕ) → Has s.cycles.responder.reply (status_told p s of at reply)
told p s of at None = refl
told p s of at (Some fc) = refl

awaiting : (p : Params) (s : Station) (of at : ℕ) (arrival : Arrival) → Has s.cycles.responder.reply (awaiting_status_hears p s of at arrival)
awaiting p s of at (Token da sa) = refl
awaiting p s of at (Framed f) =
    by_test (Has s.cycles.responder.reply) (has_bit f.fc 6) _ _ (λ _. refl) (λ _. told p s of at (status_reply s.address of (message.Framed f)))
awaiting p s of at Acknowledgement = refl
awaiting p s of at NoTelegram = refl

data_told-data : (p : Params) (s : Station) (asked slot : Bool) (at : ℕ) (m : Message) (outcome : Option Outcome) → Has s.cycles.responder.reply (data_told p s asked slot at m outcome)
data_told-data p s asked slot at m (Some outcome) = refl
data_told-data p s asked slot at m None = unanswered s asked slot (max at s.own.end + p.tid1)

awaiting-data : (p : Params) (s : Station) (asked slot : Bool) (at : ℕ) (arrival : Arrival) → Has s.cycles.responder.reply (awaiting_data_hears p s asked slot at arrival)
awaiting-data p s asked slot at (Token da sa) = refl
awaiting-data p s asked slot at (Framed f) =
    by_test (Has s.cycles.responder.reply) (has_bit f.fc 6) (lost s) _ (λ _. refl)
    (λ _. data_told-data p s asked slot at (message.Framed f) (outcome_of s.cycles.initiator (Some (message.Framed f))))
awaiting-data p s asked slot at Acknowledgement =
    data_told-data p s asked slot at message.Acknowledgement (outcome_of s.cycles.initiator (Some message.Acknowledgement))
awaiting-data p s asked slot at NoTelegram = unanswered s asked slot (max at s.own.end + p.tid1)

passive : (p : Params) (s : Station) (at : ℕ) (arrival : Arrival) → Has s.cycles.responder.reply (passive_hears p s at arrival)
passive p s at (Token da sa) = refl
passive p s at (Framed f) = framed s.cycles.responder s.address passive_type f
passive p s at Acknowledgement = refl
passive p s at NoTelegram = refl

ended-in : (p : Params) (s : Station) (ph : Phase) (at : ℕ) (arrival : Arrival) → Has s.cycles.responder.reply (phase_ended p s ph at arrival)
ended-in p s Offline at arrival = refl
ended-in p s PassiveIdle at arrival = passive p s at arrival
ended-in p s (Listening doubled) at arrival = listening p s doubled at arrival
ended-in p s (Idle refused) at arrival = idle p s refused at arrival
ended-in p s (Claim sent ready) at arrival = holder s arrival
ended-in p s (Use asked ready) at arrival = holder s arrival
ended-in p s (AwaitData asked retry slot) at arrival = awaiting-data p s asked slot at arrival
ended-in p s (AwaitStatus of slot) at arrival = awaiting p s of at arrival
ended-in p s (Pass tries ready) at arrival = holder s arrival
ended-in p s (Checking tries) at arrival = holder s arrival

hearing : (p : Params) (s : Station) (m : Mark) → Has s.cycles.responder.reply (heard p s m)
hearing p s (Begin at seen) = refl
hearing p s (End at seen chars) = ended-in p _ s.phase at (arrival_of chars)

mark : (p : Params) (s : Station) (m : Mark) → Has s.cycles.responder.reply (after_mark p s m)
mark p s m = by_test (Has s.cycles.responder.reply) (is_offline s.phase) s _ (λ _. refl) (λ _. hearing p s m)

marks : (p : Params) (s : Station) (ms : List Mark) → Has s.cycles.responder.reply (after_marks p s ms)
marks p s [] = refl
marks p s (m ∷ ms) =
    let timed_first = after_timer p (moment_of m) s in
    marks p (after_mark p timed_first m) ms ∙ mark p timed_first m ∙ timer p (moment_of m) s

-- ---- speech

abbrev Says : List ℕ → Station × Option (List ℕ) → Type 0
Says a turn = turn.0.cycles.responder.reply ≡ a

token : (p : Params) (s : Station) (tries now : ℕ) → Says s.cycles.responder.reply (says_token p s tries now)
token p s tries now =
    let x = saying s now (token_octets (next_station s) s.address) in
    by_test (Has s.cycles.responder.reply) (next_station s == s.address) (received_own p x) _ (λ _. refl) (λ _. refl)

claim : (p : Params) (s : Station) (sent now : ℕ) → Says s.cycles.responder.reply (says_claim p s sent now)
claim p s sent now =
    let x = saying s now (token_octets s.address s.address) in by_test (Has s.cycles.responder.reply) (sent == 0) _ (received_own p x) (λ _. refl) (λ _. refl)

look : (p : Params) (s : Station) (a : Option ℕ) (now : ℕ) → Says s.cycles.responder.reply (says_look p s a now)
look p s None now = token p (record s { gap = round_after None now }) 0 now
look p s (Some a) now = refl

no_request : (p : Params) (s : Station) (asked : Bool) (now : ℕ) → Says s.cycles.responder.reply (says_no_request p s asked now)
no_request p s asked now =
    by_test (Says s.cycles.responder.reply) (looks_at_gap p s asked now) _ _
    (λ _. look p s (next_asked s.address (next_station s) p.hsa (last_asked s.gap)) now) (λ _. token p s 0 now)

request : (p : Params) (s : Station) (asked : Bool) (r : RequestFields) (now : ℕ) → Says s.cycles.responder.reply (says_request p s asked r now)
request p s asked r now = by_test (Has s.cycles.responder.reply) (is_answered r.service) _ _ (λ _. refl) (λ _. refl)

low : (p : Params) (s : Station) (asked : Bool) (r : Option RequestFields) (now : ℕ) → Says s.cycles.responder.reply (says_low p s asked r now)
low p s asked None now = no_request p s asked now
low p s asked (Some r) now = request p (low_taken s) asked r now

high : (p : Params) (s : Station) (asked : Bool) (r : Option RequestFields) (now : ℕ) → Says s.cycles.responder.reply (says_high p s asked r now)
high p s asked None now = low p s asked (low_request s now) now
high p s asked (Some r) now = request p (high_taken s) asked r now

uses : (p : Params) (s : Station) (asked : Bool) (now : ℕ) → Says s.cycles.responder.reply (says_in_use p s asked now)
uses p s asked now = high p s asked (high_request s now) now

again : (s : Station) (asked : Bool) (f : Option Fields) (now : ℕ) → Says s.cycles.responder.reply (says_again s asked f now)
again s asked None now = refl
again s asked (Some f) now = refl

reply : (s : Station) (r : Option Reply) (now : ℕ) → Says s.cycles.responder.reply (says_reply s r now)
reply s None now = refl
reply s (Some r) now = refl

ready : (s : Station) (r : Option Reply) (now : ℕ) → Says s.cycles.responder.reply (says_ready s r now)
ready s None now = refl
ready s (Some r) now = by_test (Has s.cycles.responder.reply) r.joins (joining (replying s now r)) (replying s now r) (λ _. refl) (λ _. refl)

says : (p : Params) (s : Station) (ph : Phase) (now : ℕ) → Says s.cycles.responder.reply (phase_says p s ph now)
says p s Offline now = refl
says p s PassiveIdle now = reply s s.reply now
says p s (Listening doubled) now = ready s s.reply now
says p s (Idle refused) now = reply s s.reply now
says p s (Claim sent ready) now = claim p s sent now
says p s (Use asked ready) now = uses p s asked now
says p s (AwaitData asked retry slot) now = again s asked (retry_of s.cycles.initiator.pending) now
says p s (AwaitStatus of slot) now = refl
says p s (Pass tries ready) now = token p s tries now
says p s (Checking tries) now = refl

speaks : (p : Params) (s : Station) (o : Option ℕ) (now : ℕ) → Says s.cycles.responder.reply (speech p s o now)
speaks p s None now = refl
speaks p s (Some moment) now = by_test (Says s.cycles.responder.reply) (nat_le moment now) _ _ (λ _. says p s s.phase now) (λ _. refl)

pub turn-data : (p : Params) (s : Station) (ms : List Mark) (now : ℕ) → (turn_of p s ms now).0.cycles.responder.reply ≡ s.cycles.responder.reply
turn-data p s ms now =
    let at_clock = settled p s ms now in
    speaks p at_clock (speaks_at at_clock) now ∙ timer p (now + 1) (after_marks p s ms) ∙ marks p s ms
