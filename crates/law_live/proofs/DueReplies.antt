-- When the reply that a station keeps is due.
use Rattle.std.proofs.Common.{◌≡◌, ℕ, ◌+◌, ◌%◌, ◌≤◌, Bool, true, false, ◌==◌, ◌&&◌, List, refl, Option, Some, None}
use Rattle.std.specs.Prelude.{nat_lt, nat_le, is_some, IfSome}
use Rattle.std.specs.Option.{option_map, option_or}
use Rattle.pb_telegram.specs.declared.chars.RxChar.{RxChar}
use Rattle.pb_timers.specs.Timers.{Params}
use Rattle.pb_ring.specs.Gap.{next_asked, last_asked, round_after}
use Rattle.pb_ring.specs.Las as las
use Rattle.pb_ring.specs.Las.{place_of, skips_of}
use Rattle.pb_cycles.specs.Fields.{Fields}
use Rattle.pb_cycles.specs.Messages.{has_bit, reply_octets}
use Rattle.pb_cycles.specs.RequestFields.{RequestFields}
use Rattle.pb_cycles.specs.Requests.{is_answered, asked_by}
use Rattle.pb_cycles.specs.declared.messages.Reply as messages
use Rattle.pb_cycles.specs.declared.messages.Message.{Message}
use Rattle.pb_cycles.specs.declared.messages.Message.TheVariants as message
use Rattle.pb_cycles.specs.Initiating.{retry_of, outcome_of}
use Rattle.pb_cycles.specs.Outcomes.{status_reply}
use Rattle.pb_cycles.specs.Responding.{reply_to_asked}
use Rattle.pb_cycles.specs.declared.outcomes.Outcome.{Outcome}
use Rattle.law_turn.specs.Arrivals.{Arrival, Token, Framed, Acknowledgement, NoTelegram, arrival_of}
use Rattle.law_turn.specs.Hearing.{phase_timed_out, timed_out, after_timer, tries_limit, begun, answering, passive, in_ring, passive_hears, asks_status, status_answer, ready_for_ring, not_ready, listening_hears, taking, is_taken_from, skips_limit, idle_hears, holder_hears, status_told, awaiting_status_hears, data_told, no_reply, awaiting_data_hears, with_token, lost, phase_ended, heard, after_mark}
use Rattle.law_turn.specs.Marks.{Begin, End}
use Rattle.law_turn.specs.Phases.{Phase, Offline, PassiveIdle, Listening, Idle, Claim, Use, AwaitData, AwaitStatus, Pass, Checking, answers_requests, is_offline}
use Rattle.law_turn.specs.Stations.{Station, Reply, timer_of, speaks_at, next_station, previous_station}
use Rattle.law_turn.specs.Turns.{looks_at_gap, says_look, says_token, high_request, low_request, high_taken, low_taken, says_request, says_low, says_high, says_again, says_reply, says_ready, replying, joining, phase_says, speech, saying, received_own, token_octets}
use Rattle.law_turn.proofs.Paths.{at_end}
use Rattle.law_model.proofs.Cases.{by_test}

-- the reply that a station keeps is due by a moment
abbrev pub DueBy : ℕ → Station → Type 0
DueBy b s = IfSome s.reply (λ a. a.ready ≤ b)

-- ---- timers and marks

-- a timer adds no reply, in any phase
due-timed_out : (b : ℕ) (s : Station) (ph : Phase) (t : ℕ) → DueBy b s → DueBy b (phase_timed_out (record s { phase = ph }) ph t)
due-timed_out b s Offline t h = h
due-timed_out b s PassiveIdle t h = h
due-timed_out b s (Listening doubled) t h = tt
due-timed_out b s (Idle refused) t h = tt
due-timed_out b s (Claim sent ready) t h = h
due-timed_out b s (Use asked ready) t h = h
due-timed_out b s (AwaitData asked retry slot) t h = by_test (DueBy b) (is_some (retry_of s.cycles.initiator.pending)) _ _ (λ _. h) (λ _. h)
due-timed_out b s (AwaitStatus of slot) t h = h
due-timed_out b s (Pass tries ready) t h = h
due-timed_out b s (Checking tries) t h = by_test (DueBy b) (nat_le tries_limit tries) _ _ (λ _. h) (λ _. h)

-- so with the timer that ends by a moment
pub due-after_timer : (p : Params) (b limit : ℕ) (s : Station) → DueBy b s → DueBy b (after_timer p limit s)
due-after_timer p b limit s h = by (timer_of p s)
  where
    by : (o : Option ℕ) → DueBy b (timed_out s o limit)
    by None = h
    by (Some t) = by_test (DueBy b) (nat_lt t limit) (phase_timed_out s s.phase t) s (λ _. due-timed_out b s s.phase t h) (λ _. h)

-- a Begin adds none
due-begun : (b : ℕ) (s : Station) (at : ℕ) → DueBy b s → DueBy b (begun s at)
due-begun b s at h = by_test (λ (o : Option Reply). IfSome o (λ a. a.ready ≤ b)) (answers_requests s.phase) None s.reply (λ _. tt) (λ _. h)

-- where a request comes
abbrev pub IfRequest : Arrival → Type 0 → Type 0
IfRequest (Token da sa) X = Unit {0}
IfRequest (Framed f) X = has_bit f.fc 6 ≡ true → X
IfRequest Acknowledgement X = Unit {0}
IfRequest NoTelegram X = Unit {0}

-- a new reply is due a reply delay after the End, and else the old one stays
new-reply : (p : Params) (b at : ℕ) (new : Option messages.Reply) (old : Option Reply) → at + p.tsdr ≤ b → IfSome old (λ a. a.ready ≤ b)
    → IfSome (option_or (option_map (λ reply. record { ready = at + p.tsdr; octets = reply_octets reply; joins = false }) new) old) (λ (a : Reply). a.ready ≤ b)
new-reply p b at None old le h = h
new-reply p b at (Some r) old le h = le

-- a station that answers requests keeps a reply to what asks it
due-answering : (p : Params) (b : ℕ) (s : Station) (at : ℕ) (f : Fields) (type : ℕ) → (has_bit f.fc 6 ≡ true → at + p.tsdr ≤ b) → DueBy b s → DueBy b (answering p s at f type)
due-answering p b s at f type by h =
    by_test (λ (o : Option messages.Reply). IfSome (option_or (option_map (λ reply. record { ready = at + p.tsdr; octets = reply_octets reply; joins = false }) o) s.reply) (λ (a : Reply). a.ready ≤ b))
    (has_bit f.fc 6) (reply_to_asked s.cycles.responder s.address type f (asked_by (f.fc % 16))) None
    (λ e. new-reply p b at (reply_to_asked s.cycles.responder s.address type f (asked_by (f.fc % 16))) s.reply (by e) h) (λ _. h)

-- or its status
due-status : (p : Params) (b : ℕ) (s : Station) (at : ℕ) (f : Fields) (type : ℕ) (joins : Bool) → (has_bit f.fc 6 ≡ true → at + p.tsdr ≤ b) → DueBy b s → IfSome (option_or (status_answer p s at f type joins) s.reply) (λ (a : Reply). a.ready ≤ b)
due-status p b s at f type joins by h =
    by_test (λ (o : Option Reply). IfSome (option_or o s.reply) (λ (a : Reply). a.ready ≤ b)) (asks_status s.address f) _ None
    (λ e. by (first (has_bit f.fc 6) _ e)) (λ _. h)
  where
    first : (x y : Bool) → (x && y) ≡ true → x ≡ true
    first true y e = refl
    first false y e = e

-- a listening station answers for its status alone
due-listening : (p : Params) (b : ℕ) (s : Station) (doubled : Bool) (at : ℕ) (x : Arrival) → IfRequest x (at + p.tsdr ≤ b) → DueBy b s → DueBy b (listening_hears p s doubled at x)
due-listening p b s doubled at (Token da sa) by h = h
due-listening p b s doubled at (Framed f) by h =
    by_test (λ (o : Option Reply). IfSome (option_or o s.reply) (λ (a : Reply). a.ready ≤ b)) (las.is_complete s.las.stage) (status_answer p s at f ready_for_ring true) (status_answer p s at f not_ready false)
    (λ _. due-status p b s at f ready_for_ring true by h) (λ _. due-status p b s at f not_ready false by h)
due-listening p b s doubled at Acknowledgement by h = h
due-listening p b s doubled at NoTelegram by h = h

-- an idle one answers requests, and keeps its reply as it takes the token
due-idle : (p : Params) (b : ℕ) (s : Station) (refused : Option ℕ) (at : ℕ) (x : Arrival) → IfRequest x (at + p.tsdr ≤ b) → DueBy b s → DueBy b (idle_hears p s refused at x)
due-idle p b s refused at (Token da sa) by h =
    let x = with_token s da sa in
    by_test (DueBy b) (da == s.address) _ _
    (λ _. by_test (DueBy b) (is_taken_from refused (previous_station s) sa) (taking p x at) _ (λ _. h) (λ _. h))
    (λ _. by_test (DueBy b) (nat_le skips_limit (skips_of (place_of x.las.stage))) _ x (λ _. tt) (λ _. h))
due-idle p b s refused at (Framed f) by h = due-answering p b s at f in_ring by h
due-idle p b s refused at Acknowledgement by h = h
due-idle p b s refused at NoTelegram by h = h

-- a holder keeps no new reply
due-holder : (b : ℕ) (s : Station) (x : Arrival) → DueBy b s → DueBy b (holder_hears s x)
due-holder b s (Token da sa) h = h
due-holder b s (Framed f) h = h
due-holder b s Acknowledgement h = h
due-holder b s NoTelegram h = h

-- nor does one that is told a status
due-status_told : (p : Params) (b : ℕ) (s : Station) (of at : ℕ) (fc : Option ℕ) → DueBy b s → DueBy b (status_told p s of at fc)
due-status_told p b s of at None h = h
due-status_told p b s of at (Some fc) h = h

-- nor one that got no reply
due-no_reply : (p : Params) (b : ℕ) (s : Station) (asked slot : Bool) (at : ℕ) → DueBy b s → DueBy b (no_reply p s asked slot at)
due-no_reply p b s asked slot at h = by_test (DueBy b) (is_some (retry_of s.cycles.initiator.pending)) _ _ (λ _. h) (λ _. h)

-- nor one that is told data
due-data_told : (p : Params) (b : ℕ) (s : Station) (asked slot : Bool) (at : ℕ) (m : Message) (x : Option Outcome) → DueBy b s → DueBy b (data_told p s asked slot at m x)
due-data_told p b s asked slot at m (Some outcome) h = h
due-data_told p b s asked slot at m None h = due-no_reply p b s asked slot at h

-- nor one that awaits data, whatever comes
due-data : (p : Params) (b : ℕ) (s : Station) (asked slot : Bool) (at : ℕ) (x : Arrival) → DueBy b s → DueBy b (awaiting_data_hears p s asked slot at x)
due-data p b s asked slot at (Token da sa) h = h
due-data p b s asked slot at (Framed f) h =
    by_test (DueBy b) (has_bit f.fc 6) (lost s) _ (λ _. h) (λ _. due-data_told p b s asked slot at (message.Framed f) (outcome_of s.cycles.initiator (Some (message.Framed f))) h)
due-data p b s asked slot at Acknowledgement h = due-data_told p b s asked slot at message.Acknowledgement (outcome_of s.cycles.initiator (Some message.Acknowledgement)) h
due-data p b s asked slot at NoTelegram h = due-no_reply p b s asked slot at h

-- nor one that awaits a status
due-asked : (p : Params) (b : ℕ) (s : Station) (of at : ℕ) (x : Arrival) → DueBy b s → DueBy b (awaiting_status_hears p s of at x)
due-asked p b s of at (Token da sa) h = h
due-asked p b s of at (Framed f) h = by_test (DueBy b) (has_bit f.fc 6) (lost s) _ (λ _. h) (λ _. due-status_told p b s of at (status_reply s.address of (message.Framed f)) h)
due-asked p b s of at Acknowledgement h = due-status_told p b s of at None h
due-asked p b s of at NoTelegram h = due-status_told p b s of at None h

-- a passive station answers requests
due-passive : (p : Params) (b : ℕ) (s : Station) (at : ℕ) (x : Arrival) → IfRequest x (at + p.tsdr ≤ b) → DueBy b s → DueBy b (passive_hears p s at x)
due-passive p b s at (Token da sa) by h = h
due-passive p b s at (Framed f) by h = due-answering p b s at f passive by h
due-passive p b s at Acknowledgement by h = h
due-passive p b s at NoTelegram by h = h

-- so in each phase at an End
due-ended : (p : Params) (b : ℕ) (s : Station) (ph : Phase) (at : ℕ) (x : Arrival) → IfRequest x (at + p.tsdr ≤ b) → DueBy b s → DueBy b (phase_ended p s ph at x)
due-ended p b s Offline at x by h = h
due-ended p b s PassiveIdle at x by h = due-passive p b s at x by h
due-ended p b s (Listening doubled) at x by h = due-listening p b s doubled at x by h
due-ended p b s (Idle refused) at x by h = due-idle p b s refused at x by h
due-ended p b s (Claim sent ready) at x by h = due-holder b s x h
due-ended p b s (Use asked ready) at x by h = due-holder b s x h
due-ended p b s (AwaitData asked retry slot) at x by h = due-data p b s asked slot at x h
due-ended p b s (AwaitStatus of slot) at x by h = due-asked p b s of at x h
due-ended p b s (Pass tries ready) at x by h = due-holder b s x h
due-ended p b s (Checking tries) at x by h = due-holder b s x h

-- a station that reads a Begin adds no reply
pub due-begin : (p : Params) (b : ℕ) (s : Station) (at seen : ℕ) → DueBy b s → DueBy b (after_mark p s (Begin at seen))
due-begin p b s at seen h = by_test (DueBy b) (is_offline s.phase) s (heard p s (Begin at seen)) (λ _. h) (λ _. due-begun b s at h)

-- one that reads an End adds a reply to a request alone
pub due-end : (p : Params) (b : ℕ) (s : Station) (at seen : ℕ) (chars : List RxChar) → IfRequest (arrival_of chars) (at + p.tsdr ≤ b) → DueBy b s → DueBy b (after_mark p s (End at seen chars))
due-end p b s at seen chars by h = by_test (DueBy b) (is_offline s.phase) s (heard p s (End at seen chars)) (λ _. h) (λ _. due-ended p b (at_end s at) s.phase at (arrival_of chars) by h)

-- ---- speech

-- a token that is said adds no reply
due-token : (p : Params) (b : ℕ) (s : Station) (tries now : ℕ) → DueBy b s → DueBy b (says_token p s tries now).0
due-token p b s tries now h = by_test (DueBy b) (next_station s == s.address) (received_own p (saying s now (token_octets (next_station s) s.address))) _ (λ _. h) (λ _. h)

-- nor does a question for a status
due-look : (p : Params) (b : ℕ) (s : Station) (next : Option ℕ) (now : ℕ) → DueBy b s → DueBy b (says_look p s next now).0
due-look p b s None now h = due-token p b (record s { gap = round_after None now }) 0 now h
due-look p b s (Some a) now h = h

-- nor a request
due-request : (p : Params) (b : ℕ) (s : Station) (asked : Bool) (r : RequestFields) (now : ℕ) → DueBy b s → DueBy b (says_request p s asked r now).0
due-request p b s asked r now h = by_test (DueBy b) (is_answered r.service) _ _ (λ _. h) (λ _. h)

-- nor what is said where no request of high priority waits
due-low : (p : Params) (b : ℕ) (s : Station) (asked : Bool) (o : Option RequestFields) (now : ℕ) → DueBy b s → DueBy b (says_low p s asked o now).0
due-low p b s asked (Some r) now h = due-request p b (low_taken s) asked r now h
due-low p b s asked None now h =
    by_test (λ (turn : Station × Option (List ℕ)). DueBy b turn.0) (looks_at_gap p s asked now) _ _
    (λ _. due-look p b s (next_asked s.address (next_station s) p.hsa (last_asked s.gap)) now h) (λ _. due-token p b s 0 now h)

-- nor what is said with the token
due-high : (p : Params) (b : ℕ) (s : Station) (asked : Bool) (o : Option RequestFields) (now : ℕ) → DueBy b s → DueBy b (says_high p s asked o now).0
due-high p b s asked (Some r) now h = due-request p b (high_taken s) asked r now h
due-high p b s asked None now h = due-low p b s asked (low_request s now) now h

-- nor a request that is said again
due-again : (b : ℕ) (s : Station) (asked : Bool) (o : Option Fields) (now : ℕ) → DueBy b s → DueBy b (says_again s asked o now).0
due-again b s asked None now h = h
due-again b s asked (Some f) now h = h

-- a reply that is said is kept no more
due-reply : (b : ℕ) (s : Station) (o : Option Reply) (now : ℕ) → DueBy b s → DueBy b (says_reply s o now).0
due-reply b s None now h = h
due-reply b s (Some r) now h = tt

-- nor one that lets its station into the ring
due-ready : (b : ℕ) (s : Station) (o : Option Reply) (now : ℕ) → DueBy b s → DueBy b (says_ready s o now).0
due-ready b s None now h = h
due-ready b s (Some r) now h = by_test (DueBy b) r.joins (joining (replying s now r)) (replying s now r) (λ _. tt) (λ _. tt)

-- so in each phase that speaks
due-says : (p : Params) (b : ℕ) (s : Station) (ph : Phase) (now : ℕ) → DueBy b s → DueBy b (phase_says p s ph now).0
due-says p b s Offline now h = h
due-says p b s PassiveIdle now h = due-reply b s s.reply now h
due-says p b s (Listening doubled) now h = due-ready b s s.reply now h
due-says p b s (Idle refused) now h = due-reply b s s.reply now h
due-says p b s (Claim sent ready) now h = by_test (DueBy b) (sent == 0) _ (received_own p (saying s now (token_octets s.address s.address))) (λ _. h) (λ _. h)
due-says p b s (Use asked ready) now h = due-high p b s asked (high_request s now) now h
due-says p b s (AwaitData asked retry slot) now h = due-again b s asked (retry_of s.cycles.initiator.pending) now h
due-says p b s (AwaitStatus of slot) now h = h
due-says p b s (Pass tries ready) now h = due-token p b s tries now h
due-says p b s (Checking tries) now h = h

-- a turn adds no reply as it speaks
pub due-speech : (p : Params) (b : ℕ) (s : Station) (now : ℕ) → DueBy b s → DueBy b (speech p s (speaks_at s) now).0
due-speech p b s now h = by (speaks_at s)
  where
    by : (o : Option ℕ) → DueBy b (speech p s o now).0
    by None = h
    by (Some m) = by_test (λ (turn : Station × Option (List ℕ)). DueBy b turn.0) (nat_le m now) (phase_says p s s.phase now) (s, None) (λ _. due-says p b s s.phase now h) (λ _. h)
