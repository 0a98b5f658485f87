-- An open request has its station's address as its source, whatever the station does.
use Rattle.std.proofs.Common.{◌≡◌, ℕ, ◌+◌, ◌==◌, List, [], ◌∷◌, Bool, false, refl, subst, Option, Some, None}
use Rattle.std.specs.Prelude.{IfSome, nat_lt, is_some, nat_le, max}
use Rattle.pb_timers.specs.Timers.{Params}
use Rattle.pb_cycles.specs.Fields.{Fields}
use Rattle.pb_cycles.specs.Messages.{has_bit}
use Rattle.pb_cycles.specs.RequestFields.{RequestFields}
use Rattle.pb_cycles.specs.Requests.{is_answered}
use Rattle.pb_cycles.specs.declared.messages.Message.{Message}
use Rattle.pb_cycles.specs.declared.messages.Message.TheVariants as message
use Rattle.pb_cycles.specs.Initiating.{after_request, retried, after_silence, message_outcome, closed_by, after_outcome, retry_of, outcome_of}
use Rattle.pb_cycles.specs.Tables.{InitiatorTable}
use Rattle.pb_cycles.specs.declared.initiators.OpenRequest.{OpenRequest}
use Rattle.pb_cycles.specs.declared.outcomes.Outcome.{Outcome}
use Rattle.pb_cycles.specs.Outcomes.{status_reply}
use Rattle.pb_ring.specs.Gap.{next_asked, last_asked, round_after}
use Rattle.pb_ring.specs.Las.{place_of, skips_of}
use Rattle.law_turn.specs.Arrivals.{Arrival, Token, Framed, Acknowledgement, NoTelegram, arrival_of}
use Rattle.law_turn.specs.Hearing.{not_answered, passive_hears, data_told, awaiting_data_hears, phase_timed_out, timed_out, after_timer, tries_limit, listening_hears, taking, is_taken_from, skips_limit, token_in_idle, idle_hears, holder_hears, status_told, awaiting_status_hears, with_token, lost, phase_ended, heard, after_mark}
use Rattle.law_turn.specs.Marks.{Mark, Begin, End, moment_of}
use Rattle.law_turn.specs.Phases.{Phase, Offline, PassiveIdle, Listening, Idle, Claim, Use, AwaitData, AwaitStatus, Pass, Checking, is_offline}
use Rattle.law_turn.specs.Stations.{Station, Reply, timer_of, speaks_at, next_station, previous_station}
use Rattle.law_turn.specs.Turns.{high_request, low_request, high_taken, low_taken, after_marks, settled, looks_at_gap, says_no_request, says_request, says_low, says_high, says_again, says_look, says_token, says_reply, says_ready, replying, joining, phase_says, speech, turn_of, saying, received_own, token_octets}
use Rattle.law_turn.proofs.Paths.{at_end}
use Rattle.law_turn.proofs.Cases.{by_test}

abbrev pub IsFrom : ℕ → Option OpenRequest → Type 0
IsFrom a o = IfSome o (λ r. r.sent.sa ≡ a)

-- a station with an address, whose open request is from there
abbrev pub Names : ℕ → Station → Type 0
Names n s = (s.address ≡ n) × IsFrom n s.cycles.initiator.pending

-- ---- an initiator's table

-- what closes a request opens none
names-closed : (a : ℕ) (t : InitiatorTable) (m : Option Message) → IsFrom a t.pending → IsFrom a (after_outcome t m).pending
names-closed a t None is = by_pending t.pending
  where
    by_pending : (o : Option OpenRequest) → IsFrom a (after_silence t o).pending
    by_pending None = is
    by_pending (Some o) = tt
names-closed a t (Some m) is = by_outcome (message_outcome t.pending m)
  where
    by_outcome : (o : Option Outcome) → IsFrom a (closed_by t o).pending
    by_outcome None = is
    by_outcome (Some outcome) = tt

-- a retry is from the same station
names-retried : (a : ℕ) (o : Option OpenRequest) → IsFrom a o → IsFrom a (retried o)
names-retried a None is = tt
names-retried a (Some o) is = is

-- ---- timers and marks

unanswered : (n : ℕ) (s : Station) (asked slot : Bool) (ready : ℕ) → Names n s → Names n (not_answered s asked slot ready)
unanswered n s asked slot ready has =
    by_test (Names n) (is_some (retry_of s.cycles.initiator.pending)) _ _ (λ _. has) (λ _. (has.0, names-closed n s.cycles.initiator None has.1))

timed : (n : ℕ) (s : Station) (ph : Phase) (t : ℕ) → Names n s → Names n (phase_timed_out (record s { phase = ph }) ph t)
timed n s Offline t has = has
timed n s PassiveIdle t has = has
timed n s (Listening doubled) t has = has
timed n s (Idle refused) t has = has
timed n s (Claim sent ready) t has = has
timed n s (Use asked ready) t has = has
timed n s (AwaitData asked retry slot) t has = unanswered n (record s { phase = AwaitData asked retry slot }) asked false t has
timed n s (AwaitStatus of slot) t has = has
timed n s (Pass tries ready) t has = has
timed n s (Checking tries) t has = by_test (Names n) (nat_le tries_limit tries) _ _ (λ _. has) (λ _. has)

timer : (n : ℕ) (p : Params) (limit : ℕ) (s : Station) → Names n s → Names n (after_timer p limit s)
timer n p limit s has = by_timer (timer_of p s)
  where
    by_timer : (o : Option ℕ) → Names n (timed_out s o limit)
    by_timer None = has
    by_timer (Some t) = by_test (Names n) (nat_lt t limit) (phase_timed_out s s.phase t) s (λ _. timed n s s.phase t has) (λ _. has)

in_idle : (n : ℕ) (p : Params) (s : Station) (refused : Option ℕ) (at da sa : ℕ) → Names n s → Names n (token_in_idle p s refused at da sa)
in_idle n p s refused at da sa has =
    let x = with_token s da sa in
    by_test (Names n) (da == s.address) _ _
    (λ _. by_test (Names n) (is_taken_from refused (previous_station s) sa) (taking p x at) _ (λ _. has) (λ _. has))
    (λ _. by_test (Names n) (nat_le skips_limit (skips_of (place_of x.las.stage))) _ x (λ _. has) (λ _. has))

idle : (n : ℕ) (p : Params) (s : Station) (refused : Option ℕ) (at : ℕ) (a : Arrival) → Names n s → Names n (idle_hears p s refused at a)
idle n p s refused at (Token da sa) has = in_idle n p s refused at da sa has
idle n p s refused at (Framed f) has = has
idle n p s refused at Acknowledgement has = has
idle n p s refused at NoTelegram has = has

listening : (n : ℕ) (p : Params) (s : Station) (doubled : Bool) (at : ℕ) (a : Arrival) → Names n s → Names n (listening_hears p s doubled at a)
listening n p s doubled at (Token da sa) has = has
listening n p s doubled at (Framed f) has = has
listening n p s doubled at Acknowledgement has = has
listening n p s doubled at NoTelegram has = has

holder : (n : ℕ) (s : Station) (a : Arrival) → Names n s → Names n (holder_hears s a)
holder n s (Token da sa) has = has
holder n s (Framed f) has = has
holder n s Acknowledgement has = has
holder n s NoTelegram has = has

told : (n : ℕ) (p : Params) (s : Station) (of at : ℕ) (fc : Option ℕ) → Names n s → Names n (status_told p s of at fc)
told n p s of at None has = has
told n p s of at (Some fc) has = has

awaiting : (n : ℕ) (p : Params) (s : Station) (of at : ℕ) (a : Arrival) → Names n s → Names n (awaiting_status_hears p s of at a)
awaiting n p s of at (Token da sa) has = has
awaiting n p s of at (Framed f) has =
    by_test (Names n) (has_bit f.fc 6) (lost s) _ (λ _. has) (λ _. told n p s of at (status_reply s.address of (message.Framed f)) has)
awaiting n p s of at Acknowledgement has = has
awaiting n p s of at NoTelegram has = has

data_heard : (n : ℕ) (p : Params) (s : Station) (asked slot : Bool) (at : ℕ) (m : Message) (outcome : Option Outcome) → Names n s → Names n (data_told p s asked slot at m outcome)
data_heard n p s asked slot at m (Some outcome) has = (has.0, names-closed n s.cycles.initiator (Some m) has.1)
data_heard n p s asked slot at m None has = unanswered n s asked slot (max at s.own.end + p.tid1) has

awaiting_data : (n : ℕ) (p : Params) (s : Station) (asked slot : Bool) (at : ℕ) (a : Arrival) → Names n s → Names n (awaiting_data_hears p s asked slot at a)
awaiting_data n p s asked slot at (Token da sa) has = has
awaiting_data n p s asked slot at (Framed f) has =
    by_test (Names n) (has_bit f.fc 6) (lost s) _ (λ _. has)
    (λ _. data_heard n p s asked slot at (message.Framed f) (outcome_of s.cycles.initiator (Some (message.Framed f))) has)
awaiting_data n p s asked slot at Acknowledgement has =
    data_heard n p s asked slot at message.Acknowledgement (outcome_of s.cycles.initiator (Some message.Acknowledgement)) has
awaiting_data n p s asked slot at NoTelegram has = unanswered n s asked slot (max at s.own.end + p.tid1) has

passive : (n : ℕ) (p : Params) (s : Station) (at : ℕ) (a : Arrival) → Names n s → Names n (passive_hears p s at a)
passive n p s at (Token da sa) has = has
passive n p s at (Framed f) has = has
passive n p s at Acknowledgement has = has
passive n p s at NoTelegram has = has

ended : (n : ℕ) (p : Params) (s : Station) (ph : Phase) (at : ℕ) (a : Arrival) → Names n s → Names n (phase_ended p s ph at a)
ended n p s Offline at a has = has
ended n p s PassiveIdle at a has = passive n p s at a has
ended n p s (Listening doubled) at a has = listening n p s doubled at a has
ended n p s (Idle refused) at a has = idle n p s refused at a has
ended n p s (Claim sent ready) at a has = holder n s a has
ended n p s (Use asked ready) at a has = holder n s a has
ended n p s (AwaitData asked retry slot) at a has = awaiting_data n p s asked slot at a has
ended n p s (AwaitStatus of slot) at a has = awaiting n p s of at a has
ended n p s (Pass tries ready) at a has = holder n s a has
ended n p s (Checking tries) at a has = holder n s a has

hearing : (n : ℕ) (p : Params) (s : Station) (m : Mark) → Names n s → Names n (heard p s m)
hearing n p s (Begin at seen) has = has
hearing n p s (End at seen chars) has = ended n p (at_end s at) s.phase at (arrival_of chars) has

mark : (n : ℕ) (p : Params) (s : Station) (m : Mark) → Names n s → Names n (after_mark p s m)
mark n p s m has = by_test (Names n) (is_offline s.phase) s (heard p s m) (λ _. has) (λ _. hearing n p s m has)

marks : (n : ℕ) (p : Params) (s : Station) (ms : List Mark) → Names n s → Names n (after_marks p s ms)
marks n p s [] has = has
marks n p s (m ∷ ms) has = let x = after_timer p (moment_of m) s in marks n p (after_mark p x m) ms (mark n p x m (timer n p (moment_of m) s has))

-- so it is when the station speaks
pub names-settled : (n : ℕ) (p : Params) (s : Station) (ms : List Mark) (now : ℕ) → Names n s → Names n (settled p s ms now)
names-settled n p s ms now has = timer n p (now + 1) (after_marks p s ms) (marks n p s ms has)

-- ---- speech

abbrev After : ℕ → Station × Option (List ℕ) → Type 0
After n turn = Names n turn.0

token : (n : ℕ) (p : Params) (s : Station) (tries now : ℕ) → Names n s → After n (says_token p s tries now)
token n p s tries now has = let x = saying s now (token_octets (next_station s) s.address) in by_test (Names n) (next_station s == s.address) (received_own p x) _ (λ _. has) (λ _. has)

look : (n : ℕ) (p : Params) (s : Station) (next : Option ℕ) (now : ℕ) → Names n s → After n (says_look p s next now)
look n p s None now has = token n p (record s { gap = round_after None now }) 0 now has
look n p s (Some a) now has = has

no_request : (n : ℕ) (p : Params) (s : Station) (asked : Bool) (now : ℕ) → Names n s → After n (says_no_request p s asked now)
no_request n p s asked now has =
    by_test (After n) (looks_at_gap p s asked now) _ _ (λ _. look n p s (next_asked s.address (next_station s) p.hsa (last_asked s.gap)) now has) (λ _. token n p s 0 now has)

-- a new request has the station's address
names-request : (t : InitiatorTable) (ts : ℕ) (r : RequestFields) → IsFrom ts (after_request t ts r).pending
names-request t ts r = by_test (λ (x : InitiatorTable). IsFrom ts x.pending) (is_answered r.service) _ _ (λ _. refl) (λ _. tt)

request : (n : ℕ) (p : Params) (s : Station) (asked : Bool) (r : RequestFields) (now : ℕ) → Names n s → After n (says_request p s asked r now)
request n p s asked r now has =
    let is : (s.address ≡ n) × IsFrom n (after_request s.cycles.initiator s.address r).pending = (has.0, subst (λ m. IsFrom m (after_request s.cycles.initiator s.address r).pending) has.0 (names-request s.cycles.initiator s.address r)) in
    by_test (Names n) (is_answered r.service) _ _ (λ _. is) (λ _. is)

low : (n : ℕ) (p : Params) (s : Station) (asked : Bool) (r : Option RequestFields) (now : ℕ) → Names n s → After n (says_low p s asked r now)
low n p s asked None now has = no_request n p s asked now has
low n p s asked (Some r) now has = request n p (low_taken s) asked r now has

high : (n : ℕ) (p : Params) (s : Station) (asked : Bool) (r : Option RequestFields) (now : ℕ) → Names n s → After n (says_high p s asked r now)
high n p s asked None now has = low n p s asked (low_request s now) now has
high n p s asked (Some r) now has = request n p (high_taken s) asked r now has

again : (n : ℕ) (s : Station) (asked : Bool) (o : Option OpenRequest) (now : ℕ) → Names n s → After n (says_again s asked (retry_of o) now)
again n s asked None now has = has
again n s asked (Some o) now has =
    by_test (λ (f : Option Fields). After n (says_again s asked f now)) (o.left == 0) None (Some o.sent) (λ _. has)
    (λ _. (has.0, names-retried n s.cycles.initiator.pending has.1))

reply : (n : ℕ) (s : Station) (o : Option Reply) (now : ℕ) → Names n s → After n (says_reply s o now)
reply n s None now has = has
reply n s (Some r) now has = has

ready : (n : ℕ) (s : Station) (o : Option Reply) (now : ℕ) → Names n s → After n (says_ready s o now)
ready n s None now has = has
ready n s (Some r) now has = let x = replying s now r in by_test (Names n) r.joins (joining x) x (λ _. has) (λ _. has)

says : (n : ℕ) (p : Params) (s : Station) (ph : Phase) (now : ℕ) → Names n s → After n (phase_says p s ph now)
says n p s Offline now has = has
says n p s PassiveIdle now has = reply n s s.reply now has
says n p s (Listening doubled) now has = ready n s s.reply now has
says n p s (Idle refused) now has = reply n s s.reply now has
says n p s (Claim sent moment) now has = let x = saying s now (token_octets s.address s.address) in by_test (Names n) (sent == 0) _ (received_own p x) (λ _. has) (λ _. has)
says n p s (Use asked moment) now has = high n p s asked (high_request s now) now has
says n p s (AwaitData asked retry slot) now has = again n s asked s.cycles.initiator.pending now has
says n p s (AwaitStatus of slot) now has = has
says n p s (Pass tries moment) now has = token n p s tries now has
says n p s (Checking tries) now has = has

speaks : (n : ℕ) (p : Params) (s : Station) (o : Option ℕ) (now : ℕ) → Names n s → After n (speech p s o now)
speaks n p s None now has = has
speaks n p s (Some moment) now has = by_test (After n) (nat_le moment now) (phase_says p s s.phase now) (s, None) (λ _. says n p s s.phase now has) (λ _. has)

-- and after it has spoken
pub names-turn : (n : ℕ) (p : Params) (s : Station) (ms : List Mark) (now : ℕ) → Names n s → Names n (turn_of p s ms now).0
names-turn n p s ms now has = let x = settled p s ms now in speaks n p x (speaks_at x) now (names-settled n p s ms now has)
