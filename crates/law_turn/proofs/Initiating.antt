-- Only a holder says what only the station with the token may say.
use Rattle.std.proofs.Common.{◌≡◌, ◌∙◌, ℕ, ◌+◌, ◌==◌, List, [], ◌∷◌, Bool, true, false, refl, sym, Option, Some, None, length, ◌<◌, ◌≤◌, arith}
use Rattle.std.specs.Prelude.{IfSome, is_some, nat_le, nat_lt, max}
use Rattle.pb_timers.specs.Timers.{Params}
use Rattle.pb_ring.specs.Gap.{next_asked, last_asked, round_after}
use Rattle.pb_ring.specs.Las as las
use Rattle.pb_ring.specs.Las.{place_of, skips_of}
use Rattle.pb_cycles.specs.Fields.{Fields}
use Rattle.pb_cycles.specs.Messages.{has_bit}
use Rattle.pb_cycles.specs.RequestFields.{RequestFields}
use Rattle.pb_cycles.specs.Requests.{is_answered}
use Rattle.pb_cycles.specs.declared.messages.Message.{Message}
use Rattle.pb_cycles.specs.declared.messages.Message.TheVariants as message
use Rattle.pb_cycles.specs.Initiating.{first_sending, after_request, retry_of, outcome_of}
use Rattle.pb_cycles.specs.declared.initiators.OpenRequest.{OpenRequest}
use Rattle.pb_cycles.specs.declared.outcomes.Outcome.{Outcome}
use Rattle.pb_cycles.specs.Outcomes.{status_reply}
use Rattle.law_turn.specs.Arrivals.{Arrival, Token, Framed, Acknowledgement, NoTelegram, arrival_of}
use Rattle.law_turn.specs.Hearing.{not_answered, passive_hears, data_told, awaiting_data_hears, phase_timed_out, timed_out, after_timer, tries_limit, asks_status, status_answer, listening_answer, listening_hears, taking, is_taken_from, skips_limit, token_in_idle, idle_hears, holder_hears, status_told, awaiting_status_hears, with_token, lost, phase_ended, heard, after_mark, not_ready, ready_for_ring}
use Rattle.law_turn.specs.Laws.{IsRequest, IsOpenRequest, AreCycles, are_initiator, IsReply}
use Rattle.law_turn.specs.Marks.{Mark, Begin, End, moment_of}
use Rattle.law_turn.specs.Phases.{Phase, Offline, PassiveIdle, Listening, Idle, Claim, Use, AwaitData, AwaitStatus, Pass, Checking, may_initiate, answers_requests, is_offline}
use Rattle.law_turn.specs.Stations.{Station, Reply, timer_of, speaks_at, next_station, previous_station}
use Rattle.law_turn.specs.Turns.{after_marks, settled, looks_at_gap, says_no_request, high_request, low_request, high_taken, low_taken, says_request, says_low, says_high, says_again, says_look, says_token, says_reply, says_ready, replying, joining, phase_says, speech, turn_of, saying, received_own, token_octets}
use Rattle.law_turn.proofs.Cases.{by_test}
use Rattle.law_turn.proofs.Keeping.{or-one-of, Sayable, sayable-passive, sayable-in_ring, cycles-closed, open-retried, open-request, high-request, low-request, cycles-high_taken, cycles-low_taken}
use Rattle.law_turn.proofs.Octets.{frame-some, frame-fits}
use Rattle.law_turn.proofs.Paths.{at_end}

abbrev AreReply : Option Reply → Type 0
AreReply o = IfSome o (λ r. IsReply r.octets)

-- ---- replies

reply-status_answer : (p : Params) (s : Station) (at : ℕ) (f : Fields) (joins : Bool)
    → AreReply (status_answer p s at f not_ready joins) × AreReply (status_answer p s at f ready_for_ring joins)
reply-status_answer p s at f joins = (
  by_test AreReply (asks_status s.address f) _ None (λ _. record { no_initiator = refl; some = omega arith; fits = omega arith }) (λ _. tt),
  by_test AreReply (asks_status s.address f) _ None (λ _. record { no_initiator = refl; some = omega arith; fits = omega arith }) (λ _. tt),
)

reply-listening_answer : (p : Params) (s : Station) (at : ℕ) (f : Fields) → AreReply (listening_answer p s at f)
reply-listening_answer p s at f =
    by_test AreReply (las.is_complete s.las.stage) _ _ (λ _. (reply-status_answer p s at f true).1) (λ _. (reply-status_answer p s at f false).0)

-- ---- timers and marks

reply-not_answered : (s : Station) (asked slot : Bool) (ready : ℕ) → Sayable s → Sayable (not_answered s asked slot ready)
reply-not_answered s asked slot ready has =
    by_test Sayable (is_some (retry_of s.cycles.initiator.pending)) _ _ (λ _. has) (λ _. (has.0, cycles-closed s.cycles None has.1))

reply-timed_out : (s : Station) (ph : Phase) (t : ℕ) → Sayable s → Sayable (phase_timed_out (record s { phase = ph }) ph t)
reply-timed_out s Offline t has = has
reply-timed_out s PassiveIdle t has = has
reply-timed_out s (Listening doubled) t has = (tt, has.1)
reply-timed_out s (Idle refused) t has = (tt, has.1)
reply-timed_out s (Claim sent ready) t has = has
reply-timed_out s (Use asked ready) t has = has
reply-timed_out s (AwaitData asked retry slot) t has = reply-not_answered (record s { phase = AwaitData asked retry slot }) asked false t has
reply-timed_out s (AwaitStatus of slot) t has = has
reply-timed_out s (Pass tries ready) t has = has
reply-timed_out s (Checking tries) t has =
    by_test Sayable (nat_le tries_limit tries) _ _ (λ _. has) (λ _. has)

pub reply-after_timer : (p : Params) (limit : ℕ) (s : Station) → Sayable s → Sayable (after_timer p limit s)
reply-after_timer p limit s has = by_timer (timer_of p s)
  where
    by_timer : (o : Option ℕ) → Sayable (timed_out s o limit)
    by_timer None = has
    by_timer (Some t) = by_test Sayable (nat_lt t limit) (phase_timed_out s s.phase t) s (λ _. reply-timed_out s s.phase t has) (λ _. has)

reply-token_in_idle : (p : Params) (s : Station) (refused : Option ℕ) (at da sa : ℕ) → Sayable s → Sayable (token_in_idle p s refused at da sa)
reply-token_in_idle p s refused at da sa has =
    let x = with_token s da sa in
    by_test Sayable (da == s.address) _ _
    (λ _. by_test Sayable (is_taken_from refused (previous_station s) sa) (taking p x at) _ (λ _. has) (λ _. has))
    (λ _. by_test Sayable (nat_le skips_limit (skips_of (place_of x.las.stage))) _ x (λ _. (tt, has.1)) (λ _. has))

reply-idle_hears : (p : Params) (s : Station) (refused : Option ℕ) (at : ℕ) (a : Arrival) → Sayable s → Sayable (idle_hears p s refused at a)
reply-idle_hears p s refused at (Token da sa) has = reply-token_in_idle p s refused at da sa has
reply-idle_hears p s refused at (Framed f) has = sayable-in_ring p s at f has
reply-idle_hears p s refused at Acknowledgement has = has
reply-idle_hears p s refused at NoTelegram has = has

reply-listening_hears : (p : Params) (s : Station) (doubled : Bool) (at : ℕ) (a : Arrival) → Sayable s → Sayable (listening_hears p s doubled at a)
reply-listening_hears p s doubled at (Token da sa) has = has
reply-listening_hears p s doubled at (Framed f) has =
    (or-one-of (λ (r : Reply). IsReply r.octets) (listening_answer p s at f) s.reply (reply-listening_answer p s at f) has.0, has.1)
reply-listening_hears p s doubled at Acknowledgement has = has
reply-listening_hears p s doubled at NoTelegram has = has

reply-holder_hears : (s : Station) (a : Arrival) → Sayable s → Sayable (holder_hears s a)
reply-holder_hears s (Token da sa) has = has
reply-holder_hears s (Framed f) has = has
reply-holder_hears s Acknowledgement has = has
reply-holder_hears s NoTelegram has = has

reply-status_told : (p : Params) (s : Station) (of at : ℕ) (fc : Option ℕ) → Sayable s → Sayable (status_told p s of at fc)
reply-status_told p s of at None has = has
reply-status_told p s of at (Some fc) has = has

reply-awaiting : (p : Params) (s : Station) (of at : ℕ) (a : Arrival) → Sayable s → Sayable (awaiting_status_hears p s of at a)
reply-awaiting p s of at (Token da sa) has = has
reply-awaiting p s of at (Framed f) has =
    by_test Sayable (has_bit f.fc 6) (lost s) _ (λ _. has) (λ _. reply-status_told p s of at (status_reply s.address of (message.Framed f)) has)
reply-awaiting p s of at Acknowledgement has = has
reply-awaiting p s of at NoTelegram has = has

reply-data_told : (p : Params) (s : Station) (asked slot : Bool) (at : ℕ) (m : Message) (outcome : Option Outcome) → Sayable s → Sayable (data_told p s asked slot at m outcome)
reply-data_told p s asked slot at m (Some outcome) has = (has.0, cycles-closed s.cycles (Some m) has.1)
reply-data_told p s asked slot at m None has = reply-not_answered s asked slot (max at s.own.end + p.tid1) has

reply-awaiting_data : (p : Params) (s : Station) (asked slot : Bool) (at : ℕ) (a : Arrival) → Sayable s → Sayable (awaiting_data_hears p s asked slot at a)
reply-awaiting_data p s asked slot at (Token da sa) has = has
reply-awaiting_data p s asked slot at (Framed f) has =
    by_test Sayable (has_bit f.fc 6) (lost s) _ (λ _. has)
    (λ _. reply-data_told p s asked slot at (message.Framed f) (outcome_of s.cycles.initiator (Some (message.Framed f))) has)
reply-awaiting_data p s asked slot at Acknowledgement has =
    reply-data_told p s asked slot at message.Acknowledgement (outcome_of s.cycles.initiator (Some message.Acknowledgement)) has
reply-awaiting_data p s asked slot at NoTelegram has = reply-not_answered s asked slot (max at s.own.end + p.tid1) has

reply-passive : (p : Params) (s : Station) (at : ℕ) (a : Arrival) → Sayable s → Sayable (passive_hears p s at a)
reply-passive p s at (Token da sa) has = has
reply-passive p s at (Framed f) has = sayable-passive p s at f has
reply-passive p s at Acknowledgement has = has
reply-passive p s at NoTelegram has = has

reply-ended : (p : Params) (s : Station) (ph : Phase) (at : ℕ) (a : Arrival) → Sayable s → Sayable (phase_ended p s ph at a)
reply-ended p s Offline at a has = has
reply-ended p s PassiveIdle at a has = reply-passive p s at a has
reply-ended p s (Listening doubled) at a has = reply-listening_hears p s doubled at a has
reply-ended p s (Idle refused) at a has = reply-idle_hears p s refused at a has
reply-ended p s (Claim sent ready) at a has = reply-holder_hears s a has
reply-ended p s (Use asked ready) at a has = reply-holder_hears s a has
reply-ended p s (AwaitData asked retry slot) at a has = reply-awaiting_data p s asked slot at a has
reply-ended p s (AwaitStatus of slot) at a has = reply-awaiting p s of at a has
reply-ended p s (Pass tries ready) at a has = reply-holder_hears s a has
reply-ended p s (Checking tries) at a has = reply-holder_hears s a has

reply-heard : (p : Params) (s : Station) (m : Mark) → Sayable s → Sayable (heard p s m)
reply-heard p s (Begin at seen) has =
    (by_test (λ (o : Option Reply). IfSome o (λ r. IsReply r.octets)) (answers_requests s.phase) None s.reply (λ _. tt) (λ _. has.0), has.1)
reply-heard p s (End at seen chars) has = reply-ended p (at_end s at) s.phase at (arrival_of chars) has

pub reply-after_mark : (p : Params) (s : Station) (m : Mark) → Sayable s → Sayable (after_mark p s m)
reply-after_mark p s m has = by_test Sayable (is_offline s.phase) s (heard p s m) (λ _. has) (λ _. reply-heard p s m has)

pub reply-after_marks : (p : Params) (s : Station) (marks : List Mark) → Sayable s → Sayable (after_marks p s marks)
reply-after_marks p s [] has = has
reply-after_marks p s (m ∷ marks) has =
    let x = after_timer p (moment_of m) s in
    reply-after_marks p (after_mark p x m) marks (reply-after_mark p x m (reply-after_timer p (moment_of m) s has))

pub reply-settled : (p : Params) (s : Station) (marks : List Mark) (now : ℕ) → Sayable s → Sayable (settled p s marks now)
reply-settled p s marks now has = reply-after_timer p (now + 1) (after_marks p s marks) (reply-after_marks p s marks has)

-- ---- speech

-- what is said only a holder says, where it is a token or a request, and no reply but a right one is left
record SaysRightly (s : Station) (turn : Station × Option (List ℕ)) : Type 0 where
  fits : IfSome turn.1 (λ octets. (0 < length octets) × (length octets ≤ 255))
  holder : IfSome turn.1 (λ octets. are_initiator octets ≡ true → may_initiate s.phase ≡ true)
  reply : Sayable turn.0

rightly-replying : (s : Station) (r : Reply) → IsReply r.octets → are_initiator r.octets ≡ true → may_initiate s.phase ≡ true
rightly-replying s r reply is = absurd (let wrong : false ≡ true = sym reply.no_initiator ∙ is in cc)

rightly-says_token : (p : Params) (s : Station) (tries now : ℕ) → may_initiate s.phase ≡ true → Sayable s → SaysRightly s (says_token p s tries now)
rightly-says_token p s tries now holds has =
    let x = saying s now (token_octets (next_station s) s.address) in
    record { fits = (omega arith, omega arith); holder = λ _. holds; reply = by_test Sayable (next_station s == s.address) (received_own p x) _ (λ _. has) (λ _. has) }

rightly-says_look : (p : Params) (s : Station) (next : Option ℕ) (now : ℕ) → may_initiate s.phase ≡ true → Sayable s → SaysRightly s (says_look p s next now)
rightly-says_look p s None now holds has =
    let x = rightly-says_token p (record s { gap = round_after None now }) 0 now holds has in record { fits = x.fits; holder = x.holder; reply = x.reply }
rightly-says_look p s (Some a) now holds has = record { fits = (omega arith, omega arith); holder = λ _. holds; reply = has }

rightly-no_request : (p : Params) (s : Station) (asked : Bool) (now : ℕ) → may_initiate s.phase ≡ true → Sayable s → SaysRightly s (says_no_request p s asked now)
rightly-no_request p s asked now holds has =
    by_test (SaysRightly s) (looks_at_gap p s asked now) _ _
    (λ _. rightly-says_look p s (next_asked s.address (next_station s) p.hsa (last_asked s.gap)) now holds has) (λ _. rightly-says_token p s 0 now holds has)

rightly-request : (p : Params) (s : Station) (asked : Bool) (r : RequestFields) (now : ℕ) → may_initiate s.phase ≡ true → IsRequest r → Sayable s
    → SaysRightly s (says_request p s asked r now)
rightly-request p s asked r now holds is has =
    let f = first_sending s.cycles.initiator s.address r in
    let cycles : AreCycles (record s.cycles { initiator = after_request s.cycles.initiator s.address r }) =
    record { high = has.1.high; low = has.1.low; pending = open-request s.cycles.initiator s.address r is; unit = has.1.unit; kept = has.1.kept } in
    record { fits = (frame-some f, frame-fits f is.fits); holder = λ _. holds; reply = by_test Sayable (is_answered r.service) _ _ (λ _. (has.0, cycles)) (λ _. (has.0, cycles)) }

rightly-low : (p : Params) (s : Station) (asked : Bool) (r : Option RequestFields) (now : ℕ) → may_initiate s.phase ≡ true → IfSome r IsRequest → Sayable s
    → SaysRightly s (says_low p s asked r now)
rightly-low p s asked None now holds is has = rightly-no_request p s asked now holds has
rightly-low p s asked (Some r) now holds is has =
    let x = rightly-request p (low_taken s) asked r now holds is (has.0, cycles-low_taken s has.1) in record { fits = x.fits; holder = x.holder; reply = x.reply }

rightly-high : (p : Params) (s : Station) (asked : Bool) (r : Option RequestFields) (now : ℕ) → may_initiate s.phase ≡ true → IfSome r IsRequest → Sayable s
    → SaysRightly s (says_high p s asked r now)
rightly-high p s asked None now holds is has = rightly-low p s asked (low_request s now) now holds (low-request s now has.1) has
rightly-high p s asked (Some r) now holds is has =
    let x = rightly-request p (high_taken s) asked r now holds is (has.0, cycles-high_taken s has.1) in record { fits = x.fits; holder = x.holder; reply = x.reply }

-- the octets of a retry fit as those of the request did
rightly-again : (s : Station) (asked : Bool) (o : Option OpenRequest) (now : ℕ) → may_initiate s.phase ≡ true → IfSome o IsOpenRequest → Sayable s
    → SaysRightly s (says_again s asked (retry_of o) now)
rightly-again s asked None now holds is has = record { fits = tt; holder = tt; reply = has }
rightly-again s asked (Some o) now holds is has =
    by_test (λ (f : Option Fields). SaysRightly s (says_again s asked f now)) (o.left == 0) None (Some o.sent)
    (λ _. record { fits = tt; holder = tt; reply = has })
    (λ _. record {
      fits = (frame-some o.sent, frame-fits o.sent is.fits);
      holder = λ _. holds;
      reply = (has.0, record { high = has.1.high; low = has.1.low; pending = open-retried s.cycles.initiator.pending has.1.pending; unit = has.1.unit; kept = has.1.kept });
    })

rightly-phase_says : (p : Params) (s : Station) (ph : Phase) (now : ℕ) → Sayable s → SaysRightly (record s { phase = ph }) (phase_says p (record s { phase = ph }) ph now)
rightly-phase_says p s Offline now has = record { fits = tt; holder = tt; reply = has }
rightly-phase_says p s PassiveIdle now has = by_reply s.reply has.0
  where
    by_reply : (o : Option Reply) → AreReply o → SaysRightly (record s { phase = PassiveIdle }) (says_reply (record s { phase = PassiveIdle }) o now)
    by_reply None is = record { fits = tt; holder = tt; reply = has }
    by_reply (Some r) is = record { fits = (is.some, is.fits); holder = rightly-replying (record s { phase = PassiveIdle }) r is; reply = (tt, has.1) }
rightly-phase_says p s (Listening doubled) now has = by_reply s.reply has.0
  where
    by_reply : (o : Option Reply) → AreReply o → SaysRightly (record s { phase = Listening doubled }) (says_ready (record s { phase = Listening doubled }) o now)
    by_reply None is = record { fits = tt; holder = tt; reply = has }
    by_reply (Some r) is =
        let x = replying (record s { phase = Listening doubled }) now r in
        record { fits = (is.some, is.fits); holder = rightly-replying (record s { phase = Listening doubled }) r is; reply = by_test Sayable r.joins (joining x) x (λ _. (tt, has.1)) (λ _. (tt, has.1)) }
rightly-phase_says p s (Idle refused) now has = by_reply s.reply has.0
  where
    by_reply : (o : Option Reply) → AreReply o → SaysRightly (record s { phase = Idle refused }) (says_reply (record s { phase = Idle refused }) o now)
    by_reply None is = record { fits = tt; holder = tt; reply = has }
    by_reply (Some r) is = record { fits = (is.some, is.fits); holder = rightly-replying (record s { phase = Idle refused }) r is; reply = (tt, has.1) }
rightly-phase_says p s (Claim sent ready) now has =
    let x = saying s now (token_octets s.address s.address) in
    record { fits = (omega arith, omega arith); holder = λ _. refl; reply = by_test Sayable (sent == 0) _ (received_own p x) (λ _. has) (λ _. has) }
rightly-phase_says p s (Use asked ready) now has =
    let x = record s { phase = Use asked ready } in rightly-high p x asked (high_request x now) now refl (high-request x now has.1) has
rightly-phase_says p s (AwaitData asked retry slot) now has =
    rightly-again (record s { phase = AwaitData asked retry slot }) asked s.cycles.initiator.pending now refl has.1.pending has
rightly-phase_says p s (AwaitStatus of slot) now has = record { fits = tt; holder = tt; reply = has }
rightly-phase_says p s (Pass tries ready) now has = rightly-says_token p (record s { phase = Pass tries ready }) tries now refl has
rightly-phase_says p s (Checking tries) now has = record { fits = tt; holder = tt; reply = has }

rightly-speech : (p : Params) (s : Station) (o : Option ℕ) (now : ℕ) → Sayable s → SaysRightly s (speech p s o now)
rightly-speech p s None now has = record { fits = tt; holder = tt; reply = has }
rightly-speech p s (Some moment) now has =
    by_test (SaysRightly s) (nat_le moment now) (phase_says p s s.phase now) (s, None) (λ _. rightly-phase_says p s s.phase now has) (λ _. record { fits = tt; holder = tt; reply = has })

pub holder-turn_of : (p : Params) (s : Station) (marks : List Mark) (now : ℕ) → Sayable s
    → IfSome (turn_of p s marks now).1 (λ octets. are_initiator octets ≡ true → may_initiate (settled p s marks now).phase ≡ true)
holder-turn_of p s marks now has =
    let x = settled p s marks now in (rightly-speech p x (speaks_at x) now (reply-settled p s marks now has)).holder

-- what is said has octets, and no more than a telegram may have
pub fits-turn_of : (p : Params) (s : Station) (marks : List Mark) (now : ℕ) → Sayable s
    → IfSome (turn_of p s marks now).1 (λ octets. (0 < length octets) × (length octets ≤ 255))
fits-turn_of p s marks now has =
    let x = settled p s marks now in
    (rightly-speech p x (speaks_at x) now (reply-settled p s marks now has)).fits

-- and what the station keeps can still be said
pub reply-turn_of : (p : Params) (s : Station) (marks : List Mark) (now : ℕ) → Sayable s → Sayable (turn_of p s marks now).0
reply-turn_of p s marks now has =
    let x = settled p s marks now in (rightly-speech p x (speaks_at x) now (reply-settled p s marks now has)).reply
