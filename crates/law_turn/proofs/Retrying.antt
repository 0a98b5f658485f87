-- A station that waits for a reply has an open request, and a retry left where it waits to send it again.
use Rattle.std.proofs.Common.{◌≡◌, if◌then◌else◌, ap, refl, ℕ, ◌+◌, ◌==◌, List, [], ◌∷◌, Bool, true, false, Option, Some, None}
use Rattle.std.specs.Prelude.{is_some, nat_le, nat_lt, max}
use Rattle.pb_timers.specs.Timers.{Params}
use Rattle.pb_ring.specs.Gap.{next_asked, last_asked, round_after}
use Rattle.pb_ring.specs.Las.{place_of, skips_of}
use Rattle.pb_cycles.specs.Fields.{Fields}
use Rattle.pb_cycles.specs.Messages.{has_bit}
use Rattle.pb_cycles.specs.RequestFields.{RequestFields}
use Rattle.pb_cycles.specs.Requests.{is_answered}
use Rattle.pb_cycles.specs.declared.messages.Message.{Message}
use Rattle.pb_cycles.specs.declared.messages.Message.TheVariants as message
use Rattle.pb_cycles.specs.Initiating.{retry_of, retried, first_sending, with_request, without_request, outcome_of}
use Rattle.pb_cycles.specs.Outcomes.{status_reply}
use Rattle.pb_cycles.specs.declared.initiators.OpenRequest.{OpenRequest}
use Rattle.pb_cycles.specs.declared.outcomes.Outcome.{Outcome}
use Rattle.law_turn.specs.Arrivals.{Arrival, Token, Framed, Acknowledgement, NoTelegram, arrival_of}
use Rattle.law_turn.specs.Hearing.{not_answered, passive_hears, data_told, awaiting_data_hears, phase_timed_out, timed_out, after_timer, tries_limit, phase_begun, listening_hears, taking, is_taken_from, skips_limit, token_in_idle, idle_hears, holder_hears, status_told, awaiting_status_hears, with_token, lost, phase_ended, heard, after_mark}
use Rattle.law_turn.specs.Laws.{HasOpen, HasOpenRequest}
use Rattle.law_turn.specs.Marks.{Mark, Begin, End, moment_of}
use Rattle.law_turn.specs.Phases.{Phase, Offline, PassiveIdle, Listening, Idle, Claim, Use, AwaitData, AwaitStatus, Pass, Checking, is_offline}
use Rattle.law_turn.specs.Stations.{Station, Reply, timer_of, speaks_at, next_station, previous_station, started}
use Rattle.law_turn.specs.Turns.{after_marks, settled, looks_at_gap, says_look, says_token, high_request, low_request, high_taken, low_taken, says_request, says_low, says_high, says_again, says_reply, says_ready, replying, joining, phase_says, speech, turn_of, saying, received_own, token_octets}
use Rattle.law_turn.proofs.Cases.{by_test}
use Rattle.law_turn.proofs.Paths.{at_end, phase-doubled}

-- ---- timers and marks

some-retry : (o : Option OpenRequest) → is_some (retry_of o) ≡ true → is_some o ≡ true
some-retry None left = left
some-retry (Some o) left = refl

some-retried : (o : Option OpenRequest) → is_some o ≡ true → is_some (retried o) ≡ true
some-retried None some = some
some-retried (Some o) some = refl

left-not_answered : (s : Station) (asked slot : Bool) (ready : ℕ) → HasOpenRequest (not_answered s asked slot ready)
left-not_answered s asked slot ready = by_test HasOpenRequest (is_some (retry_of s.cycles.initiator.pending)) _ _ (λ left. (some-retry s.cycles.initiator.pending left, left)) (λ _. tt)

left-timed_out : (s : Station) (ph : Phase) (t : ℕ) → HasOpenRequest (phase_timed_out (record s { phase = ph }) ph t)
left-timed_out s Offline t = tt
left-timed_out s PassiveIdle t = tt
left-timed_out s (Listening doubled) t = tt
left-timed_out s (Idle refused) t = tt
left-timed_out s (Claim sent ready) t = tt
left-timed_out s (Use asked ready) t = tt
left-timed_out s (AwaitData asked retry slot) t = left-not_answered (record s { phase = AwaitData asked retry slot }) asked false t
left-timed_out s (AwaitStatus of slot) t = tt
left-timed_out s (Pass tries ready) t = tt
left-timed_out s (Checking tries) t = by_test HasOpenRequest (nat_le tries_limit tries) _ _ (λ _. tt) (λ _. tt)

left-after_timer : (p : Params) (limit : ℕ) (s : Station) → HasOpenRequest s → HasOpenRequest (after_timer p limit s)
left-after_timer p limit s has = by_timer (timer_of p s)
  where
    by_timer : (o : Option ℕ) → HasOpenRequest (timed_out s o limit)
    by_timer None = has
    by_timer (Some t) = by_test HasOpenRequest (nat_lt t limit) (phase_timed_out s s.phase t) s (λ _. left-timed_out s s.phase t) (λ _. has)

left-begun : (pending : Option OpenRequest) (ph : Phase) (own at : ℕ) → HasOpen pending ph → HasOpen pending (phase_begun ph own at)
left-begun pending Offline own at has = tt
left-begun pending PassiveIdle own at has = tt
left-begun pending (Listening doubled) own at has = tt
left-begun pending (Idle refused) own at has = tt
left-begun pending (Claim sent ready) own at has = tt
left-begun pending (Use asked ready) own at has = tt
left-begun pending (AwaitData asked retry slot) own at has = (has.0, tt)
left-begun pending (AwaitStatus of slot) own at has = tt
left-begun pending (Pass tries ready) own at has = tt
left-begun pending (Checking tries) own at has = by_test (HasOpen pending) (nat_lt at own) (Checking tries) (Idle None) (λ _. tt) (λ _. tt)

left-token_in_idle : (p : Params) (s : Station) (refused : Option ℕ) (at da sa : ℕ) → HasOpenRequest s → HasOpenRequest (token_in_idle p s refused at da sa)
left-token_in_idle p s refused at da sa has =
    let x = with_token s da sa in
    by_test HasOpenRequest (da == s.address) _ _
    (λ _. by_test HasOpenRequest (is_taken_from refused (previous_station s) sa) (taking p x at) _ (λ _. tt) (λ _. tt))
    (λ _. by_test HasOpenRequest (nat_le skips_limit (skips_of (place_of x.las.stage))) _ x (λ _. tt) (λ _. has))

left-idle_hears : (p : Params) (s : Station) (refused : Option ℕ) (at : ℕ) (a : Arrival) → HasOpenRequest s → HasOpenRequest (idle_hears p s refused at a)
left-idle_hears p s refused at (Token da sa) has = left-token_in_idle p s refused at da sa has
left-idle_hears p s refused at (Framed f) has = has
left-idle_hears p s refused at Acknowledgement has = has
left-idle_hears p s refused at NoTelegram has = has

left-listening_hears : (p : Params) (s : Station) (doubled : Bool) (at : ℕ) (a : Arrival) → HasOpenRequest s → HasOpenRequest (listening_hears p s doubled at a)
left-listening_hears p s doubled at (Token da sa) has = phase-doubled (HasOpen s.cycles.initiator.pending) doubled sa s.address tt (λ _. tt)
left-listening_hears p s doubled at (Framed f) has = has
left-listening_hears p s doubled at Acknowledgement has = has
left-listening_hears p s doubled at NoTelegram has = has

left-holder_hears : (s : Station) (a : Arrival) → HasOpenRequest s → HasOpenRequest (holder_hears s a)
left-holder_hears s (Token da sa) has = has
left-holder_hears s (Framed f) has = has
left-holder_hears s Acknowledgement has = has
left-holder_hears s NoTelegram has = has

left-status_told : (p : Params) (s : Station) (of at : ℕ) (fc : Option ℕ) → HasOpenRequest (status_told p s of at fc)
left-status_told p s of at None = tt
left-status_told p s of at (Some fc) = tt

left-awaiting : (p : Params) (s : Station) (of at : ℕ) (a : Arrival) → HasOpenRequest (awaiting_status_hears p s of at a)
left-awaiting p s of at (Token da sa) = tt
left-awaiting p s of at (Framed f) =
    by_test HasOpenRequest (has_bit f.fc 6) (lost s) _ (λ _. tt) (λ _. left-status_told p s of at (status_reply s.address of (message.Framed f)))
left-awaiting p s of at Acknowledgement = tt
left-awaiting p s of at NoTelegram = tt

left-data_told : (p : Params) (s : Station) (asked slot : Bool) (at : ℕ) (m : Message) (outcome : Option Outcome) → HasOpenRequest (data_told p s asked slot at m outcome)
left-data_told p s asked slot at m (Some outcome) = tt
left-data_told p s asked slot at m None = left-not_answered s asked slot (max at s.own.end + p.tid1)

left-awaiting_data : (p : Params) (s : Station) (asked slot : Bool) (at : ℕ) (a : Arrival) → HasOpenRequest (awaiting_data_hears p s asked slot at a)
left-awaiting_data p s asked slot at (Token da sa) = tt
left-awaiting_data p s asked slot at (Framed f) =
    by_test HasOpenRequest (has_bit f.fc 6) (lost s) _ (λ _. tt)
    (λ _. left-data_told p s asked slot at (message.Framed f) (outcome_of s.cycles.initiator (Some (message.Framed f))))
left-awaiting_data p s asked slot at Acknowledgement =
    left-data_told p s asked slot at message.Acknowledgement (outcome_of s.cycles.initiator (Some message.Acknowledgement))
left-awaiting_data p s asked slot at NoTelegram = left-not_answered s asked slot (max at s.own.end + p.tid1)

left-passive : (p : Params) (s : Station) (at : ℕ) (a : Arrival) → HasOpenRequest s → HasOpenRequest (passive_hears p s at a)
left-passive p s at (Token da sa) has = has
left-passive p s at (Framed f) has = has
left-passive p s at Acknowledgement has = has
left-passive p s at NoTelegram has = has

left-ended : (p : Params) (s : Station) (ph : Phase) (at : ℕ) (a : Arrival) → HasOpenRequest (phase_ended p (record s { phase = ph }) ph at a)
left-ended p s Offline at a = tt
left-ended p s PassiveIdle at a = left-passive p (record s { phase = PassiveIdle }) at a tt
left-ended p s (Listening doubled) at a = left-listening_hears p (record s { phase = Listening doubled }) doubled at a tt
left-ended p s (Idle refused) at a = left-idle_hears p (record s { phase = Idle refused }) refused at a tt
left-ended p s (Claim sent ready) at a = left-holder_hears (record s { phase = Claim sent ready }) a tt
left-ended p s (Use asked ready) at a = left-holder_hears (record s { phase = Use asked ready }) a tt
left-ended p s (AwaitData asked retry slot) at a = left-awaiting_data p (record s { phase = AwaitData asked retry slot }) asked slot at a
left-ended p s (AwaitStatus of slot) at a = left-awaiting p (record s { phase = AwaitStatus of slot }) of at a
left-ended p s (Pass tries ready) at a = left-holder_hears (record s { phase = Pass tries ready }) a tt
left-ended p s (Checking tries) at a = left-holder_hears (record s { phase = Checking tries }) a tt

left-heard : (p : Params) (s : Station) (m : Mark) → HasOpenRequest s → HasOpenRequest (heard p s m)
left-heard p s (Begin at seen) has = left-begun s.cycles.initiator.pending s.phase s.own.begin at has
left-heard p s (End at seen chars) has = left-ended p (at_end s at) s.phase at (arrival_of chars)

left-after_mark : (p : Params) (s : Station) (m : Mark) → HasOpenRequest s → HasOpenRequest (after_mark p s m)
left-after_mark p s m has = by_test HasOpenRequest (is_offline s.phase) s (heard p s m) (λ _. has) (λ _. left-heard p s m has)

pub left-after_marks : (p : Params) (s : Station) (marks : List Mark) → HasOpenRequest s → HasOpenRequest (after_marks p s marks)
left-after_marks p s [] has = has
left-after_marks p s (m ∷ marks) has =
    let x = after_timer p (moment_of m) s in
    left-after_marks p (after_mark p x m) marks (left-after_mark p x m (left-after_timer p (moment_of m) s has))

pub left-settled : (p : Params) (s : Station) (marks : List Mark) (now : ℕ) → HasOpenRequest s → HasOpenRequest (settled p s marks now)
left-settled p s marks now has = left-after_timer p (now + 1) (after_marks p s marks) (left-after_marks p s marks has)

-- ---- speech

left-says_token : (p : Params) (s : Station) (tries now : ℕ) → HasOpenRequest (says_token p s tries now).0
left-says_token p s tries now =
    let x = saying s now (token_octets (next_station s) s.address) in
    by_test HasOpenRequest (next_station s == s.address) (received_own p x) _ (λ _. tt) (λ _. tt)

left-says_look : (p : Params) (s : Station) (next : Option ℕ) (now : ℕ) → HasOpenRequest (says_look p s next now).0
left-says_look p s None now = left-says_token p (record s { gap = round_after None now }) 0 now
left-says_look p s (Some a) now = tt

left-says_request : (p : Params) (s : Station) (asked : Bool) (r : RequestFields) (now : ℕ) → HasOpenRequest (says_request p s asked r now).0
left-says_request p s asked r now =
    let t = s.cycles.initiator in
    by_test HasOpenRequest (is_answered r.service) _ _
    (λ answered. (ap (λ (b : Bool). is_some (if b then with_request t r (first_sending t s.address r) else without_request t).pending) answered, tt)) (λ _. tt)

left-says_low : (p : Params) (s : Station) (asked : Bool) (r : Option RequestFields) (now : ℕ) → HasOpenRequest (says_low p s asked r now).0
left-says_low p s asked None now =
    by_test (λ (turn : Station × Option (List ℕ)). HasOpenRequest turn.0) (looks_at_gap p s asked now) _ _
    (λ _. left-says_look p s (next_asked s.address (next_station s) p.hsa (last_asked s.gap)) now) (λ _. left-says_token p s 0 now)
left-says_low p s asked (Some r) now = left-says_request p (low_taken s) asked r now

left-says_high : (p : Params) (s : Station) (asked : Bool) (r : Option RequestFields) (now : ℕ) → HasOpenRequest (says_high p s asked r now).0
left-says_high p s asked None now = left-says_low p s asked (low_request s now) now
left-says_high p s asked (Some r) now = left-says_request p (high_taken s) asked r now

left-says_again : (s : Station) (asked : Bool) (f : Option Fields) (now : ℕ) → is_some s.cycles.initiator.pending ≡ true → HasOpenRequest (says_again s asked f now).0
left-says_again s asked None now some = (some, tt)
left-says_again s asked (Some f) now some = (some-retried s.cycles.initiator.pending some, tt)

left-says_reply : (s : Station) (o : Option Reply) (now : ℕ) → HasOpenRequest s → HasOpenRequest (says_reply s o now).0
left-says_reply s None now has = has
left-says_reply s (Some r) now has = has

left-says_ready : (s : Station) (o : Option Reply) (now : ℕ) → HasOpenRequest s → HasOpenRequest (says_ready s o now).0
left-says_ready s None now has = has
left-says_ready s (Some r) now has = let x = replying s now r in by_test HasOpenRequest r.joins (joining x) x (λ _. tt) (λ _. has)

left-phase_says : (p : Params) (s : Station) (ph : Phase) (now : ℕ) → HasOpen s.cycles.initiator.pending ph → HasOpenRequest (phase_says p (record s { phase = ph }) ph now).0
left-phase_says p s Offline now has = tt
left-phase_says p s PassiveIdle now has = left-says_reply (record s { phase = PassiveIdle }) s.reply now tt
left-phase_says p s (Listening doubled) now has = left-says_ready (record s { phase = Listening doubled }) s.reply now tt
left-phase_says p s (Idle refused) now has = left-says_reply (record s { phase = Idle refused }) s.reply now tt
left-phase_says p s (Claim sent ready) now has =
    let x = saying (record s { phase = Claim sent ready }) now (token_octets s.address s.address) in
    by_test HasOpenRequest (sent == 0) _ (received_own p x) (λ _. tt) (λ _. tt)
left-phase_says p s (Use asked ready) now has = let x = record s { phase = Use asked ready } in left-says_high p x asked (high_request x now) now
left-phase_says p s (AwaitData asked retry slot) now has = left-says_again (record s { phase = AwaitData asked retry slot }) asked (retry_of s.cycles.initiator.pending) now has.0
left-phase_says p s (AwaitStatus of slot) now has = tt
left-phase_says p s (Pass tries ready) now has = left-says_token p (record s { phase = Pass tries ready }) tries now
left-phase_says p s (Checking tries) now has = tt

left-speech : (p : Params) (s : Station) (o : Option ℕ) (now : ℕ) → HasOpenRequest s → HasOpenRequest (speech p s o now).0
left-speech p s None now has = has
left-speech p s (Some moment) now has =
    by_test (λ (turn : Station × Option (List ℕ)). HasOpenRequest turn.0) (nat_le moment now) (phase_says p s s.phase now) (s, None)
    (λ _. left-phase_says p s s.phase now has) (λ _. has)

pub left-turn_of : (p : Params) (s : Station) (marks : List Mark) (now : ℕ) → HasOpenRequest s → HasOpenRequest (turn_of p s marks now).0
left-turn_of p s marks now has =
    let x = settled p s marks now in left-speech p x (speaks_at x) now (left-settled p s marks now has)

pub left-started : (p : Params) (s : Station) (master : Bool) (now : ℕ) → HasOpenRequest (started p s master now)
left-started p s master now = by_test (HasOpen None) master (Listening false) PassiveIdle (λ _. tt) (λ _. tt)
