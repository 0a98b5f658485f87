-- A station that uses the token has received it, whatever it hears and says.
use Rattle.std.proofs.Common.{refl, ◌≡◌, sym, subst, ℕ, ◌+◌, ◌==◌, List, [], ◌∷◌, Bool, false, Option, Some, None}
use Rattle.std.specs.Prelude.{nat_lt, nat_le, max, is_some, IsSome}
use Rattle.std.specs.Option.{option_map}
use Rattle.pb_timers.specs.Timers.{Params}
use Rattle.pb_ring.specs.Gap.{last_asked, next_asked, round_after}
use Rattle.pb_ring.specs.Las.{place_of, skips_of}
use Rattle.pb_rotation.specs.Rotation.{Receipt, used}
use Rattle.pb_cycles.specs.Fields.{Fields}
use Rattle.pb_cycles.specs.Messages.{has_bit}
use Rattle.pb_cycles.specs.RequestFields.{RequestFields}
use Rattle.pb_cycles.specs.Requests.{is_answered}
use Rattle.pb_cycles.specs.declared.messages.Message.{Message}
use Rattle.pb_cycles.specs.declared.messages.Message.TheVariants as message
use Rattle.pb_cycles.specs.Initiating.{retry_of, outcome_of}
use Rattle.pb_cycles.specs.declared.outcomes.Outcome.{Outcome}
use Rattle.pb_cycles.specs.Outcomes.{status_reply}
use Rattle.law_turn.specs.Arrivals.{Arrival, Token, Framed, Acknowledgement, NoTelegram, arrival_of}
use Rattle.law_turn.specs.Hearing.{not_answered, data_told, awaiting_data_hears, passive_hears, phase_timed_out, timed_out, after_timer, tries_limit, taking, is_taken_from, skips_limit, own_token, foreign_token, idle_hears, listening_hears, holder_hears, status_told, awaiting_status_hears, with_token, lost, phase_ended, heard, after_mark}
use Rattle.law_turn.specs.Marks.{Mark, Begin, End, moment_of}
use Rattle.law_turn.specs.Phases.{Phase, Offline, PassiveIdle, Listening, Idle, Claim, Use, AwaitData, AwaitStatus, Pass, Checking, is_offline}
use Rattle.law_turn.specs.Stations.{Station, Reply, timer_of, next_station, previous_station}
use Rattle.law_turn.specs.Turns.{after_marks, settled, token_octets, saying, received_own, says_token, looks_at_gap, says_look, says_no_request, says_request, says_low, says_high, says_in_use, high_request, low_request, high_taken, low_taken, says_again, joining, replying, says_reply, says_ready, phase_says, speech}
use Rattle.law_turn.proofs.Cases.{by_test}
use Rattle.law_turn.proofs.Paths.{phase-doubled}
use Rattle.pb_transitions.specs.Cores.{has_received, HasReceived}

-- ---- timers

by-not_answered : (s : Station) (asked slot : Bool) (ready : ℕ) → IsSome s.rotation.last → HasReceived (not_answered s asked slot ready)
by-not_answered s asked slot ready h = by_test HasReceived (is_some (retry_of s.cycles.initiator.pending)) _ _ (λ _. h) (λ _. h)

by-timed_out : (s : Station) (ph : Phase) (t : ℕ) → has_received ph s.rotation.last → HasReceived (phase_timed_out (record s { phase = ph }) ph t)
by-timed_out s Offline t h = h
by-timed_out s PassiveIdle t h = h
by-timed_out s (Listening doubled) t h = tt
by-timed_out s (Idle refused) t h = tt
by-timed_out s (Claim sent ready) t h = h
by-timed_out s (Use asked ready) t h = h
by-timed_out s (AwaitData asked retry slot) t h = by-not_answered (record s { phase = AwaitData asked retry slot }) asked false t h
by-timed_out s (AwaitStatus of slot) t h = h
by-timed_out s (Pass tries ready) t h = h
by-timed_out s (Checking tries) t h = by_test HasReceived (nat_le tries_limit tries) _ _ (λ _. tt) (λ _. tt)

by-timer : (p : Params) (limit : ℕ) (s : Station) → HasReceived s → HasReceived (after_timer p limit s)
by-timer p limit s h = by_moment (timer_of p s)
  where
    by_moment : (o : Option ℕ) → HasReceived (timed_out s o limit)
    by_moment None = h
    by_moment (Some t) = by_test HasReceived (nat_lt t limit) (phase_timed_out s s.phase t) s (λ _. by-timed_out s s.phase t h) (λ _. h)

-- ---- marks

by-begin : (s : Station) (ph : Phase) (at seen : ℕ) (p : Params) → has_received ph s.rotation.last → HasReceived (heard p (record s { phase = ph }) (Begin at seen))
by-begin s Offline at seen p h = h
by-begin s PassiveIdle at seen p h = h
by-begin s (Listening doubled) at seen p h = h
by-begin s (Idle refused) at seen p h = h
by-begin s (Claim sent ready) at seen p h = tt
by-begin s (Use asked ready) at seen p h = tt
by-begin s (AwaitData asked retry slot) at seen p h = h
by-begin s (AwaitStatus of slot) at seen p h = h
by-begin s (Pass tries ready) at seen p h = tt
by-begin s (Checking tries) at seen p h =
    by_test (λ ph. has_received ph s.rotation.last) (nat_lt at s.own.begin) (Checking tries) (Idle None) (λ _. tt) (λ _. tt)

by-own_token : (p : Params) (s : Station) (taken : Bool) (sa at : ℕ) → HasReceived (own_token p s taken sa at)
by-own_token p s taken sa at = by_test HasReceived taken (taking p s at) _ (λ _. refl) (λ _. tt)

by-idle : (p : Params) (s : Station) (refused : Option ℕ) (at : ℕ) (a : Arrival) → HasReceived s → HasReceived (idle_hears p s refused at a)
by-idle p s refused at (Token da sa) h =
    let x = with_token s da sa in
    by_test HasReceived (da == s.address) (own_token p x (is_taken_from refused (previous_station s) sa) sa at) (foreign_token x)
    (λ _. by-own_token p x (is_taken_from refused (previous_station s) sa) sa at)
    (λ _. by_test HasReceived (nat_le skips_limit (skips_of (place_of x.las.stage))) _ x (λ _. tt) (λ _. h))
by-idle p s refused at (Framed f) h = h
by-idle p s refused at Acknowledgement h = h
by-idle p s refused at NoTelegram h = h

by-listening : (p : Params) (s : Station) (doubled : Bool) (at : ℕ) (a : Arrival) → HasReceived s → HasReceived (listening_hears p s doubled at a)
by-listening p s doubled at (Token da sa) h = phase-doubled (λ ph. has_received ph s.rotation.last) doubled sa s.address tt (λ _. tt)
by-listening p s doubled at (Framed f) h = h
by-listening p s doubled at Acknowledgement h = h
by-listening p s doubled at NoTelegram h = h

by-told : (p : Params) (s : Station) (of at : ℕ) (fc : Option ℕ) → IsSome s.rotation.last → HasReceived (status_told p s of at fc)
by-told p s of at None h = h
by-told p s of at (Some fc) h = h

by-data_told : (p : Params) (s : Station) (asked slot : Bool) (at : ℕ) (m : Message) (o : Option Outcome) → IsSome s.rotation.last → HasReceived (data_told p s asked slot at m o)
by-data_told p s asked slot at m (Some outcome) h = h
by-data_told p s asked slot at m None h = by-not_answered s asked slot (max at s.own.end + p.tid1) h

by-awaiting_data : (p : Params) (s : Station) (asked slot : Bool) (at : ℕ) (a : Arrival) → IsSome s.rotation.last → HasReceived (awaiting_data_hears p s asked slot at a)
by-awaiting_data p s asked slot at (Token da sa) h = tt
by-awaiting_data p s asked slot at (Framed f) h =
    by_test HasReceived (has_bit f.fc 6) (lost s) _ (λ _. tt)
    (λ _. by-data_told p s asked slot at (message.Framed f) (outcome_of s.cycles.initiator (Some (message.Framed f))) h)
by-awaiting_data p s asked slot at Acknowledgement h =
    by-data_told p s asked slot at message.Acknowledgement (outcome_of s.cycles.initiator (Some message.Acknowledgement)) h
by-awaiting_data p s asked slot at NoTelegram h = by-not_answered s asked slot (max at s.own.end + p.tid1) h

by-awaiting : (p : Params) (s : Station) (of at : ℕ) (a : Arrival) → IsSome s.rotation.last → HasReceived (awaiting_status_hears p s of at a)
by-awaiting p s of at (Token da sa) h = tt
by-awaiting p s of at (Framed f) h =
    by_test HasReceived (has_bit f.fc 6) (lost s) _ (λ _. tt) (λ _. by-told p s of at (status_reply s.address of (message.Framed f)) h)
by-awaiting p s of at Acknowledgement h = h
by-awaiting p s of at NoTelegram h = h

by-passive : (p : Params) (s : Station) (at : ℕ) (a : Arrival) → HasReceived s → HasReceived (passive_hears p s at a)
by-passive p s at (Token da sa) h = h
by-passive p s at (Framed f) h = h
by-passive p s at Acknowledgement h = h
by-passive p s at NoTelegram h = h

by-holder : (s : Station) (a : Arrival) → HasReceived s → HasReceived (holder_hears s a)
by-holder s (Token da sa) h = h
by-holder s (Framed f) h = h
by-holder s Acknowledgement h = h
by-holder s NoTelegram h = h

by-ended : (p : Params) (s : Station) (ph : Phase) (at : ℕ) (a : Arrival) → has_received ph s.rotation.last → HasReceived (phase_ended p (record s { phase = ph }) ph at a)
by-ended p s Offline at a h = h
by-ended p s PassiveIdle at a h = by-passive p (record s { phase = PassiveIdle }) at a tt
by-ended p s (Listening doubled) at a h = by-listening p (record s { phase = Listening doubled }) doubled at a tt
by-ended p s (Idle refused) at a h = by-idle p (record s { phase = Idle refused }) refused at a tt
by-ended p s (Claim sent ready) at a h = by-holder (record s { phase = Claim sent ready }) a tt
by-ended p s (Use asked ready) at a h = by-holder (record s { phase = Use asked ready }) a h
by-ended p s (AwaitData asked retry slot) at a h = by-awaiting_data p (record s { phase = AwaitData asked retry slot }) asked slot at a h
by-ended p s (AwaitStatus of slot) at a h = by-awaiting p (record s { phase = AwaitStatus of slot }) of at a h
by-ended p s (Pass tries ready) at a h = by-holder (record s { phase = Pass tries ready }) a tt
by-ended p s (Checking tries) at a h = by-holder (record s { phase = Checking tries }) a tt

by-heard : (p : Params) (s : Station) (m : Mark) → HasReceived s → HasReceived (heard p s m)
by-heard p s (Begin at seen) h = by-begin s s.phase at seen p h
by-heard p s (End at seen chars) h =
    by-ended p (record s { busy = false; quiet = max s.quiet at }) s.phase at (arrival_of chars) h

by-mark : (p : Params) (s : Station) (m : Mark) → HasReceived s → HasReceived (after_mark p s m)
by-mark p s m h = by_test HasReceived (is_offline s.phase) s (heard p s m) (λ _. h) (λ _. by-heard p s m h)

by-marks : (p : Params) (s : Station) (marks : List Mark) → HasReceived s → HasReceived (after_marks p s marks)
by-marks p s [] h = h
by-marks p s (m ∷ ms) h =
    by-marks p (after_mark p (after_timer p (moment_of m) s) m) ms
    (by-mark p (after_timer p (moment_of m) s) m (by-timer p (moment_of m) s h))

pub received-settled : (p : Params) (s : Station) (marks : List Mark) (now : ℕ) → HasReceived s → HasReceived (settled p s marks now)
received-settled p s marks now h = by-timer p (now + 1) (after_marks p s marks) (by-marks p s marks h)

-- ---- speech

by-token : (p : Params) (s : Station) (tries now : ℕ) → HasReceived (says_token p s tries now).0
by-token p s tries now =
    let x = saying s now (token_octets (next_station s) s.address) in
    by_test HasReceived (next_station s == s.address) (received_own p x) _ (λ _. refl) (λ _. tt)

by-look : (p : Params) (s : Station) (a : Option ℕ) (now : ℕ) → IsSome s.rotation.last → HasReceived (says_look p s a now).0
by-look p s None now h = by-token p (record s { gap = round_after None now }) 0 now
by-look p s (Some a) now h = h

by-no_request : (p : Params) (s : Station) (asked : Bool) (now : ℕ) → IsSome s.rotation.last → HasReceived (says_no_request p s asked now).0
by-no_request p s asked now h =
    by_test (λ (x : Station × Option (List ℕ)). HasReceived x.0) (looks_at_gap p s asked now) _ _
    (λ _. by-look p s (next_asked s.address (next_station s) p.hsa (last_asked s.gap)) now h) (λ _. by-token p s 0 now)

by-request : (p : Params) (s : Station) (asked : Bool) (r : RequestFields) (now : ℕ) → IsSome s.rotation.last → HasReceived (says_request p s asked r now).0
by-request p s asked r now h = by_test HasReceived (is_answered r.service) _ _ (λ _. h) (λ _. h)

by-low : (p : Params) (s : Station) (asked : Bool) (o : Option RequestFields) (now : ℕ) → IsSome s.rotation.last → HasReceived (says_low p s asked o now).0
by-low p s asked (Some r) now h = by-request p (low_taken s) asked r now h
by-low p s asked None now h = by-no_request p s asked now h

-- a receipt in which a cycle of high priority was started is still one
used-still : (last : Option Receipt) → IsSome last → IsSome (option_map used last)
used-still (Some last) h = refl
used-still None h = h

by-high : (p : Params) (s : Station) (asked : Bool) (o : Option RequestFields) (now : ℕ) → IsSome s.rotation.last → HasReceived (says_high p s asked o now).0
by-high p s asked (Some r) now h = by-request p (high_taken s) asked r now (used-still s.rotation.last h)
by-high p s asked None now h = by-low p s asked (low_request s now) now h

by-use : (p : Params) (s : Station) (asked : Bool) (now : ℕ) → IsSome s.rotation.last → HasReceived (says_in_use p s asked now).0
by-use p s asked now h = by-high p s asked (high_request s now) now h

by-again : (s : Station) (asked : Bool) (o : Option Fields) (now : ℕ) → IsSome s.rotation.last → HasReceived (says_again s asked o now).0
by-again s asked None now h = h
by-again s asked (Some f) now h = h

by-reply : (s : Station) (r : Option Reply) (now : ℕ) → HasReceived s → HasReceived (says_reply s r now).0
by-reply s None now h = h
by-reply s (Some r) now h = h

by-ready : (s : Station) (r : Option Reply) (now : ℕ) → HasReceived s → HasReceived (says_ready s r now).0
by-ready s None now h = h
by-ready s (Some r) now h = by_test HasReceived r.joins (joining (replying s now r)) (replying s now r) (λ _. tt) (λ _. h)

by-says : (p : Params) (s : Station) (ph : Phase) (now : ℕ) → has_received ph s.rotation.last → HasReceived (phase_says p (record s { phase = ph }) ph now).0
by-says p s Offline now h = h
by-says p s PassiveIdle now h = by-reply (record s { phase = PassiveIdle }) s.reply now tt
by-says p s (Listening doubled) now h = by-ready (record s { phase = Listening doubled }) s.reply now tt
by-says p s (Idle refused) now h = by-reply (record s { phase = Idle refused }) s.reply now tt
by-says p s (Claim sent ready) now h = by_test HasReceived (sent == 0) _ _ (λ _. tt) (λ _. refl)
by-says p s (Use asked ready) now h = by-use p (record s { phase = Use asked ready }) asked now h
by-says p s (AwaitData asked retry slot) now h = by-again (record s { phase = AwaitData asked retry slot }) asked (retry_of s.cycles.initiator.pending) now h
by-says p s (AwaitStatus of slot) now h = h
by-says p s (Pass tries ready) now h = by-token p (record s { phase = Pass tries ready }) tries now
by-says p s (Checking tries) now h = h

pub received-speech : (p : Params) (s : Station) (o : Option ℕ) (now : ℕ) → HasReceived s → HasReceived (speech p s o now).0
received-speech p s None now h = h
received-speech p s (Some moment) now h =
    by_test (λ (x : Station × Option (List ℕ)). HasReceived x.0) (nat_le moment now) (phase_says p s s.phase now) (s, None) (λ _. by-says p s s.phase now h) (λ _. h)

-- the station at the clock has received the token, if it uses it
pub received-clock : (p : Params) (before clock : Station) (marks : List Mark) (now : ℕ) → clock ≡ settled p before marks now → HasReceived before → HasReceived clock
received-clock p before clock marks now is h = subst HasReceived (sym is) (received-settled p before marks now h)
