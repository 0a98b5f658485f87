-- A reply that is not sent yet waits only in a phase that answers requests, where Begins and Ends take turns.
use Rattle.std.proofs.Common.{◌≡◌, ◌∙◌, ℕ, ◌+◌, ◌==◌, Bool, true, false, refl, ap, sym, subst, List, Option, Some, None}
use Rattle.std.specs.Prelude.{is_some, nat_le, nat_lt, max}
use Rattle.pb_timers.specs.Timers.{Params}
use Rattle.pb_ring.specs.Gap.{next_asked, last_asked, round_after}
use Rattle.pb_ring.specs.Las.{place_of, skips_of}
use Rattle.pb_cycles.specs.Fields.{Fields}
use Rattle.pb_cycles.specs.Messages.{has_bit}
use Rattle.pb_cycles.specs.RequestFields.{RequestFields}
use Rattle.pb_cycles.specs.Requests.{is_answered}
use Rattle.pb_cycles.specs.declared.messages.Message.{Message}
use Rattle.pb_cycles.specs.declared.messages.Message.TheVariants as message
use Rattle.pb_cycles.specs.Initiating.{retry_of, outcome_of}
use Rattle.pb_cycles.specs.Outcomes.{status_reply}
use Rattle.pb_cycles.specs.declared.outcomes.Outcome.{Outcome}
use Rattle.law_turn.specs.Arrivals.{Arrival, Token, Framed, Acknowledgement, NoTelegram}
use Rattle.law_turn.specs.Hearing.{not_answered, not_taken, tries_limit, timed_out, after_timer, phase_timed_out, phase_begun, reply_begun, doubled_by, listening_hears, taking, is_taken_from, skips_limit, token_in_idle, idle_hears, passive_hears, holder_hears, status_told, awaiting_status_hears, data_told, awaiting_data_hears, with_token, lost, phase_ended}
use Rattle.law_turn.specs.Laws.{WaitsInPlace}
use Rattle.law_turn.specs.Phases.{Phase, Offline, PassiveIdle, Listening, Idle, Claim, Use, AwaitData, AwaitStatus, Pass, Checking}
use Rattle.law_turn.specs.Stations.{Station, Reply, timer_of, phase_speaks, speaks_at, next_station, previous_station}
use Rattle.law_turn.specs.Turns.{saying, received_own, says_token, looks_at_gap, says_look, says_no_request, high_request, low_request, high_taken, low_taken, says_request, says_low, says_high, says_again, replying, joining, says_reply, says_ready, phase_says, speech, token_octets}
use Rattle.law_turn.proofs.Cases.{by_test}
use Rattle.law_turn.proofs.Paths.{phase-doubled}

abbrev InPlace : Station → Type 0
InPlace s = WaitsInPlace s.phase s.reply

-- no reply is in place in every phase
pub none_in_place : (ph : Phase) → WaitsInPlace ph None
none_in_place Offline = refl
none_in_place PassiveIdle = tt
none_in_place (Listening doubled) = tt
none_in_place (Idle refused) = tt
none_in_place (Claim sent ready) = refl
none_in_place (Use asked ready) = refl
none_in_place (AwaitData asked retry slot) = refl
none_in_place (AwaitStatus of slot) = refl
none_in_place (Pass tries ready) = refl
none_in_place (Checking tries) = refl

no_reply_in_place : (ph : Phase) (reply : Option Reply) → reply ≡ None → WaitsInPlace ph reply
no_reply_in_place ph reply none = subst (WaitsInPlace ph) (sym none) (none_in_place ph)

-- ---- timers

in_place-not_answered : (s : Station) (asked slot : Bool) (ready : ℕ) → s.reply ≡ None → InPlace (not_answered s asked slot ready)
in_place-not_answered s asked slot ready none = by_test InPlace (is_some (retry_of s.cycles.initiator.pending)) _ _ (λ _. none) (λ _. none)

in_place-timed_out : (s : Station) (ph : Phase) (t : ℕ) → InPlace s → WaitsInPlace ph s.reply → InPlace (phase_timed_out s ph t)
in_place-timed_out s Offline t here waits = here
in_place-timed_out s PassiveIdle t here waits = here
in_place-timed_out s (Listening doubled) t here waits = refl
in_place-timed_out s (Idle refused) t here waits = refl
in_place-timed_out s (Claim sent ready) t here waits = here
in_place-timed_out s (Use asked ready) t here waits = here
in_place-timed_out s (AwaitData asked retry slot) t here waits = in_place-not_answered s asked false t waits
in_place-timed_out s (AwaitStatus of slot) t here waits = waits
in_place-timed_out s (Pass tries ready) t here waits = here
in_place-timed_out s (Checking tries) t here waits = by_test InPlace (nat_le tries_limit tries) _ _ (λ _. waits) (λ _. waits)

pub in_place-after_timer : (p : Params) (limit : ℕ) (s : Station) → InPlace s → InPlace (after_timer p limit s)
in_place-after_timer p limit s here = by_timer (timer_of p s)
  where
    by_timer : (o : Option ℕ) → InPlace (timed_out s o limit)
    by_timer None = here
    by_timer (Some t) = by_test InPlace (nat_lt t limit) (phase_timed_out s s.phase t) s (λ _. in_place-timed_out s s.phase t here here) (λ _. here)

-- ---- a begin

-- what is in place before a Begin is nothing after it
pub none-begun : (ph : Phase) (reply : Option Reply) → WaitsInPlace ph reply → reply_begun ph reply ≡ None
none-begun Offline reply none = none
none-begun PassiveIdle reply waits = refl
none-begun (Listening doubled) reply waits = refl
none-begun (Idle refused) reply waits = refl
none-begun (Claim sent ready) reply none = none
none-begun (Use asked ready) reply none = none
none-begun (AwaitData asked retry slot) reply none = none
none-begun (AwaitStatus of slot) reply none = none
none-begun (Pass tries ready) reply none = none
none-begun (Checking tries) reply none = none

pub in_place-begun : (s : Station) (at : ℕ) → InPlace s → WaitsInPlace (phase_begun s.phase s.own.begin at) (reply_begun s.phase s.reply)
in_place-begun s at here = no_reply_in_place (phase_begun s.phase s.own.begin at) (reply_begun s.phase s.reply) (none-begun s.phase s.reply here)

-- ---- an end: the station was busy, so no reply waited

-- a busy station that says nothing keeps no reply
pub none-busy : (ph : Phase) (reply : Option Reply) → WaitsInPlace ph reply → phase_speaks reply ph ≡ None → reply ≡ None
none-busy Offline reply none silent = none
none-busy PassiveIdle None waits silent = refl
none-busy PassiveIdle (Some r) waits silent = absurd (let wrong : Some r.ready ≡ None = silent in cc)
none-busy (Listening doubled) None waits silent = refl
none-busy (Listening doubled) (Some r) waits silent = absurd (let wrong : Some r.ready ≡ None = silent in cc)
none-busy (Idle refused) None waits silent = refl
none-busy (Idle refused) (Some r) waits silent = absurd (let wrong : Some r.ready ≡ None = silent in cc)
none-busy (Claim sent ready) reply none silent = none
none-busy (Use asked ready) reply none silent = none
none-busy (AwaitData asked retry slot) reply none silent = none
none-busy (AwaitStatus of slot) reply none silent = none
none-busy (Pass tries ready) reply none silent = none
none-busy (Checking tries) reply none silent = none

in_place-token_in_idle : (p : Params) (s : Station) (refused : Option ℕ) (at da sa : ℕ) → s.reply ≡ None → InPlace (token_in_idle p s refused at da sa)
in_place-token_in_idle p s refused at da sa none =
    let x = with_token s da sa in
    by_test InPlace (da == s.address) _ _
    (λ _. by_test InPlace (is_taken_from refused (previous_station s) sa) (taking p x at) _ (λ _. none) (λ _. tt))
    (λ _. by_test InPlace (nat_le skips_limit (skips_of (place_of x.las.stage))) _ x (λ _. tt) (λ _. no_reply_in_place s.phase s.reply none))

in_place-idle_hears : (p : Params) (s : Station) (refused shown : Option ℕ) (at : ℕ) (a : Arrival) → s.reply ≡ None
    → InPlace (idle_hears p (record s { phase = Idle shown }) refused at a)
in_place-idle_hears p s refused shown at (Token da sa) none = in_place-token_in_idle p (record s { phase = Idle shown }) refused at da sa none
in_place-idle_hears p s refused shown at (Framed f) none = tt
in_place-idle_hears p s refused shown at Acknowledgement none = tt
in_place-idle_hears p s refused shown at NoTelegram none = tt

in_place-listening_hears : (p : Params) (s : Station) (doubled : Bool) (at : ℕ) (a : Arrival) → s.reply ≡ None
    → InPlace (listening_hears p (record s { phase = Listening doubled }) doubled at a)
in_place-listening_hears p s doubled at (Token da sa) none = phase-doubled (λ ph. WaitsInPlace ph s.reply) doubled sa s.address none (λ _. tt)
in_place-listening_hears p s doubled at (Framed f) none = tt
in_place-listening_hears p s doubled at Acknowledgement none = tt
in_place-listening_hears p s doubled at NoTelegram none = tt

in_place-passive_hears : (p : Params) (s : Station) (at : ℕ) (a : Arrival) → InPlace (passive_hears p (record s { phase = PassiveIdle }) at a)
in_place-passive_hears p s at (Token da sa) = tt
in_place-passive_hears p s at (Framed f) = tt
in_place-passive_hears p s at Acknowledgement = tt
in_place-passive_hears p s at NoTelegram = tt

in_place-holder_hears : (s : Station) (a : Arrival) → s.reply ≡ None → InPlace (holder_hears s a)
in_place-holder_hears s (Token da sa) none = no_reply_in_place s.phase s.reply none
in_place-holder_hears s (Framed f) none = no_reply_in_place s.phase s.reply none
in_place-holder_hears s Acknowledgement none = no_reply_in_place s.phase s.reply none
in_place-holder_hears s NoTelegram none = no_reply_in_place s.phase s.reply none

in_place-status_told : (p : Params) (s : Station) (of at : ℕ) (fc : Option ℕ) → s.reply ≡ None → InPlace (status_told p s of at fc)
in_place-status_told p s of at None none = none
in_place-status_told p s of at (Some fc) none = none

in_place-awaiting : (p : Params) (s : Station) (of at : ℕ) (a : Arrival) → s.reply ≡ None → InPlace (awaiting_status_hears p s of at a)
in_place-awaiting p s of at (Token da sa) none = tt
in_place-awaiting p s of at (Framed f) none =
    by_test InPlace (has_bit f.fc 6) (lost s) _ (λ _. tt) (λ _. in_place-status_told p s of at (status_reply s.address of (message.Framed f)) none)
in_place-awaiting p s of at Acknowledgement none = none
in_place-awaiting p s of at NoTelegram none = none

in_place-data_told : (p : Params) (s : Station) (asked slot : Bool) (at : ℕ) (m : Message) (outcome : Option Outcome) → s.reply ≡ None
    → InPlace (data_told p s asked slot at m outcome)
in_place-data_told p s asked slot at m (Some outcome) none = none
in_place-data_told p s asked slot at m None none = in_place-not_answered s asked slot (max at s.own.end + p.tid1) none

in_place-awaiting_data : (p : Params) (s : Station) (asked slot : Bool) (at : ℕ) (a : Arrival) → s.reply ≡ None → InPlace (awaiting_data_hears p s asked slot at a)
in_place-awaiting_data p s asked slot at (Token da sa) none = tt
in_place-awaiting_data p s asked slot at (Framed f) none =
    by_test InPlace (has_bit f.fc 6) (lost s) _ (λ _. tt)
    (λ _. in_place-data_told p s asked slot at (message.Framed f) (outcome_of s.cycles.initiator (Some (message.Framed f))) none)
in_place-awaiting_data p s asked slot at Acknowledgement none =
    in_place-data_told p s asked slot at message.Acknowledgement (outcome_of s.cycles.initiator (Some message.Acknowledgement)) none
in_place-awaiting_data p s asked slot at NoTelegram none = in_place-not_answered s asked slot (max at s.own.end + p.tid1) none

-- what a phase hears leaves a reply in place, where none waited before
pub in_place-ended : (p : Params) (s : Station) (ph : Phase) (at : ℕ) (a : Arrival) → s.reply ≡ None → InPlace (phase_ended p (record s { phase = ph }) ph at a)
in_place-ended p s Offline at a none = none
in_place-ended p s PassiveIdle at a none = in_place-passive_hears p s at a
in_place-ended p s (Listening doubled) at a none = in_place-listening_hears p s doubled at a none
in_place-ended p s (Idle refused) at a none = in_place-idle_hears p s refused refused at a none
in_place-ended p s (Claim sent ready) at a none = in_place-holder_hears (record s { phase = Claim sent ready }) a none
in_place-ended p s (Use asked ready) at a none = in_place-holder_hears (record s { phase = Use asked ready }) a none
in_place-ended p s (AwaitData asked retry slot) at a none = in_place-awaiting_data p (record s { phase = AwaitData asked retry slot }) asked slot at a none
in_place-ended p s (AwaitStatus of slot) at a none = in_place-awaiting p (record s { phase = AwaitStatus of slot }) of at a none
in_place-ended p s (Pass tries ready) at a none = in_place-holder_hears (record s { phase = Pass tries ready }) a none
in_place-ended p s (Checking tries) at a none = in_place-holder_hears (record s { phase = Checking tries }) a none

-- ---- speech

in_place-says_token : (p : Params) (s : Station) (tries now : ℕ) → s.reply ≡ None → InPlace (says_token p s tries now).0
in_place-says_token p s tries now none =
    let x = saying s now (token_octets (next_station s) s.address) in
    by_test InPlace (next_station s == s.address) (received_own p x) _ (λ _. none) (λ _. none)

in_place-says_look : (p : Params) (s : Station) (next : Option ℕ) (now : ℕ) → s.reply ≡ None → InPlace (says_look p s next now).0
in_place-says_look p s None now none = in_place-says_token p (record s { gap = round_after None now }) 0 now none
in_place-says_look p s (Some a) now none = none

in_place-says_no_request : (p : Params) (s : Station) (asked : Bool) (now : ℕ) → s.reply ≡ None → InPlace (says_no_request p s asked now).0
in_place-says_no_request p s asked now none =
    by_test (λ (turn : Station × Option (List ℕ)). InPlace turn.0) (looks_at_gap p s asked now) _ _
    (λ _. in_place-says_look p s (next_asked s.address (next_station s) p.hsa (last_asked s.gap)) now none) (λ _. in_place-says_token p s 0 now none)

in_place-says_request : (p : Params) (s : Station) (asked : Bool) (r : RequestFields) (now : ℕ) → s.reply ≡ None → InPlace (says_request p s asked r now).0
in_place-says_request p s asked r now none = by_test InPlace (is_answered r.service) _ _ (λ _. none) (λ _. none)

in_place-says_low : (p : Params) (s : Station) (asked : Bool) (r : Option RequestFields) (now : ℕ) → s.reply ≡ None → InPlace (says_low p s asked r now).0
in_place-says_low p s asked None now none = in_place-says_no_request p s asked now none
in_place-says_low p s asked (Some r) now none = in_place-says_request p (low_taken s) asked r now none

in_place-says_high : (p : Params) (s : Station) (asked : Bool) (r : Option RequestFields) (now : ℕ) → s.reply ≡ None → InPlace (says_high p s asked r now).0
in_place-says_high p s asked None now none = in_place-says_low p s asked (low_request s now) now none
in_place-says_high p s asked (Some r) now none = in_place-says_request p (high_taken s) asked r now none

in_place-says_again : (s : Station) (asked : Bool) (f : Option Fields) (now : ℕ) → s.reply ≡ None → InPlace (says_again s asked f now).0
in_place-says_again s asked None now none = none
in_place-says_again s asked (Some f) now none = none

in_place-says_reply : (s : Station) (o : Option Reply) (now : ℕ) → InPlace s → InPlace (says_reply s o now).0
in_place-says_reply s None now here = here
in_place-says_reply s (Some r) now here = none_in_place s.phase

in_place-says_ready : (s : Station) (o : Option Reply) (now : ℕ) → InPlace s → InPlace (says_ready s o now).0
in_place-says_ready s None now here = here
in_place-says_ready s (Some r) now here =
    let x = replying s now r in by_test InPlace r.joins (joining x) x (λ _. tt) (λ _. none_in_place s.phase)

in_place-phase_says : (p : Params) (s : Station) (ph : Phase) (now : ℕ) → InPlace s → WaitsInPlace ph s.reply → InPlace (phase_says p s ph now).0
in_place-phase_says p s Offline now here waits = here
in_place-phase_says p s PassiveIdle now here waits = in_place-says_reply s s.reply now here
in_place-phase_says p s (Listening doubled) now here waits = in_place-says_ready s s.reply now here
in_place-phase_says p s (Idle refused) now here waits = in_place-says_reply s s.reply now here
in_place-phase_says p s (Claim sent ready) now here waits =
    let x = saying s now (token_octets s.address s.address) in by_test InPlace (sent == 0) _ (received_own p x) (λ _. waits) (λ _. waits)
in_place-phase_says p s (Use asked ready) now here waits = in_place-says_high p s asked (high_request s now) now waits
in_place-phase_says p s (AwaitData asked retry slot) now here waits = in_place-says_again s asked (retry_of s.cycles.initiator.pending) now waits
in_place-phase_says p s (AwaitStatus of slot) now here waits = here
in_place-phase_says p s (Pass tries ready) now here waits = in_place-says_token p s tries now waits
in_place-phase_says p s (Checking tries) now here waits = here

pub in_place-speech : (p : Params) (s : Station) (o : Option ℕ) (now : ℕ) → InPlace s → InPlace (speech p s o now).0
in_place-speech p s None now here = here
in_place-speech p s (Some moment) now here =
    by_test (λ (turn : Station × Option (List ℕ)). InPlace turn.0) (nat_le moment now) (phase_says p s s.phase now) (s, None)
    (λ _. in_place-phase_says p s s.phase now here here) (λ _. here)
