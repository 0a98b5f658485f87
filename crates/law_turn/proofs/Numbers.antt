-- Rules of the turn, number by number.
use Rattle.std.proofs.Common.{◌≡◌, ◌∙◌, ℕ, ◌+◌, ◌<◌, ◌≤◌, ◌==◌, ◌%◌, List, [], Bool, true, false, if◌then◌else◌, refl, ap, sym, subst, Option, Some, None}
use Rattle.std.specs.Option.{option_map, option_or}
use Rattle.std.specs.Prelude.{is_some, min, max}
use Rattle.std.proofs.lemmas.Bool.{le-leb, lt-leb, eq-eqb, and_parts}
use Rattle.pb_timers.specs.Timers.{Params}
use Rattle.pb_ring.specs.Gap.{next_asked, last_asked}
use Rattle.pb_ring.specs.Las as las
use Rattle.pb_ring.specs.Las.{is_complete, heard, place_of, skips_of, listening}
use Rattle.pb_rotation.specs.Rotation.{may_low}
use Rattle.pb_cycles.specs.Fields.{Fields}
use Rattle.pb_cycles.specs.Messages.{has_bit, address_in}
use Rattle.pb_cycles.specs.RequestFields.{RequestFields}
use Rattle.pb_cycles.specs.Requests.{is_answered, asked_by}
use Rattle.pb_cycles.specs.declared.messages.Message.{Message}
use Rattle.pb_cycles.specs.declared.services.Asked.{Asked}
use Rattle.pb_cycles.specs.declared.services.Asked.TheVariants.{Send, Status, Unknown}
use Rattle.pb_cycles.specs.declared.messages.Message.TheVariants as message
use Rattle.pb_cycles.specs.Initiating.{retry_of, outcome_of}
use Rattle.pb_cycles.specs.Responding.{reply_frame, reply_to_asked}
use Rattle.pb_cycles.specs.Tables.{ResponderTable}
use Rattle.pb_cycles.specs.declared.outcomes.Outcome.{Outcome}
use Rattle.pb_cycles.specs.Outcomes.{status_reply}
use Rattle.law_turn.specs.Arrivals.{Arrival, Token, Framed, Acknowledgement, NoTelegram, arrival_of}
use Rattle.law_turn.specs.Hearing.{not_answered, passive_hears, answer_to, is_status, passive, in_ring, data_told, awaiting_data_hears, phase_timed_out, with_token, own_token, foreign_token, listening_hears, status_answer, idle_hears, token_in_idle, status_told, awaiting_status_hears, asks_status, is_taken_from, lost, after_mark, not_ready, ready_for_ring}
use Rattle.law_turn.specs.Laws.{HasAsked, is_asking, status_reply_of}
use Rattle.law_turn.specs.Marks.{Mark, Begin, End}
use Rattle.law_turn.specs.Phases.{Phase, Offline, Listening, Idle, Use, AwaitData, AwaitStatus, Pass, Checking}
use Rattle.law_turn.specs.Stations.{Station, Reply, next_station, previous_station}
use Rattle.law_turn.specs.Turns.{says_token, received_own, saying, token_octets, says_look, says_no_request, high_request, low_request, high_taken, low_taken, says_request, says_low, says_high, says_again, phase_says}
use Rattle.law_turn.proofs.Cases.{by_test, and-false, or-true}
use Rattle.law_turn.proofs.Keeping.{waiting_reply}
use Rattle.law_turn.proofs.Paths.{at_end}

-- ---- tries

pub tried : (p : Params) (s : Station) (tries now : ℕ) → (next_station s == s.address) ≡ false → (says_token p s tries now).0.phase ≡ Checking (min 3 (tries + 1))
tried p s tries now other =
    let x = saying s now (token_octets (next_station s) s.address) in
    ap (λ (b : Bool). (if b then received_own p x else record x { phase = Checking (min 3 (tries + 1)) }).phase) other

pub tried-again : (s : Station) (tries t : ℕ) → tries < 3 → phase_timed_out s (Checking tries) t ≡ record s { phase = Pass tries t }
tried-again s tries t few =
    ap (λ (b : Bool). if b then record s { phase = Pass 0 t; las = las.removed s.las (next_station s) } else record s { phase = Pass tries t }) (lt-leb 3 tries few)

-- ---- one question per receipt

-- without a request that may be sent the token goes on
asked-no_request : (p : Params) (s : Station) (now : ℕ) → says_no_request p s true now ≡ says_token p s 0 now
asked-no_request p s now =
    ap (λ (b : Bool). if b then says_look p s (next_asked s.address (next_station s) p.hsa (last_asked s.gap)) now else says_token p s 0 now)
    (and-false (may_low s.rotation now) _ refl)

pub asked-once : (p : Params) (s : Station) (ready now : ℕ) → high_request s now ≡ None → low_request s now ≡ None
    → (phase_says p (record s { phase = Use true ready }) (Use true ready) now).1 ≡ Some (token_octets (next_station s) s.address)
asked-once p s ready now no_high no_low =
    let x = record s { phase = Use true ready } in
    ap (λ (turn : Station × Option (List ℕ)). turn.1)
    (ap (λ (o : Option RequestFields). says_high p x true o now) no_high
    ∙ ap (λ (o : Option RequestFields). says_low p x true o now) no_low
    ∙ asked-no_request p x now)

asking-token : (p : Params) (s : Station) (tries now : ℕ) → is_asking (says_token p s tries now).0.phase ≡ false
asking-token p s tries now =
    let x = saying s now (token_octets (next_station s) s.address) in
    by_test (λ (x : Station). is_asking x.phase ≡ false) (next_station s == s.address) (received_own p x) _ (λ _. refl) (λ _. refl)

asking-request : (p : Params) (s : Station) (asked : Bool) (r : RequestFields) (now : ℕ) → is_asking (says_request p s asked r now).0.phase ≡ false
asking-request p s asked r now = by_test (λ (x : Station). is_asking x.phase ≡ false) (is_answered r.service) _ _ (λ _. refl) (λ _. refl)

asking-low : (p : Params) (s : Station) (r : Option RequestFields) (now : ℕ) → is_asking (says_low p s true r now).0.phase ≡ false
asking-low p s None now =
    ap (λ (turn : Station × Option (List ℕ)). is_asking turn.0.phase) (asked-no_request p s now) ∙ asking-token p s 0 now
asking-low p s (Some r) now = asking-request p (low_taken s) true r now

asking-high : (p : Params) (s : Station) (r : Option RequestFields) (now : ℕ) → is_asking (says_high p s true r now).0.phase ≡ false
asking-high p s None now = asking-low p s (low_request s now) now
asking-high p s (Some r) now = asking-request p (high_taken s) true r now

-- one that has asked asks none again
pub asked-no_more : (p : Params) (s : Station) (ready now : ℕ) → is_asking (phase_says p (record s { phase = Use true ready }) (Use true ready) now).0.phase ≡ false
asked-no_more p s ready now = let x = record s { phase = Use true ready } in asking-high p x (high_request x now) now

-- ---- and its requests forget it not

pub asked-request : (p : Params) (s : Station) (r : RequestFields) (now : ℕ) → HasAsked (says_request p s true r now).0.phase
asked-request p s r now = by_test (λ (x : Station). HasAsked x.phase) (is_answered r.service) _ _ (λ _. refl) (λ _. refl)

asked-not_answered : (s : Station) (slot : Bool) (ready : ℕ) → HasAsked (not_answered s true slot ready).phase
asked-not_answered s slot ready = by_test (λ (x : Station). HasAsked x.phase) (is_some (retry_of s.cycles.initiator.pending)) _ _ (λ _. refl) (λ _. refl)

pub asked-silence : (s : Station) (retry : Option ℕ) (slot : Bool) (t : ℕ) → HasAsked (phase_timed_out s (AwaitData true retry slot) t).phase
asked-silence s retry slot t = asked-not_answered s false t

asked-data_told : (p : Params) (s : Station) (slot : Bool) (at : ℕ) (m : Message) (outcome : Option Outcome) → HasAsked (data_told p s true slot at m outcome).phase
asked-data_told p s slot at m (Some outcome) = refl
asked-data_told p s slot at m None = asked-not_answered s slot (max at s.own.end + p.tid1)

asked-data_hears : (p : Params) (s : Station) (slot : Bool) (at : ℕ) (a : Arrival) → HasAsked (awaiting_data_hears p s true slot at a).phase
asked-data_hears p s slot at (Token da sa) = tt
asked-data_hears p s slot at (Framed f) =
    by_test (λ (x : Station). HasAsked x.phase) (has_bit f.fc 6) (lost s) _ (λ _. tt)
    (λ _. asked-data_told p s slot at (message.Framed f) (outcome_of s.cycles.initiator (Some (message.Framed f))))
asked-data_hears p s slot at Acknowledgement = asked-data_told p s slot at message.Acknowledgement (outcome_of s.cycles.initiator (Some message.Acknowledgement))
asked-data_hears p s slot at NoTelegram = asked-not_answered s slot (max at s.own.end + p.tid1)

asked-data_phase : (p : Params) (s : Station) (ph : Phase) (m : Mark) (retry : Option ℕ) (slot : Bool) → ph ≡ AwaitData true retry slot
    → HasAsked (after_mark p (record s { phase = ph }) m).phase
asked-data_phase p s ph (Begin at seen) retry slot e = subst (λ (ph : Phase). HasAsked (after_mark p (record s { phase = ph }) (Begin at seen)).phase) (sym e) refl
asked-data_phase p s ph (End at seen chars) retry slot e =
    subst (λ (ph : Phase). HasAsked (after_mark p (record s { phase = ph }) (End at seen chars)).phase) (sym e)
    (asked-data_hears p (at_end (record s { phase = AwaitData true retry slot }) at) slot at (arrival_of chars))

pub asked-data_mark : (p : Params) (s : Station) (m : Mark) (retry : Option ℕ) (slot : Bool) → s.phase ≡ AwaitData true retry slot → HasAsked (after_mark p s m).phase
asked-data_mark p s m retry slot e = asked-data_phase p s s.phase m retry slot e

pub asked-again : (s : Station) (f : Option Fields) (now : ℕ) → HasAsked (says_again s true f now).0.phase
asked-again s None now = refl
asked-again s (Some f) now = refl

asked-told : (p : Params) (s : Station) (of at : ℕ) (fc : Option ℕ) → HasAsked (status_told p s of at fc).phase
asked-told p s of at None = refl
asked-told p s of at (Some fc) = refl

asked-hears : (p : Params) (s : Station) (of at : ℕ) (a : Arrival) → HasAsked (awaiting_status_hears p s of at a).phase
asked-hears p s of at (Token da sa) = tt
asked-hears p s of at (Framed f) =
    by_test (λ (x : Station). HasAsked x.phase) (has_bit f.fc 6) (lost s) _ (λ _. tt) (λ _. asked-told p s of at (status_reply s.address of (message.Framed f)))
asked-hears p s of at Acknowledgement = refl
asked-hears p s of at NoTelegram = refl

asked-phase : (p : Params) (s : Station) (ph : Phase) (m : Mark) (of : ℕ) (slot : Bool) → ph ≡ AwaitStatus of slot → HasAsked (after_mark p (record s { phase = ph }) m).phase
asked-phase p s ph (Begin at seen) of slot e = subst (λ (ph : Phase). HasAsked (after_mark p (record s { phase = ph }) (Begin at seen)).phase) (sym e) tt
asked-phase p s ph (End at seen chars) of slot e =
    subst (λ (ph : Phase). HasAsked (after_mark p (record s { phase = ph }) (End at seen chars)).phase) (sym e)
    (asked-hears p (at_end (record s { phase = AwaitStatus of slot }) at) of at (arrival_of chars))

pub asked-mark : (p : Params) (s : Station) (m : Mark) (of : ℕ) (slot : Bool) → s.phase ≡ AwaitStatus of slot → HasAsked (after_mark p s m).phase
asked-mark p s m of slot e = asked-phase p s s.phase m of slot e

-- ---- replies

pub says-not_ready : (p : Params) (s : Station) (doubled : Bool) (at : ℕ) (f : Fields) → asks_status s.address f ≡ true → is_complete s.las.stage ≡ false
    → (listening_hears p s doubled at (Framed f)).reply ≡ Some (status_reply_of p s at f 0x10 false)
says-not_ready p s doubled at f asks none =
    ap (λ (b : Bool). option_or (if b then status_answer p s at f ready_for_ring true else status_answer p s at f not_ready false) s.reply) none
    ∙ ap (λ (b : Bool). option_or (if b then Some (status_reply_of p s at f 0x10 false) else None) s.reply) asks

pub says-ready : (p : Params) (s : Station) (doubled : Bool) (at : ℕ) (f : Fields) → asks_status s.address f ≡ true → is_complete s.las.stage ≡ true
    → (listening_hears p s doubled at (Framed f)).reply ≡ Some (status_reply_of p s at f 0x20 true)
says-ready p s doubled at f asks complete =
    ap (λ (b : Bool). option_or (if b then status_answer p s at f ready_for_ring true else status_answer p s at f not_ready false) s.reply) complete
    ∙ ap (λ (b : Bool). option_or (if b then Some (status_reply_of p s at f 0x20 true) else None) s.reply) asks

status-asked : (t : ResponderTable) (ts station_type : ℕ) (f : Fields) (asked : Asked) → is_status asked ≡ true → (address_in f.da == ts) ≡ true
    → reply_to_asked t ts station_type f asked ≡ Some (reply_frame ts station_type f 0 [])
status-asked t ts station_type f (Send service priority) e here = absurd (let wrong : false ≡ true = e in cc)
status-asked t ts station_type f Status e here = ap (λ (b : Bool). if b then Some (reply_frame ts station_type f 0 []) else None) here
status-asked t ts station_type f Unknown e here = absurd (let wrong : false ≡ true = e in cc)

-- a station of some type that is asked for its status answers with it
says-status : (p : Params) (s : Station) (at : ℕ) (f : Fields) (station_type : ℕ) → asks_status s.address f ≡ true
    → answer_to p s at f station_type ≡ Some (waiting_reply p at (reply_frame s.address station_type f 0 []))
says-status p s at f station_type asks =
    let parts = and_parts (has_bit f.fc 6) _ asks in
    let more = and_parts (is_status (asked_by (f.fc % 16))) _ parts.1 in
    ap (option_map (waiting_reply p at))
    (ap (λ (b : Bool). if b then reply_to_asked s.cycles.responder s.address station_type f (asked_by (f.fc % 16)) else None) parts.0
    ∙ status-asked s.cycles.responder s.address station_type f (asked_by (f.fc % 16)) more.0 more.1)

pub says-in_ring : (p : Params) (s : Station) (refused : Option ℕ) (at : ℕ) (f : Fields) → asks_status s.address f ≡ true
    → (idle_hears p s refused at (Framed f)).reply ≡ Some (status_reply_of p s at f 0x30 false)
says-in_ring p s refused at f asks = ap (λ (o : Option Reply). option_or o s.reply) (says-status p s at f in_ring asks)

pub says-passive : (p : Params) (s : Station) (at : ℕ) (f : Fields) → asks_status s.address f ≡ true
    → (passive_hears p s at (Framed f)).reply ≡ Some (status_reply_of p s at f 0x00 false)
says-passive p s at f asks = ap (λ (o : Option Reply). option_or o s.reply) (says-status p s at f passive asks)

pub request-heard : (p : Params) (s : Station) (of at : ℕ) (f : Fields) → has_bit f.fc 6 ≡ true → (awaiting_status_hears p s of at (Framed f)).phase ≡ Idle None
request-heard p s of at f asks =
    ap (λ (b : Bool). (if b then lost s else status_told p s of at (status_reply s.address of (message.Framed f))).phase) asks

pub request-heard-data : (p : Params) (s : Station) (asked slot : Bool) (at : ℕ) (f : Fields) → has_bit f.fc 6 ≡ true
    → awaiting_data_hears p s asked slot at (Framed f) ≡ record s { phase = Idle None }
request-heard-data p s asked slot at f asks =
    ap (λ (b : Bool). if b then lost s else data_told p s asked slot at (message.Framed f) (outcome_of s.cycles.initiator (Some (message.Framed f)))) asks

-- ---- tokens

own : (n : ℕ) → (n == n) ≡ true
own n = eq-eqb n n refl

own-heard : (p : Params) (s : Station) (refused : Option ℕ) (at sa : ℕ)
    → token_in_idle p s refused at s.address sa ≡ own_token p (with_token s s.address sa) (is_taken_from refused (previous_station s) sa) sa at
own-heard p s refused at sa =
    ap (λ (b : Bool). if b then own_token p (with_token s s.address sa) (is_taken_from refused (previous_station s) sa) sa at else foreign_token (with_token s s.address sa)) (own s.address)

pub refused-remembered : (p : Params) (s : Station) (refused : Option ℕ) (at sa : ℕ) → is_taken_from refused (previous_station s) sa ≡ false
    → (idle_hears p s refused at (Token s.address sa)).phase ≡ Idle (Some sa)
refused-remembered p s refused at sa not =
    ap (λ (x : Station). x.phase) (own-heard p s refused at sa) ∙ ap (λ (b : Bool). (own_token p (with_token s s.address sa) b sa at).phase) not

pub offered-again : (p : Params) (s : Station) (at sa : ℕ) → (idle_hears p s (Some sa) at (Token s.address sa)).phase ≡ Use false (at + p.tid1)
offered-again p s at sa =
    ap (λ (x : Station). x.phase) (own-heard p s (Some sa) at sa)
    ∙ ap (λ (b : Bool). (own_token p (with_token s s.address sa) b sa at).phase) (or-true (sa == previous_station s) (sa == sa) (own sa))

pub namesake-first : (p : Params) (s : Station) (at da : ℕ) → (listening_hears p s false at (Token da s.address)).phase ≡ Listening true
namesake-first p s at da = ap (λ (b : Bool). if b then Listening true else Listening false) (own s.address)

pub namesake-second : (p : Params) (s : Station) (at da : ℕ) → (listening_hears p s true at (Token da s.address)).phase ≡ Offline
namesake-second p s at da = ap (λ (b : Bool). if b then Offline else Listening true) (own s.address)

foreign-heard : (p : Params) (s : Station) (refused : Option ℕ) (at da sa : ℕ) → (da == s.address) ≡ false → idle_hears p s refused at (Token da sa) ≡ foreign_token (with_token s da sa)
foreign-heard p s refused at da sa other =
    ap (λ (b : Bool). if b then own_token p (with_token s da sa) (is_taken_from refused (previous_station s) sa) sa at else foreign_token (with_token s da sa)) other

pub skipped-twice : (p : Params) (s : Station) (refused : Option ℕ) (at da sa : ℕ) → (da == s.address) ≡ false → 2 ≤ skips_of (place_of (heard s.las sa da).stage)
    → idle_hears p s refused at (Token da sa) ≡ record s { phase = Listening false; las = listening; reply = None }
skipped-twice p s refused at da sa other twice =
    let x = with_token s da sa in
    foreign-heard p s refused at da sa other
    ∙ ap (λ (b : Bool). if b then record x { phase = Listening false; las = listening; reply = None } else x) (le-leb 2 (skips_of (place_of (heard s.las sa da).stage)) twice)

pub skipped-once : (p : Params) (s : Station) (refused : Option ℕ) (at da sa : ℕ) → (da == s.address) ≡ false → skips_of (place_of (heard s.las sa da).stage) < 2
    → idle_hears p s refused at (Token da sa) ≡ record s { las = heard s.las sa da }
skipped-once p s refused at da sa other once =
    let x = with_token s da sa in
    foreign-heard p s refused at da sa other
    ∙ ap (λ (b : Bool). if b then record x { phase = Listening false; las = listening; reply = None } else x) (lt-leb 2 (skips_of (place_of (heard s.las sa da).stage)) once)
