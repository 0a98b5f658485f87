-- A station's tables stand for what it has heard, done, asked and received.
use Rattle.std.proofs.Common.{◌≡◌, ◌∙◌, ℕ, ◌+◌, ◌<◌, ◌≤◌, ◌==◌, ◌&&◌, List, [], ◌∷◌, ◌++◌, Bool, true, false, refl, ap, sym, subst, arith, Option, Some, None}
use Rattle.std.specs.Prelude.{IfSome, is_some, max, nat_le, nat_lt, slice_index, unwrap_or}
use Rattle.std.proofs.lemmas.Bool.{ltb-false, or_parts}
use Rattle.pb_faults.proofs.FirstFaults.{none_holds}
use Rattle.pb_telegram.specs.Faults.{octets, is_token, has_control, faults, fault_of, has_bad_address}
use Rattle.pb_telegram.specs.declared.chars.RxChar.{RxChar}
use Rattle.pb_telegram.specs.declared.faults.TelegramFault.{TelegramFault}
use Rattle.pb_timers.specs.Timers.{Params}
use Rattle.pb_ring.specs.AddressSets.{first_of, from_behind, next_address}
use Rattle.pb_ring.specs.Gap.{next_asked, last_asked, round_after}
use Rattle.pb_ring.specs.Las as las
use Rattle.pb_ring.specs.Las.{LasTable, members_of, place_of, skips_of}
use Rattle.pb_ring.specs.LasList as las_list
use Rattle.pb_ring.specs.LasList.{Item, Enters, Leaves, Joins, StandsFor}
use Rattle.pb_ring.proofs.GapRounds.{asks-gap, look-more, member-behind, member-first}
use Rattle.pb_ring.proofs.GapShares.{gap-highest}
use Rattle.pb_ring.proofs.NeighbourLemmas.{members-stations}
use Rattle.pb_ring.proofs.StandsForLemmas.{stands_for-more, listening-stands, claimed-stands}
use Rattle.pb_rotation.specs.Rotation as rotation
use Rattle.pb_rotation.specs.Rotation.{fresh, received}
use Rattle.pb_rotation.proofs.Standing.{stands-received, stands-started_high}
use Rattle.pb_rotation.specs.Receipts.{StartedHigh}
use Rattle.pb_cycles.specs.Fields.{Fields}
use Rattle.pb_cycles.specs.Messages.{has_bit}
use Rattle.pb_cycles.specs.RequestFields.{RequestFields}
use Rattle.pb_cycles.specs.Requests.{is_answered}
use Rattle.pb_cycles.specs.declared.messages.Message.{Message}
use Rattle.pb_cycles.specs.declared.messages.Message.TheVariants as message
use Rattle.pb_cycles.proofs.Acting.{requested}
use Rattle.pb_cycles.proofs.Hearing.{heard-more}
use Rattle.pb_cycles.proofs.NewestActs.{reverse-more}
use Rattle.pb_cycles.specs.Acts.{Resent, Closed}
use Rattle.pb_cycles.specs.Initiating.{retry_of, outcome_of}
use Rattle.pb_cycles.specs.Outcomes.{status_reply}
use Rattle.pb_cycles.specs.Tables.{InitiatorTable}
use Rattle.pb_cycles.specs.declared.outcomes.Outcome.{Outcome}
use Rattle.law_turn.specs.Arrivals.{Arrival, Token, Framed, Acknowledgement, NoTelegram, arrival_of, arrival_unless, fields_of}
use Rattle.law_turn.specs.Hearing.{asked_station, outcome_at, cycle_closed, not_answered, answering, passive, in_ring, passive_hears, data_told, awaiting_data_hears, phase_timed_out, timed_out, after_timer, tries_limit, phase_begun, doubled_by, listening_hears, taking, is_taken_from, skips_limit, token_in_idle, idle_hears, holder_hears, tells_ready, status_told, awaiting_status_hears, with_token, lost, phase_ended, heard, after_mark}
use Rattle.law_turn.specs.Laws.{IsRequest, HasCycles}
use Rattle.law_turn.specs.Marks.{Mark, Begin, End, moment_of}
use Rattle.law_turn.specs.Pasts as past
use Rattle.law_turn.specs.Pasts.{Past, nothing, with_item, with_look, with_receipt, with_act, with_outcome, with_heard, past_not_answered, past_data_told, past_awaiting_data, past_passive_hears, past_no_request, past_request, past_low, past_high, past_again, phase_past_timed_out, past_timed_out, past_after_timer, past_in_idle, past_idle_hears, past_hears, past_told, past_awaiting_status, phase_past_ended, past_heard, past_after_mark, past_after_marks, past_token_sent, past_look, past_in_use, past_ready, phase_past_says, past_speech, past_after_turn, newest_outcome, AsksStation, StandsForPast, IsOfStations}
use Rattle.law_turn.specs.Phases.{Phase, Offline, PassiveIdle, Listening, Idle, Claim, Use, AwaitData, AwaitStatus, Pass, Checking, is_offline}
use Rattle.law_turn.specs.Stations.{Station, Reply, timer_of, speaks_at, next_station, previous_station, started, stopped, pushed}
use Rattle.law_turn.specs.Turns.{after_marks, settled, saying, received_own, says_token, looks_at_gap, says_look, says_no_request, high_request, low_request, high_taken, low_taken, says_request, says_low, says_high, says_again, replying, joining, says_reply, says_ready, phase_says, speech, turn_of, token_octets}
use Rattle.law_turn.proofs.Cases.{by_test, by_one_test}
use Rattle.law_turn.proofs.Acts.{Closes, closes, closed-retries, request-retries, sent-outcome, resent, fresh-initiator}
use Rattle.law_turn.proofs.Initiating.{reply-after_timer, reply-after_mark, reply-after_marks, reply-settled}
use Rattle.law_turn.proofs.Keeping.{Sayable, high-request, low-request}
use Rattle.law_turn.proofs.Paths.{at_end, phase-doubled}

-- ---- addresses

not_and : (a b : Bool) → (a && b) ≡ false → a ≡ true → b ≡ false
not_and true b e holds = e
not_and false b e holds = absurd (let wrong : false ≡ true = holds in cc)

-- a token without a fault has addresses of stations
token-stations : (xs : List ℕ) → has_bad_address xs ≡ false → is_token xs ≡ true → (slice_index xs 1 < 127) × (slice_index xs 2 < 127)
token-stations xs none token =
    let bad = not_and (is_token xs) _ (or_parts _ _ none).0 token in
    let both = or_parts (nat_lt 126 (slice_index xs 1)) (nat_lt 126 (slice_index xs 2)) bad in
    (omega (arith, ltb-false 126 (slice_index xs 1) both.0), omega (arith, ltb-false 126 (slice_index xs 2) both.1))

pub stations-arrival : (chars : List RxChar) → IsOfStations (arrival_of chars)
stations-arrival chars = by_fault (fault_of chars) refl
  where
    by_fault : (o : Option TelegramFault) → fault_of chars ≡ o → IsOfStations (arrival_unless o (octets chars))
    by_fault (Some fault) e = tt
    by_fault None e =
        let xs = octets chars in
        by_test IsOfStations (is_token xs) (Token (slice_index xs 1) (slice_index xs 2)) _
        (λ token. token-stations xs (none_holds (faults chars) e).1.1.1.1.1.1.1.0 token)
        (λ _. by_test IsOfStations (has_control xs) (Framed (fields_of xs)) Acknowledgement (λ _. tt) (λ _. tt))

-- the next station has the address of a station
next-station : (t : LasTable) (claim : Option ℕ) (items : List Item) (ts : ℕ) → StandsFor t claim items → ts < 127 → next_address ts (members_of t.stage) < 127
next-station t claim items ts stands own = by_first (first_of (from_behind ts (members_of t.stage))) refl
  where
    by_first : (o : Option ℕ) → first_of (from_behind ts (members_of t.stage)) ≡ o → unwrap_or o ts < 127
    by_first None e = own
    by_first (Some n) e =
        members-stations t claim items n stands (sym (member-behind ts (members_of t.stage) n) ∙ member-first (from_behind ts (members_of t.stage)) n e)

-- ---- tables

fresh-stands : (ttr own : ℕ) → own ≡ ttr → rotation.StandsFor ttr (fresh own) []
fresh-stands ttr own same = record { target = same; measured = refl; last = refl; high = tt }

stands-token : {p : Params} (s : Station) (h : Past) (da sa : ℕ) → da < 127 → sa < 127 → StandsForPast p s h → StandsForPast p (with_token s da sa) (past.with_token h da sa)
stands-token s h da sa d a stands = record {
  address = stands.address;
  asks = stands.asks;
  las = stands_for-more s.las h.claim h.items (las_list.Token sa da) (a, d) stands.las;
  gap = stands.gap;
  rotation = stands.rotation;
  initiator = stands.initiator;
  retries = stands.retries;
  outcome = stands.outcome;
  responder = stands.responder;
}

-- a station in another phase
in_phase : {p : Params} (s : Station) (h : Past) (ph : Phase) → AsksStation ph → StandsForPast p s h → StandsForPast p (record s { phase = ph }) h
in_phase s h ph asks stands = record { address = stands.address; asks = asks; las = stands.las; gap = stands.gap; rotation = stands.rotation; initiator = stands.initiator; retries = stands.retries; outcome = stands.outcome; responder = stands.responder }

-- with another reply
with_reply : {p : Params} (s : Station) (h : Past) (reply : Option Reply) → StandsForPast p s h → StandsForPast p (record s { reply = reply }) h
with_reply s h reply stands = record { address = stands.address; asks = stands.asks; las = stands.las; gap = stands.gap; rotation = stands.rotation; initiator = stands.initiator; retries = stands.retries; outcome = stands.outcome; responder = stands.responder }

-- that holds the token from a moment on
with_token_from : {p : Params} (s : Station) (h : Past) (at ready : ℕ) → StandsForPast p s h
    → StandsForPast p (record s { phase = Use false ready; rotation = received s.rotation at }) (with_receipt h at)
with_token_from s h at ready stands = record {
  address = stands.address;
  asks = tt;
  las = stands.las;
  gap = stands.gap;
  rotation = stands-received _ s.rotation h.happenings at stands.rotation;
  initiator = stands.initiator;
  retries = stands.retries;
  outcome = stands.outcome;
  responder = stands.responder;
}

-- ---- message cycles

-- a cycle is closed by an outcome, if there is one
stands-closes : {p : Params} (s : Station) (h : Past) (ph : Phase) (t : InitiatorTable) (of : Option ℕ) (outcome : Option Outcome)
    → AsksStation ph → t.retries ≡ p.retries → Closes t h.acts of outcome → StandsForPast p s h
    → StandsForPast p (record s { phase = ph; cycles = record s.cycles { initiator = t; last_outcome = outcome_at of outcome s.cycles.last_outcome } }) (with_outcome h of outcome)
stands-closes s h ph t None None asks retries closes stands =
    record { address = stands.address; asks = asks; las = stands.las; gap = stands.gap; rotation = stands.rotation; initiator = closes; retries = retries; outcome = stands.outcome; responder = stands.responder }
stands-closes s h ph t None (Some outcome) asks retries closes stands =
    record { address = stands.address; asks = asks; las = stands.las; gap = stands.gap; rotation = stands.rotation; initiator = closes; retries = retries; outcome = stands.outcome; responder = stands.responder }
stands-closes s h ph t (Some of) None asks retries closes stands =
    record { address = stands.address; asks = asks; las = stands.las; gap = stands.gap; rotation = stands.rotation; initiator = closes; retries = retries; outcome = stands.outcome; responder = stands.responder }
stands-closes s h ph t (Some of) (Some outcome) asks retries closes stands =
    record { address = stands.address; asks = asks; las = stands.las; gap = stands.gap; rotation = stands.rotation; initiator = closes; retries = retries; outcome = sym (ap newest_outcome (reverse-more h.acts (Closed of outcome))); responder = stands.responder }

stands-cycle_closed : {p : Params} (s : Station) (h : Past) (ph : Phase) (m : Option Message) → AsksStation ph → HasCycles s → StandsForPast p s h
    → StandsForPast p (record s { phase = ph; cycles = cycle_closed s.cycles m }) (with_outcome h (asked_station s.cycles.initiator.pending) (outcome_of s.cycles.initiator m))
stands-cycle_closed s h ph m asks has stands =
    stands-closes s h ph _ (asked_station s.cycles.initiator.pending) (outcome_of s.cycles.initiator m) asks (closed-retries s.cycles.initiator m ∙ stands.retries) (closes s.cycles.initiator h.acts m stands.initiator has.pending) stands

stands-not_answered : {p : Params} (s : Station) (asked slot : Bool) (ready : ℕ) (h : Past) → HasCycles s → StandsForPast p s h
    → StandsForPast p (not_answered s asked slot ready) (past_not_answered s h)
stands-not_answered s asked slot ready h has stands =
    by_one_test (StandsForPast _) (is_some (retry_of s.cycles.initiator.pending)) _ _ h _
    (λ _. in_phase s h (AwaitData asked (Some ready) slot) tt stands) (λ _. stands-cycle_closed s h (Use asked ready) None tt has stands)

-- the station hears a request as a responder
stands-answering : (p : Params) (s : Station) (at : ℕ) (f : Fields) (station_type : ℕ) (h : Past) → StandsForPast p s h
    → StandsForPast p (answering p s at f station_type) (with_heard h station_type f)
stands-answering p s at f station_type h stands = record {
  address = stands.address;
  asks = stands.asks;
  las = stands.las;
  gap = stands.gap;
  rotation = stands.rotation;
  initiator = stands.initiator;
  retries = stands.retries;
  outcome = stands.outcome;
  responder = heard-more s.address station_type s.cycles.responder h.heard (message.Framed f) stands.responder;
}

-- ---- timers

stands-timed_out : {p : Params} (s : Station) (ph : Phase) (t : ℕ) (h : Past) → HasCycles s → StandsForPast p (record s { phase = ph }) h
    → StandsForPast p (phase_timed_out (record s { phase = ph }) ph t) (phase_past_timed_out (record s { phase = ph }) ph h)
stands-timed_out s Offline t h has stands = stands
stands-timed_out s PassiveIdle t h has stands = stands
stands-timed_out s (Listening doubled) t h has stands =
    record { address = stands.address; asks = tt; las = claimed-stands s.address stands.address; gap = refl; rotation = fresh-stands _ s.rotation.ttr stands.rotation.target; initiator = stands.initiator; retries = stands.retries; outcome = stands.outcome; responder = stands.responder }
stands-timed_out s (Idle refused) t h has stands =
    record { address = stands.address; asks = tt; las = claimed-stands s.address stands.address; gap = refl; rotation = fresh-stands _ s.rotation.ttr stands.rotation.target; initiator = stands.initiator; retries = stands.retries; outcome = stands.outcome; responder = stands.responder }
stands-timed_out s (Claim sent ready) t h has stands = stands
stands-timed_out s (Use asked ready) t h has stands = stands
stands-timed_out s (AwaitData asked retry slot) t h has stands = stands-not_answered (record s { phase = AwaitData asked retry slot }) asked false t h has stands
stands-timed_out s (AwaitStatus of slot) t h has stands = in_phase (record s { phase = AwaitStatus of slot }) h (Use true t) tt stands
stands-timed_out s (Pass tries ready) t h has stands = stands
stands-timed_out s (Checking tries) t h has stands =
    let x = record s { phase = Checking tries } in
    by_one_test (StandsForPast _) (nat_le tries_limit tries) _ _ (with_item h (Leaves (next_station x))) h
    (λ _. record {
      address = stands.address;
      asks = tt;
      las = stands_for-more s.las h.claim h.items (Leaves (next_station x)) (next-station s.las h.claim h.items s.address stands.las stands.address) stands.las;
      gap = stands.gap;
      rotation = stands.rotation;
      initiator = stands.initiator;
      retries = stands.retries;
      outcome = stands.outcome;
      responder = stands.responder;
    })
    (λ _. in_phase x h (Pass tries t) tt stands)

pub stands-after_timer : (p : Params) (limit : ℕ) (s : Station) (h : Past) → HasCycles s → StandsForPast p s h → StandsForPast p (after_timer p limit s) (past_after_timer p limit s h)
stands-after_timer p limit s h has stands = by_timer (timer_of p s)
  where
    by_timer : (o : Option ℕ) → StandsForPast p (timed_out s o limit) (past_timed_out s o limit h)
    by_timer None = stands
    by_timer (Some t) =
        by_one_test (StandsForPast p) (nat_lt t limit) (phase_timed_out s s.phase t) s (phase_past_timed_out s s.phase h) h
        (λ _. stands-timed_out s s.phase t h has stands) (λ _. stands)

-- ---- marks

asks-begun : (ph : Phase) (own at : ℕ) → AsksStation ph → AsksStation (phase_begun ph own at)
asks-begun Offline own at asks = tt
asks-begun PassiveIdle own at asks = tt
asks-begun (Listening doubled) own at asks = tt
asks-begun (Idle refused) own at asks = tt
asks-begun (Claim sent ready) own at asks = tt
asks-begun (Use asked ready) own at asks = tt
asks-begun (AwaitData asked retry slot) own at asks = tt
asks-begun (AwaitStatus of slot) own at asks = asks
asks-begun (Pass tries ready) own at asks = tt
asks-begun (Checking tries) own at asks = by_test AsksStation (nat_lt at own) (Checking tries) (Idle None) (λ _. tt) (λ _. tt)

stands-token_in_idle : (p : Params) (s : Station) (refused : Option ℕ) (at da sa : ℕ) (h : Past) → da < 127 → sa < 127 → StandsForPast p s h
    → StandsForPast p (token_in_idle p s refused at da sa) (past_in_idle s refused at da sa h)
stands-token_in_idle p s refused at da sa h d a stands =
    let x = with_token s da sa in
    let k = past.with_token h da sa in
    let heard = stands-token s h da sa d a stands in
    by_one_test (StandsForPast p) (da == s.address) _ _ _ _
    (λ _. by_one_test (StandsForPast p) (is_taken_from refused (previous_station s) sa) (taking p x at) _ (with_receipt k at) k
    (λ _. with_token_from x k at (at + p.tid1) heard)
    (λ _. in_phase x k (Idle (Some sa)) tt heard))
    (λ _. by_one_test (StandsForPast p) (nat_le skips_limit (skips_of (place_of x.las.stage))) _ x (record h { claim = None; items = [] }) k
    (λ _. record { address = stands.address; asks = tt; las = listening-stands; gap = stands.gap; rotation = stands.rotation; initiator = stands.initiator; retries = stands.retries; outcome = stands.outcome; responder = stands.responder })
    (λ _. heard))

stands-idle_hears : (p : Params) (s : Station) (refused : Option ℕ) (at : ℕ) (a : Arrival) (h : Past) → IsOfStations a → StandsForPast p s h
    → StandsForPast p (idle_hears p s refused at a) (past_idle_hears s refused at a h)
stands-idle_hears p s refused at (Token da sa) h of stands = stands-token_in_idle p s refused at da sa h of.0 of.1 stands
stands-idle_hears p s refused at (Framed f) h of stands = stands-answering p s at f in_ring h stands
stands-idle_hears p s refused at Acknowledgement h of stands = stands
stands-idle_hears p s refused at NoTelegram h of stands = stands

stands-listening_hears : (p : Params) (s : Station) (doubled : Bool) (at : ℕ) (a : Arrival) (h : Past) → IsOfStations a → StandsForPast p s h
    → StandsForPast p (listening_hears p s doubled at a) (past_hears a h)
stands-listening_hears p s doubled at (Token da sa) h of stands =
    in_phase (with_token s da sa) (past.with_token h da sa) (doubled_by doubled sa s.address) (phase-doubled AsksStation doubled sa s.address tt (λ _. tt))
    (stands-token s h da sa of.0 of.1 stands)
stands-listening_hears p s doubled at (Framed f) h of stands = with_reply s h _ stands
stands-listening_hears p s doubled at Acknowledgement h of stands = stands
stands-listening_hears p s doubled at NoTelegram h of stands = stands

stands-holder_hears : {p : Params} (s : Station) (a : Arrival) (h : Past) → IsOfStations a → StandsForPast p s h → StandsForPast p (holder_hears s a) (past_hears a h)
stands-holder_hears s (Token da sa) h of stands = stands-token s h da sa of.0 of.1 stands
stands-holder_hears s (Framed f) h of stands = stands
stands-holder_hears s Acknowledgement h of stands = stands
stands-holder_hears s NoTelegram h of stands = stands

stands-status_told : (p : Params) (s : Station) (asked at : ℕ) (fc : Option ℕ) (h : Past) → asked < 127 → StandsForPast p s h
    → StandsForPast p (status_told p s asked at fc) (past_told asked fc h)
stands-status_told p s asked at None h station stands = in_phase s h _ tt stands
stands-status_told p s asked at (Some fc) h station stands =
    by_one_test (λ (l : LasTable) (k : Past). StandsForPast p (record s { phase = Use true (at + p.tid1); las = l }) k) (tells_ready fc)
    (las.entered s.las asked) s.las (with_item h (Enters asked)) h
    (λ _. record {
      address = stands.address;
      asks = tt;
      las = stands_for-more s.las h.claim h.items (Enters asked) station stands.las;
      gap = stands.gap;
      rotation = stands.rotation;
      initiator = stands.initiator;
      retries = stands.retries;
      outcome = stands.outcome;
      responder = stands.responder;
    })
    (λ _. in_phase s h (Use true (at + p.tid1)) tt stands)

stands-awaiting : (p : Params) (s : Station) (asked at : ℕ) (a : Arrival) (h : Past) → asked < 127 → IsOfStations a → StandsForPast p s h
    → StandsForPast p (awaiting_status_hears p s asked at a) (past_awaiting_status s asked a h)
stands-awaiting p s asked at (Token da sa) h station of stands =
    in_phase (with_token s da sa) (past.with_token h da sa) (Idle None) tt (stands-token s h da sa of.0 of.1 stands)
stands-awaiting p s asked at (Framed f) h station of stands =
    by_one_test (StandsForPast p) (has_bit f.fc 6) (lost s) _ h _
    (λ _. in_phase s h (Idle None) tt stands)
    (λ _. stands-status_told p s asked at (status_reply s.address asked (message.Framed f)) h station stands)
stands-awaiting p s asked at Acknowledgement h station of stands = in_phase s h _ tt stands
stands-awaiting p s asked at NoTelegram h station of stands = in_phase s h _ tt stands

stands-passive_hears : (p : Params) (s : Station) (at : ℕ) (a : Arrival) (h : Past) → StandsForPast p s h → StandsForPast p (passive_hears p s at a) (past_passive_hears a h)
stands-passive_hears p s at (Token da sa) h stands = stands
stands-passive_hears p s at (Framed f) h stands = stands-answering p s at f passive h stands
stands-passive_hears p s at Acknowledgement h stands = stands
stands-passive_hears p s at NoTelegram h stands = stands

stands-data_told : (p : Params) (s : Station) (asked slot : Bool) (at : ℕ) (m : Message) (outcome : Option Outcome) (h : Past) → outcome_of s.cycles.initiator (Some m) ≡ outcome
    → HasCycles s → StandsForPast p s h → StandsForPast p (data_told p s asked slot at m outcome) (past_data_told s outcome h)
stands-data_told p s asked slot at m None h e has stands = stands-not_answered s asked slot (max at s.own.end + p.tid1) h has stands
stands-data_told p s asked slot at m (Some outcome) h e has stands =
    subst (λ (o : Option Outcome). StandsForPast p (record s { phase = Use asked (at + p.tid1); cycles = cycle_closed s.cycles (Some m) }) (with_outcome h (asked_station s.cycles.initiator.pending) o)) e
    (stands-cycle_closed s h (Use asked (at + p.tid1)) (Some m) tt has stands)

stands-awaiting_data : (p : Params) (s : Station) (asked slot : Bool) (at : ℕ) (a : Arrival) (h : Past) → IsOfStations a → HasCycles s → StandsForPast p s h
    → StandsForPast p (awaiting_data_hears p s asked slot at a) (past_awaiting_data s a h)
stands-awaiting_data p s asked slot at (Token da sa) h of has stands =
    in_phase (with_token s da sa) (past.with_token h da sa) (Idle None) tt (stands-token s h da sa of.0 of.1 stands)
stands-awaiting_data p s asked slot at (Framed f) h of has stands =
    by_one_test (StandsForPast p) (has_bit f.fc 6) (lost s) _ h _
    (λ _. in_phase s h (Idle None) tt stands)
    (λ _. stands-data_told p s asked slot at (message.Framed f) (outcome_of s.cycles.initiator (Some (message.Framed f))) h refl has stands)
stands-awaiting_data p s asked slot at Acknowledgement h of has stands =
    stands-data_told p s asked slot at message.Acknowledgement (outcome_of s.cycles.initiator (Some message.Acknowledgement)) h refl has stands
stands-awaiting_data p s asked slot at NoTelegram h of has stands = stands-not_answered s asked slot (max at s.own.end + p.tid1) h has stands

stands-ended : (p : Params) (s : Station) (ph : Phase) (at : ℕ) (a : Arrival) (h : Past) → IsOfStations a → HasCycles s → StandsForPast p (record s { phase = ph }) h
    → StandsForPast p (phase_ended p (record s { phase = ph }) ph at a) (phase_past_ended (record s { phase = ph }) ph at a h)
stands-ended p s Offline at a h of has stands = stands
stands-ended p s PassiveIdle at a h of has stands = stands-passive_hears p (record s { phase = PassiveIdle }) at a h stands
stands-ended p s (Listening doubled) at a h of has stands = stands-listening_hears p (record s { phase = Listening doubled }) doubled at a h of stands
stands-ended p s (Idle refused) at a h of has stands = stands-idle_hears p (record s { phase = Idle refused }) refused at a h of stands
stands-ended p s (Claim sent ready) at a h of has stands = stands-holder_hears (record s { phase = Claim sent ready }) a h of stands
stands-ended p s (Use asked ready) at a h of has stands = stands-holder_hears (record s { phase = Use asked ready }) a h of stands
stands-ended p s (AwaitData asked retry slot) at a h of has stands = stands-awaiting_data p (record s { phase = AwaitData asked retry slot }) asked slot at a h of has stands
stands-ended p s (AwaitStatus asked slot) at a h of has stands = stands-awaiting p (record s { phase = AwaitStatus asked slot }) asked at a h stands.asks of stands
stands-ended p s (Pass tries ready) at a h of has stands = stands-holder_hears (record s { phase = Pass tries ready }) a h of stands
stands-ended p s (Checking tries) at a h of has stands = stands-holder_hears (record s { phase = Checking tries }) a h of stands

stands-heard : (p : Params) (s : Station) (m : Mark) (h : Past) → HasCycles s → StandsForPast p s h → StandsForPast p (heard p s m) (past_heard s m h)
stands-heard p s (Begin at seen) h has stands =
    record { address = stands.address; asks = asks-begun s.phase s.own.begin at stands.asks; las = stands.las; gap = stands.gap; rotation = stands.rotation; initiator = stands.initiator; retries = stands.retries; outcome = stands.outcome; responder = stands.responder }
stands-heard p s (End at seen chars) h has stands =
    stands-ended p (at_end s at) s.phase at (arrival_of chars) h (stations-arrival chars) has
    (record { address = stands.address; asks = stands.asks; las = stands.las; gap = stands.gap; rotation = stands.rotation; initiator = stands.initiator; retries = stands.retries; outcome = stands.outcome; responder = stands.responder })

stands-after_mark : (p : Params) (s : Station) (m : Mark) (h : Past) → HasCycles s → StandsForPast p s h → StandsForPast p (after_mark p s m) (past_after_mark s m h)
stands-after_mark p s m h has stands =
    by_one_test (StandsForPast p) (is_offline s.phase) s (heard p s m) h (past_heard s m h) (λ _. stands) (λ _. stands-heard p s m h has stands)

pub stands-after_marks : (p : Params) (s : Station) (marks : List Mark) (h : Past) → Sayable s → StandsForPast p s h
    → StandsForPast p (after_marks p s marks) (past_after_marks p s marks h)
stands-after_marks p s [] h has stands = stands
stands-after_marks p s (m ∷ marks) h has stands =
    let x = after_timer p (moment_of m) s in
    let k = past_after_timer p (moment_of m) s h in
    let timed = reply-after_timer p (moment_of m) s has in
    stands-after_marks p (after_mark p x m) marks (past_after_mark x m k) (reply-after_mark p x m timed)
    (stands-after_mark p x m k timed.1 (stands-after_timer p (moment_of m) s h has.1 stands))

-- ---- speech

saying-stands : {p : Params} (s : Station) (now : ℕ) (octets : List ℕ) (h : Past) → StandsForPast p s h → StandsForPast p (saying s now octets) h
saying-stands s now octets h stands = record { address = stands.address; asks = stands.asks; las = stands.las; gap = stands.gap; rotation = stands.rotation; initiator = stands.initiator; retries = stands.retries; outcome = stands.outcome; responder = stands.responder }

stands-says_token : (p : Params) (s : Station) (tries now : ℕ) (h : Past) → StandsForPast p s h
    → StandsForPast p (says_token p s tries now).0 (past_token_sent s (next_station s) now h)
stands-says_token p s tries now h stands =
    let x = saying s now (token_octets (next_station s) s.address) in
    let said = saying-stands s now (token_octets (next_station s) s.address) h stands in
    by_one_test (StandsForPast p) (next_station s == s.address) (received_own p x) _ (with_receipt h (now + 33)) h
    (λ _. with_token_from x h (now + 33) (now + 33 + p.tid1) said) (λ _. in_phase x h _ tt said)

stands-says_look : (p : Params) (s : Station) (next : Option ℕ) (now : ℕ) (h : Past) → p.hsa < 127
    → next_asked s.address (next_station s) p.hsa (last_asked s.gap) ≡ next → StandsForPast p s h
    → StandsForPast p (says_look p s next now).0 (past_look s next now h)
stands-says_look p s None now h highest e stands =
    stands-says_token p (record s { gap = round_after None now }) 0 now (with_look h _)
    (record { address = stands.address; asks = stands.asks; las = stands.las; gap = look-more h.looks None now; rotation = stands.rotation; initiator = stands.initiator; retries = stands.retries; outcome = stands.outcome; responder = stands.responder })
stands-says_look p s (Some a) now h highest e stands =
    let in_range : a ≤ p.hsa = gap-highest s.address (next_station s) p.hsa a (asks-gap s.address (next_station s) p.hsa a (last_asked s.gap) e) in
    record { address = stands.address; asks = omega (arith, in_range, highest); las = stands.las; gap = look-more h.looks (Some a) now; rotation = stands.rotation; initiator = stands.initiator; retries = stands.retries; outcome = stands.outcome; responder = stands.responder }

stands-no_request : (p : Params) (s : Station) (asked : Bool) (now : ℕ) (h : Past) → p.hsa < 127 → StandsForPast p s h
    → StandsForPast p (says_no_request p s asked now).0 (past_no_request p s asked now h)
stands-no_request p s asked now h highest stands =
    by_one_test (λ (turn : Station × Option (List ℕ)) (k : Past). StandsForPast p turn.0 k) (looks_at_gap p s asked now) _ _ _ _
    (λ _. stands-says_look p s (next_asked s.address (next_station s) p.hsa (last_asked s.gap)) now h highest refl stands)
    (λ _. stands-says_token p s 0 now h stands)

stands-says_request : (p : Params) (s : Station) (asked : Bool) (r : RequestFields) (now : ℕ) (h : Past) → IsRequest r → StandsForPast p s h
    → StandsForPast p (says_request p s asked r now).0 (past_request s r h)
stands-says_request p s asked r now h is stands =
    let more = requested s.cycles.initiator h.acts s.address r stands.initiator is.addressed in
    let outcome = stands.outcome ∙ sym (sent-outcome s.cycles.initiator s.address r h.acts) in
    by_test (λ (x : Station). StandsForPast p x (past_request s r h)) (is_answered r.service) _ _
    (λ _. record { address = stands.address; asks = tt; las = stands.las; gap = stands.gap; rotation = stands.rotation; initiator = more; retries = request-retries s.cycles.initiator s.address r ∙ stands.retries; outcome = outcome; responder = stands.responder })
    (λ _. record { address = stands.address; asks = tt; las = stands.las; gap = stands.gap; rotation = stands.rotation; initiator = more; retries = request-retries s.cycles.initiator s.address r ∙ stands.retries; outcome = outcome; responder = stands.responder })

stands-says_low : (p : Params) (s : Station) (asked : Bool) (r : Option RequestFields) (now : ℕ) (h : Past) → p.hsa < 127 → IfSome r IsRequest → StandsForPast p s h
    → StandsForPast p (says_low p s asked r now).0 (past_low p s asked r now h)
stands-says_low p s asked None now h highest is stands = stands-no_request p s asked now h highest stands
stands-says_low p s asked (Some r) now h highest is stands =
    stands-says_request p (low_taken s) asked r now h is
    (record { address = stands.address; asks = stands.asks; las = stands.las; gap = stands.gap; rotation = stands.rotation; initiator = stands.initiator; retries = stands.retries; outcome = stands.outcome; responder = stands.responder })

stands-says_high : (p : Params) (s : Station) (asked : Bool) (r : Option RequestFields) (now : ℕ) (h : Past) → p.hsa < 127 → HasCycles s → IfSome r IsRequest → StandsForPast p s h
    → StandsForPast p (says_high p s asked r now).0 (past_high p s asked r now h)
stands-says_high p s asked None now h highest has is stands = stands-says_low p s asked (low_request s now) now h highest (low-request s now has) stands
stands-says_high p s asked (Some r) now h highest has is stands =
    stands-says_request p (high_taken s) asked r now (record h { happenings = h.happenings ++ StartedHigh ∷ [] }) is
    (record {
      address = stands.address;
      asks = stands.asks;
      las = stands.las;
      gap = stands.gap;
      rotation = stands-started_high _ s.rotation h.happenings stands.rotation;
      initiator = stands.initiator;
      retries = stands.retries;
      outcome = stands.outcome;
      responder = stands.responder;
    })

stands-says_again : (p : Params) (s : Station) (asked : Bool) (f : Option Fields) (now : ℕ) (h : Past) → retry_of s.cycles.initiator.pending ≡ f → StandsForPast p s h
    → StandsForPast p (says_again s asked f now).0 (past_again f h)
stands-says_again p s asked None now h e stands = in_phase s h (AwaitData asked None false) tt stands
stands-says_again p s asked (Some f) now h e stands = record {
  address = stands.address;
  asks = tt;
  las = stands.las;
  gap = stands.gap;
  rotation = stands.rotation;
  initiator = resent s.cycles.initiator h.acts f stands.initiator e;
  retries = stands.retries;
  outcome = stands.outcome ∙ sym (ap newest_outcome (reverse-more h.acts (Resent f)));
  responder = stands.responder;
}

stands-phase_says : (p : Params) (s : Station) (ph : Phase) (now : ℕ) (h : Past) → p.hsa < 127 → HasCycles s → StandsForPast p (record s { phase = ph }) h
    → StandsForPast p (phase_says p (record s { phase = ph }) ph now).0 (phase_past_says p (record s { phase = ph }) ph now h)
stands-phase_says p s Offline now h highest has stands = stands
stands-phase_says p s PassiveIdle now h highest has stands = by_reply s.reply
  where
    by_reply : (o : Option Reply) → StandsForPast p (says_reply (record s { phase = PassiveIdle }) o now).0 h
    by_reply None = stands
    by_reply (Some r) = record { address = stands.address; asks = tt; las = stands.las; gap = stands.gap; rotation = stands.rotation; initiator = stands.initiator; retries = stands.retries; outcome = stands.outcome; responder = stands.responder }
stands-phase_says p s (Listening doubled) now h highest has stands = by_reply s.reply
  where
    by_reply : (o : Option Reply) → StandsForPast p (says_ready (record s { phase = Listening doubled }) o now).0 (past_ready (record s { phase = Listening doubled }) o h)
    by_reply None = stands
    by_reply (Some r) =
        let x = replying (record s { phase = Listening doubled }) now r in
        by_one_test (StandsForPast p) r.joins (joining x) x (record (with_item h (Joins s.address)) { looks = []; happenings = [] }) h
        (λ _. record {
          address = stands.address;
          asks = tt;
          las = stands_for-more s.las h.claim h.items (Joins s.address) stands.address stands.las;
          gap = refl;
          rotation = fresh-stands _ s.rotation.ttr stands.rotation.target;
          initiator = stands.initiator;
          retries = stands.retries;
          outcome = stands.outcome;
          responder = stands.responder;
        })
        (λ _. record { address = stands.address; asks = tt; las = stands.las; gap = stands.gap; rotation = stands.rotation; initiator = stands.initiator; retries = stands.retries; outcome = stands.outcome; responder = stands.responder })
stands-phase_says p s (Idle refused) now h highest has stands = by_reply s.reply
  where
    by_reply : (o : Option Reply) → StandsForPast p (says_reply (record s { phase = Idle refused }) o now).0 h
    by_reply None = stands
    by_reply (Some r) = record { address = stands.address; asks = tt; las = stands.las; gap = stands.gap; rotation = stands.rotation; initiator = stands.initiator; retries = stands.retries; outcome = stands.outcome; responder = stands.responder }
stands-phase_says p s (Claim sent ready) now h highest has stands =
    let x = saying (record s { phase = Claim sent ready }) now (token_octets s.address s.address) in
    let said = saying-stands (record s { phase = Claim sent ready }) now (token_octets s.address s.address) h stands in
    by_one_test (StandsForPast p) (sent == 0) _ (received_own p x) h (with_receipt h (now + 33))
    (λ _. in_phase x h _ tt said) (λ _. with_token_from x h (now + 33) (now + 33 + p.tid1) said)
stands-phase_says p s (Use asked ready) now h highest has stands =
    let x = record s { phase = Use asked ready } in stands-says_high p x asked (high_request x now) now h highest has (high-request x now has) stands
stands-phase_says p s (AwaitData asked retry slot) now h highest has stands =
    stands-says_again p (record s { phase = AwaitData asked retry slot }) asked (retry_of s.cycles.initiator.pending) now h refl stands
stands-phase_says p s (AwaitStatus of slot) now h highest has stands = stands
stands-phase_says p s (Pass tries ready) now h highest has stands = stands-says_token p (record s { phase = Pass tries ready }) tries now h stands
stands-phase_says p s (Checking tries) now h highest has stands = stands

stands-speech : (p : Params) (s : Station) (o : Option ℕ) (now : ℕ) (h : Past) → p.hsa < 127 → HasCycles s → StandsForPast p s h
    → StandsForPast p (speech p s o now).0 (past_speech p s o now h)
stands-speech p s None now h highest has stands = stands
stands-speech p s (Some moment) now h highest has stands =
    by_one_test (λ (turn : Station × Option (List ℕ)) (k : Past). StandsForPast p turn.0 k) (nat_le moment now) (phase_says p s s.phase now) (s, None)
    (phase_past_says p s s.phase now h) h
    (λ _. stands-phase_says p s s.phase now h highest has stands) (λ _. stands)

-- ---- a turn, and a start

pub stands-turn_of : (p : Params) (s : Station) (marks : List Mark) (now : ℕ) (h : Past) → p.hsa < 127 → Sayable s → StandsForPast p s h
    → StandsForPast p (turn_of p s marks now).0 (past_after_turn p s marks now h)
stands-turn_of p s marks now h highest has stands =
    let x = settled p s marks now in
    let k = past_after_timer p (now + 1) (after_marks p s marks) (past_after_marks p s marks h) in
    stands-speech p x (speaks_at x) now k highest (reply-settled p s marks now has).1
    (stands-after_timer p (now + 1) (after_marks p s marks) (past_after_marks p s marks h) (reply-after_marks p s marks has).1 (stands-after_marks p s marks h has stands))

pub stands-started : (p : Params) (s : Station) (master : Bool) (now : ℕ) → s.address < 127 → StandsForPast p (started p s master now) nothing
stands-started p s master now own = record {
  address = own;
  asks = by_test AsksStation master (Listening false) PassiveIdle (λ _. tt) (λ _. tt);
  las = listening-stands;
  gap = refl;
  rotation = fresh-stands p.ttr p.ttr refl;
  initiator = fresh-initiator p.retries;
  retries = refl;
  outcome = refl;
  responder = record { executed = refl; kept = refl };
}

-- one that stops, and one with another request that waits
pub stands-stopped : (p : Params) (s : Station) (h : Past) → StandsForPast p s h → StandsForPast p (stopped s) h
stands-stopped p s h stands =
    record { address = stands.address; asks = tt; las = stands.las; gap = stands.gap; rotation = stands.rotation; initiator = stands.initiator; retries = stands.retries; outcome = stands.outcome; responder = stands.responder }

pub stands-pushed : (p : Params) (s : Station) (r : RequestFields) (h : Past) → StandsForPast p s h → StandsForPast p (pushed s r) h
stands-pushed p s r h stands =
    record { address = stands.address; asks = stands.asks; las = stands.las; gap = stands.gap; rotation = stands.rotation; initiator = stands.initiator; retries = stands.retries; outcome = stands.outcome; responder = stands.responder }
