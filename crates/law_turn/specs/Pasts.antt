-- What a station has heard, done, asked and received since its tables began, and that the tables represent it.
use Rattle.std.specs.Prelude.{◌≡◌, ℕ, reverse, is_some, ◌+◌, ◌<◌, Bool, if◌then◌else◌, ◌==◌, nat_lt, nat_le, List, [], ◌∷◌, ◌++◌, Option, Some, None}
use Rattle.pb_timers.specs.Timers.{Params}
use Rattle.pb_ring.specs.Gap.{next_asked, last_asked}
use Rattle.pb_ring.specs.Las.{heard, place_of, skips_of}
use Rattle.pb_ring.specs.LasList as las
use Rattle.pb_ring.specs.LasList.{Item, Enters, Leaves, Joins}
use Rattle.pb_ring.specs.Laws.{Look, look_of, StandsForLooks}
use Rattle.pb_rotation.specs.Receipts.{Happening, Received, StartedHigh}
use Rattle.pb_rotation.specs.Rotation as rotation
use Rattle.pb_cycles.specs.Fields.{Fields}
use Rattle.pb_cycles.specs.RequestFields.{RequestFields}
use Rattle.pb_cycles.specs.Messages.{has_bit}
use Rattle.pb_cycles.specs.declared.messages.Message.TheVariants as message
use Rattle.pb_cycles.specs.Acts.{Act, Told, Opened, Resent, Closed, sending_act, InitiatorStandsFor}
use Rattle.pb_cycles.specs.Calls as responder
use Rattle.pb_cycles.specs.Calls.{ResponderStandsFor}
use Rattle.pb_cycles.specs.Initiating.{first_sending, retry_of, outcome_of}
use Rattle.pb_cycles.specs.declared.outcomes.Outcome.{Outcome}
use Rattle.pb_cycles.specs.Outcomes.{status_reply}
use Rattle.law_turn.specs.Arrivals.{Arrival, Token, Framed, Acknowledgement, NoTelegram, arrival_of}
use Rattle.law_turn.specs.Hearing.{tries_limit, skips_limit, is_taken_from, tells_ready, asked_station, passive, in_ring, after_timer, after_mark}
use Rattle.law_turn.specs.Marks.{Mark, Begin, End, moment_of}
use Rattle.law_turn.specs.Phases.{Phase, Offline, PassiveIdle, Listening, Idle, Claim, Use, AwaitData, AwaitStatus, Pass, Checking, is_offline}
use Rattle.law_turn.specs.Stations.{Station, Reply, timer_of, speaks_at, next_station, previous_station}
use Rattle.law_turn.specs.Turns.{after_marks, settled, looks_at_gap, high_request, low_request}

pub record Past : Type 0 where
  -- the address with which the station claimed the token; none if it listened
  pub claim : Option ℕ
  -- the items of the list of active stations since then
  pub items : List Item
  -- the looks for a station in the GAP since then
  pub looks : List Look
  -- the receipts of the token, and the starts of high priority cycles, since then
  pub happenings : List Happening
  -- the acts as an initiator, since the start
  pub acts : List Act
  -- the messages heard as a responder, since the start
  pub heard : List responder.Heard

abbrev pub nothing : Past
nothing = record { claim = None; items = []; looks = []; happenings = []; acts = []; heard = [] }

abbrev pub with_item : Past → Item → Past
with_item past item = record past { items = past.items ++ item ∷ [] }

abbrev pub with_look : Past → Look → Past
with_look past look = record past { looks = past.looks ++ look ∷ [] }

abbrev pub with_receipt : Past → ℕ → Past
with_receipt past at = record past { happenings = past.happenings ++ Received at ∷ [] }

-- a token was heard
abbrev pub with_token : Past → ℕ → ℕ → Past
with_token past da sa = with_item past (las.Token sa da)

abbrev pub with_act : Past → Act → Past
with_act past act = record past { acts = past.acts ++ act ∷ [] }

-- a cycle with a station had an outcome
abbrev pub with_outcome : Past → Option ℕ → Option Outcome → Past
with_outcome past (Some of) (Some outcome) = with_act past (Closed of outcome)
with_outcome past of outcome = past

-- a station of some type heard a message as a responder
abbrev pub with_heard : Past → ℕ → Fields → Past
with_heard past station_type f = record past { heard = past.heard ++ record { station_type = station_type; message = message.Framed f } ∷ [] }

-- ---- timers

-- the tables of the ring begin again
abbrev pub past_claimed : Station → Past → Past
past_claimed s past = record past { claim = Some s.address; items = []; looks = []; happenings = [] }

-- the open request had no reply: it is given up if no retry is left
abbrev pub past_not_answered : Station → Past → Past
past_not_answered s past =
    if is_some (retry_of s.cycles.initiator.pending) then past
    else with_outcome past (asked_station s.cycles.initiator.pending) (outcome_of s.cycles.initiator None)

abbrev pub phase_past_timed_out : Station → Phase → Past → Past
phase_past_timed_out s Offline past = past
phase_past_timed_out s PassiveIdle past = past
phase_past_timed_out s (Listening doubled) past = past_claimed s past
phase_past_timed_out s (Idle refused) past = past_claimed s past
phase_past_timed_out s (Claim sent ready) past = past
phase_past_timed_out s (Use asked ready) past = past
phase_past_timed_out s (AwaitData asked retry slot) past = past_not_answered s past
phase_past_timed_out s (AwaitStatus of slot) past = past
phase_past_timed_out s (Pass tries ready) past = past
phase_past_timed_out s (Checking tries) past = if nat_le tries_limit tries then with_item past (Leaves (next_station s)) else past

abbrev pub past_timed_out : Station → Option ℕ → ℕ → Past → Past
past_timed_out s None limit past = past
past_timed_out s (Some t) limit past = if nat_lt t limit then phase_past_timed_out s s.phase past else past

abbrev pub past_after_timer : Params → ℕ → Station → Past → Past
past_after_timer p limit s past = past_timed_out s (timer_of p s) limit past

-- ---- marks

-- a token heard in Idle: accepted, refused, or the second that skips the station, which then listens with an empty list
abbrev pub past_in_idle : Station → Option ℕ → ℕ → ℕ → ℕ → Past → Past
past_in_idle s refused at da sa past =
    if da == s.address
    then if is_taken_from refused (previous_station s) sa then with_receipt (with_token past da sa) at else with_token past da sa
    else if nat_le skips_limit (skips_of (place_of (heard s.las sa da).stage)) then record past { claim = None; items = [] } else with_token past da sa

abbrev pub past_idle_hears : Station → Option ℕ → ℕ → Arrival → Past → Past
past_idle_hears s refused at (Token da sa) past = past_in_idle s refused at da sa past
past_idle_hears s refused at (Framed f) past = with_heard past in_ring f
past_idle_hears s refused at Acknowledgement past = past
past_idle_hears s refused at NoTelegram past = past

-- in any other phase the token is only heard
abbrev pub past_hears : Arrival → Past → Past
past_hears (Token da sa) past = with_token past da sa
past_hears (Framed f) past = past
past_hears Acknowledgement past = past
past_hears NoTelegram past = past

abbrev pub past_told : ℕ → Option ℕ → Past → Past
past_told of None past = past
past_told of (Some fc) past = if tells_ready fc then with_item past (Enters of) else past

abbrev pub past_awaiting_status : Station → ℕ → Arrival → Past → Past
past_awaiting_status s of (Token da sa) past = with_token past da sa
past_awaiting_status s of (Framed f) past = if has_bit f.fc 6 then past else past_told of (status_reply s.address of (message.Framed f)) past
past_awaiting_status s of Acknowledgement past = past
past_awaiting_status s of NoTelegram past = past

-- a passive station hears only requests
abbrev pub past_passive_hears : Arrival → Past → Past
past_passive_hears (Token da sa) past = past
past_passive_hears (Framed f) past = with_heard past passive f
past_passive_hears Acknowledgement past = past
past_passive_hears NoTelegram past = past

abbrev pub past_data_told : Station → Option Outcome → Past → Past
past_data_told s (Some outcome) past = with_outcome past (asked_station s.cycles.initiator.pending) (Some outcome)
past_data_told s None past = past_not_answered s past

abbrev pub past_awaiting_data : Station → Arrival → Past → Past
past_awaiting_data s (Token da sa) past = with_token past da sa
past_awaiting_data s (Framed f) past = if has_bit f.fc 6 then past else past_data_told s (outcome_of s.cycles.initiator (Some (message.Framed f))) past
past_awaiting_data s Acknowledgement past = past_data_told s (outcome_of s.cycles.initiator (Some message.Acknowledgement)) past
past_awaiting_data s NoTelegram past = past_not_answered s past

abbrev pub phase_past_ended : Station → Phase → ℕ → Arrival → Past → Past
phase_past_ended s Offline at arrival past = past
phase_past_ended s PassiveIdle at arrival past = past_passive_hears arrival past
phase_past_ended s (Listening doubled) at arrival past = past_hears arrival past
phase_past_ended s (Idle refused) at arrival past = past_idle_hears s refused at arrival past
phase_past_ended s (Claim sent ready) at arrival past = past_hears arrival past
phase_past_ended s (Use asked ready) at arrival past = past_hears arrival past
phase_past_ended s (AwaitData asked retry slot) at arrival past = past_awaiting_data s arrival past
phase_past_ended s (AwaitStatus of slot) at arrival past = past_awaiting_status s of arrival past
phase_past_ended s (Pass tries ready) at arrival past = past_hears arrival past
phase_past_ended s (Checking tries) at arrival past = past_hears arrival past

abbrev pub past_heard : Station → Mark → Past → Past
past_heard s (Begin at seen) past = past
past_heard s (End at seen chars) past = phase_past_ended s s.phase at (arrival_of chars) past

abbrev pub past_after_mark : Station → Mark → Past → Past
past_after_mark s m past = if is_offline s.phase then past else past_heard s m past

abbrev pub past_after_marks : Params → Station → List Mark → Past → Past
past_after_marks p s [] past = past
past_after_marks p s (m ∷ ms) past =
    let x = after_timer p (moment_of m) s in
    past_after_marks p (after_mark p x m) ms (past_after_mark x m (past_after_timer p (moment_of m) s past))

-- ---- speech

-- a token to the own address is a receipt at its end
abbrev pub past_token_sent : Station → ℕ → ℕ → Past → Past
past_token_sent s ns now past = if ns == s.address then with_receipt past (now + 33) else past

abbrev pub past_look : Station → Option ℕ → ℕ → Past → Past
past_look s None now past = past_token_sent s (next_station s) now (with_look past (look_of None now))
past_look s (Some a) now past = with_look past (look_of (Some a) now)

abbrev pub past_no_request : Params → Station → Bool → ℕ → Past → Past
past_no_request p s asked now past =
    if looks_at_gap p s asked now then past_look s (next_asked s.address (next_station s) p.hsa (last_asked s.gap)) now past
    else past_token_sent s (next_station s) now past

-- a request is sent: the act is `Told` for an SDN, and `Opened` for an SDA or SRD
abbrev pub past_request : Station → RequestFields → Past → Past
past_request s r past = with_act past (sending_act r (first_sending s.cycles.initiator s.address r))

abbrev pub past_low : Params → Station → Bool → Option RequestFields → ℕ → Past → Past
past_low p s asked (Some r) now past = past_request s r past
past_low p s asked None now past = past_no_request p s asked now past

abbrev pub past_high : Params → Station → Bool → Option RequestFields → ℕ → Past → Past
past_high p s asked (Some r) now past = record (past_request s r past) { happenings = past.happenings ++ StartedHigh ∷ [] }
past_high p s asked None now past = past_low p s asked (low_request s now) now past

abbrev pub past_in_use : Params → Station → Bool → ℕ → Past → Past
past_in_use p s asked now past = past_high p s asked (high_request s now) now past

-- the open request is sent again
abbrev pub past_again : Option Fields → Past → Past
past_again None past = past
past_again (Some f) past = with_act past (Resent f)

-- a station that joins the ring begins its GAP round and its rotation again
abbrev pub past_ready : Station → Option Reply → Past → Past
past_ready s None past = past
past_ready s (Some r) past = if r.joins then record (with_item past (Joins s.address)) { looks = []; happenings = [] } else past

abbrev pub phase_past_says : Params → Station → Phase → ℕ → Past → Past
phase_past_says p s Offline now past = past
phase_past_says p s PassiveIdle now past = past
phase_past_says p s (Listening doubled) now past = past_ready s s.reply past
phase_past_says p s (Idle refused) now past = past
phase_past_says p s (Claim sent ready) now past = if sent == 0 then past else with_receipt past (now + 33)
phase_past_says p s (Use asked ready) now past = past_in_use p s asked now past
phase_past_says p s (AwaitData asked retry slot) now past = past_again (retry_of s.cycles.initiator.pending) past
phase_past_says p s (AwaitStatus of slot) now past = past
phase_past_says p s (Pass tries ready) now past = past_token_sent s (next_station s) now past
phase_past_says p s (Checking tries) now past = past

abbrev pub past_speech : Params → Station → Option ℕ → ℕ → Past → Past
past_speech p s None now past = past
past_speech p s (Some moment) now past = if nat_le moment now then phase_past_says p s s.phase now past else past

-- what a station has heard, done, asked and received after a turn
abbrev pub past_after_turn : Params → Station → List Mark → ℕ → Past → Past
past_after_turn p s marks now past =
    let at_clock = settled p s marks now in
    past_speech p at_clock (speaks_at at_clock) now (past_after_timer p (now + 1) (after_marks p s marks) (past_after_marks p s marks past))

-- ---- what the tables represent

-- the address of the station that is asked for its status is that of a station
abbrev pub AsksStation : Phase → Type 0
AsksStation Offline = Unit {0}
AsksStation PassiveIdle = Unit {0}
AsksStation (Listening doubled) = Unit {0}
AsksStation (Idle refused) = Unit {0}
AsksStation (Claim sent ready) = Unit {0}
AsksStation (Use asked ready) = Unit {0}
AsksStation (AwaitData asked retry slot) = Unit {0}
AsksStation (AwaitStatus of slot) = of < 127
AsksStation (Pass tries ready) = Unit {0}
AsksStation (Checking tries) = Unit {0}

-- the newest outcome of a cycle, with its station; the newest act is first
abbrev pub newest_outcome : List Act → Option (ℕ × Outcome)
newest_outcome [] = None
newest_outcome (Told f ∷ older) = newest_outcome older
newest_outcome (Opened f ∷ older) = newest_outcome older
newest_outcome (Resent f ∷ older) = newest_outcome older
newest_outcome (Closed address outcome ∷ older) = Some (address, outcome)

pub record StandsForPast (p : Params) (s : Station) (past : Past) : Type 0 where
  pub address : s.address < 127
  pub asks : AsksStation s.phase
  pub las : las.StandsFor s.las past.claim past.items
  pub gap : StandsForLooks s.gap past.looks
  pub rotation : rotation.StandsFor p.ttr s.rotation past.happenings
  pub initiator : InitiatorStandsFor s.cycles.initiator past.acts
  pub retries : s.cycles.initiator.retries ≡ p.retries
  pub outcome : s.cycles.last_outcome ≡ newest_outcome (reverse past.acts)
  pub responder : ResponderStandsFor s.address s.cycles.responder past.heard

-- a token whose addresses are those of stations
abbrev pub IsOfStations : Arrival → Type 0
IsOfStations (Token da sa) = (da < 127) × (sa < 127)
IsOfStations (Framed f) = Unit {0}
IsOfStations Acknowledgement = Unit {0}
IsOfStations NoTelegram = Unit {0}
