-- How a station reacts to its timers and to what it hears.
use Rattle.std.specs.Option.{option_map, option_or}
use Rattle.std.specs.Prelude.{ℕ, is_some, ◌+◌, ◌/◌, ◌%◌, Bool, true, false, if◌then◌else◌, ◌==◌, nat_lt, nat_le, ◌||◌, ◌&&◌, [], max, Option, Some, None}
use Rattle.pb_timers.specs.Timers.{Params}
use Rattle.pb_ring.specs.Las as las
use Rattle.pb_ring.specs.Las.{place_of, skips_of}
use Rattle.pb_ring.specs.declared.gaps.Round.TheVariants.{Open}
use Rattle.pb_rotation.specs.Rotation.{received, fresh}
use Rattle.pb_cycles.specs.Fields.{Fields}
use Rattle.pb_cycles.specs.Messages.{has_bit, address_in, reply_octets}
use Rattle.pb_cycles.specs.Requests.{asked_by}
use Rattle.pb_cycles.specs.declared.messages.Message.{Message}
use Rattle.pb_cycles.specs.declared.messages.Message.TheVariants as message
use Rattle.pb_cycles.specs.declared.services.Asked.{Asked}
use Rattle.pb_cycles.specs.declared.services.Asked.TheVariants.{Send, Status, Unknown}
use Rattle.pb_cycles.specs.Initiating.{retry_of, outcome_of, after_outcome}
use Rattle.pb_cycles.specs.Outcomes.{status_reply}
use Rattle.pb_cycles.specs.Responding.{reply_frame, reply_to_framed, after_framed}
use Rattle.pb_cycles.specs.declared.initiators.OpenRequest.{OpenRequest}
use Rattle.pb_cycles.specs.declared.outcomes.Outcome.{Outcome}
use Rattle.law_turn.specs.Arrivals.{Arrival, Token, Framed, Acknowledgement, NoTelegram, arrival_of}
use Rattle.law_turn.specs.Marks.{Mark, Begin, End}
use Rattle.law_turn.specs.Phases.{Phase, Offline, PassiveIdle, Listening, Idle, Claim, Use, AwaitData, AwaitStatus, Pass, Checking, answers_requests, is_offline}
use Rattle.law_turn.specs.Stations.{Station, Reply, Cycles, timer_of, next_station, previous_station}

-- ---- timers

-- after a long silence the station claims the token: it is alone in its ring, and knows no other station
abbrev pub claiming : Station → ℕ → Station
claiming s t = record s {
  phase = Claim 0 t;
  reply = None;
  las = las.claimed s.address;
  gap = Open None;
  rotation = fresh s.rotation.ttr;
}

-- how many times the token is sent to a successor
abbrev pub tries_limit : ℕ
tries_limit = 3

-- no station took the token: it is passed again; after the last try the successor is removed
abbrev pub not_taken : Station → ℕ → ℕ → Station
not_taken s tries t =
    if nat_le tries_limit tries then record s { phase = Pass 0 t; las = las.removed s.las (next_station s) }
    else record s { phase = Pass tries t }

-- the station to which the open request was sent
abbrev pub asked_station : Option OpenRequest → Option ℕ
asked_station None = None
asked_station (Some request) = Some request.sent.da

abbrev pub outcome_at : Option ℕ → Option Outcome → Option (ℕ × Outcome) → Option (ℕ × Outcome)
outcome_at (Some of) (Some outcome) last = Some (of, outcome)
outcome_at of outcome last = last

-- the message cycles after an outcome of the open request, by a message or by its absence
abbrev pub cycle_closed : Cycles → Option Message → Cycles
cycle_closed c message = record c {
  initiator = after_outcome c.initiator message;
  last_outcome = outcome_at (asked_station c.initiator.pending) (outcome_of c.initiator message) c.last_outcome;
}

-- no reply was heard: the request is sent again at a moment, or it is given up and the token used again from then on
abbrev pub not_answered : Station → Bool → Bool → ℕ → Station
not_answered s asked slot ready =
    if is_some (retry_of s.cycles.initiator.pending) then record s { phase = AwaitData asked (Some ready) slot }
    else record s { phase = Use asked ready; cycles = cycle_closed s.cycles None }

-- the station after the timer of its phase has ended at t
abbrev pub phase_timed_out : Station → Phase → ℕ → Station
phase_timed_out s Offline t = s
phase_timed_out s PassiveIdle t = s
phase_timed_out s (Listening doubled) t = claiming s t
phase_timed_out s (Idle refused) t = claiming s t
phase_timed_out s (Claim sent ready) t = s
phase_timed_out s (Use asked ready) t = s
phase_timed_out s (AwaitData asked retry slot) t = not_answered s asked false t
phase_timed_out s (AwaitStatus of slot) t = record s { phase = Use true t }
phase_timed_out s (Pass tries ready) t = s
phase_timed_out s (Checking tries) t = not_taken s tries t

abbrev pub timed_out : Station → Option ℕ → ℕ → Station
timed_out s None limit = s
timed_out s (Some t) limit = if nat_lt t limit then phase_timed_out s s.phase t else s

-- the station after its timer, if that ends before the limit
abbrev pub after_timer : Params → ℕ → Station → Station
after_timer p limit s = timed_out s (timer_of p s) limit

-- ---- activity begins

-- The phase after activity has begun at a moment. A slot closes at the first Begin since the begin of the own telegram;
-- a checking station takes any activity as the sign that its token was taken.
abbrev pub phase_begun : Phase → ℕ → ℕ → Phase
phase_begun Offline own at = Offline
phase_begun PassiveIdle own at = PassiveIdle
phase_begun (Listening doubled) own at = Listening doubled
phase_begun (Idle refused) own at = Idle refused
phase_begun (Claim sent ready) own at = Idle None
phase_begun (Use asked ready) own at = Idle None
phase_begun (AwaitData asked retry slot) own at = AwaitData asked None (slot && nat_lt at own)
phase_begun (AwaitStatus of slot) own at = AwaitStatus of (slot && nat_lt at own)
phase_begun (Pass tries ready) own at = Idle None
phase_begun (Checking tries) own at = if nat_lt at own then Checking tries else Idle None

-- a station that answers requests drops a reply that is not sent yet
abbrev pub reply_begun : Phase → Option Reply → Option Reply
reply_begun phase reply = if answers_requests phase then None else reply

abbrev pub begun : Station → ℕ → Station
begun s at = record s { busy = true; reply = reply_begun s.phase s.reply; phase = phase_begun s.phase s.own.begin at }

-- ---- activity ends

-- the station type in a reply: a passive station, and a master in three states
abbrev pub passive : ℕ
passive = 0

abbrev pub not_ready : ℕ
not_ready = 1

abbrev pub ready_for_ring : ℕ
ready_for_ring = 2

abbrev pub in_ring : ℕ
in_ring = 3

abbrev pub is_status : Asked → Bool
is_status (Send service priority) = false
is_status Status = true
is_status Unknown = false

-- a request for the status of the station ts
abbrev pub asks_status : ℕ → Fields → Bool
asks_status ts f = has_bit f.fc 6 && (is_status (asked_by (f.fc % 16)) && address_in f.da == ts)

-- the answer of a station of some type to a request that ended at a moment; it executes one that it has not executed
-- before
abbrev pub answer_to : Params → Station → ℕ → Fields → ℕ → Option Reply
answer_to p s at f station_type = option_map (λ reply. record { ready = at + p.tsdr; octets = reply_octets reply; joins = false }) (reply_to_framed s.cycles.responder s.address station_type f)

-- the answer replaces a reply that is not sent yet
abbrev pub answering : Params → Station → ℕ → Fields → ℕ → Station
answering p s at f station_type = record s {
  reply = option_or (answer_to p s at f station_type) s.reply;
  cycles = record s.cycles { responder = after_framed s.cycles.responder s.address station_type f };
}

-- a passive station answers requests, and reacts to nothing else
abbrev pub passive_hears : Params → Station → ℕ → Arrival → Station
passive_hears p s at (Token da sa) = s
passive_hears p s at (Framed f) = answering p s at f passive
passive_hears p s at Acknowledgement = s
passive_hears p s at NoTelegram = s

-- the answer of a listening station to a request for its status that ended at a moment
abbrev pub status_answer : Params → Station → ℕ → Fields → ℕ → Bool → Option Reply
status_answer p s at f station_type joins =
    if asks_status s.address f
    then Some (record { ready = at + p.tsdr; octets = reply_octets (reply_frame s.address station_type f 0 []); joins = joins })
    else None

-- a listening station is ready for the ring once its list is complete
abbrev pub listening_answer : Params → Station → ℕ → Fields → Option Reply
listening_answer p s at f =
    if las.is_complete s.las.stage then status_answer p s at f ready_for_ring true else status_answer p s at f not_ready false

-- a token updates the list of active stations
abbrev pub with_token : Station → ℕ → ℕ → Station
with_token s da sa = record s { las = las.heard s.las sa da }

-- a station that hears a second token from its own address goes offline
abbrev pub doubled_by : Bool → ℕ → ℕ → Phase
doubled_by doubled sa ts = if sa == ts then if doubled then Offline else Listening true else Listening doubled

abbrev pub listening_hears : Params → Station → Bool → ℕ → Arrival → Station
listening_hears p s doubled at (Token da sa) = record (with_token s da sa) { phase = doubled_by doubled sa s.address }
listening_hears p s doubled at (Framed f) = record s { reply = option_or (listening_answer p s at f) s.reply }
listening_hears p s doubled at Acknowledgement = s
listening_hears p s doubled at NoTelegram = s

-- the token is taken
abbrev pub taking : Params → Station → ℕ → Station
taking p s at = record s { phase = Use false (at + p.tid1); rotation = received s.rotation at }

abbrev pub is_offered_again : Option ℕ → ℕ → Bool
is_offered_again None sa = false
is_offered_again (Some refused) sa = refused == sa

-- whether a token from sa is accepted: from the previous station, or from the one whose token was refused before
abbrev pub is_taken_from : Option ℕ → ℕ → ℕ → Bool
is_taken_from refused ps sa = sa == ps || is_offered_again refused sa

-- a token to the station itself
abbrev pub own_token : Params → Station → Bool → ℕ → ℕ → Station
own_token p s taken sa at = if taken then taking p s at else record s { phase = Idle (Some sa) }

-- a station that was skipped twice listens again, with nothing heard and no reply
abbrev pub skips_limit : ℕ
skips_limit = 2

abbrev pub foreign_token : Station → Station
foreign_token s =
    if nat_le skips_limit (skips_of (place_of s.las.stage)) then record s { phase = Listening false; las = las.listening; reply = None } else s

-- a token heard in Idle; the previous station is read before the token corrects the list
abbrev pub token_in_idle : Params → Station → Option ℕ → ℕ → ℕ → ℕ → Station
token_in_idle p s refused at da sa =
    if da == s.address then own_token p (with_token s da sa) (is_taken_from refused (previous_station s) sa) sa at
    else foreign_token (with_token s da sa)

abbrev pub idle_hears : Params → Station → Option ℕ → ℕ → Arrival → Station
idle_hears p s refused at (Token da sa) = token_in_idle p s refused at da sa
idle_hears p s refused at (Framed f) = answering p s at f in_ring
idle_hears p s refused at Acknowledgement = s
idle_hears p s refused at NoTelegram = s

-- a station that holds the token, or checks whether it was taken, only enters a heard token into its list
abbrev pub holder_hears : Station → Arrival → Station
holder_hears s (Token da sa) = with_token s da sa
holder_hears s (Framed f) = s
holder_hears s Acknowledgement = s
holder_hears s NoTelegram = s

-- the asked station is ready for the ring: a reply of this type with code 0
abbrev pub tells_ready : ℕ → Bool
tells_ready fc = fc / 16 % 4 == ready_for_ring && fc % 16 == 0

-- after a reply to the request for a status
abbrev pub status_told : Params → Station → ℕ → ℕ → Option ℕ → Station
status_told p s of at None = record s { phase = Use true (max at s.own.end + p.tid1) }
status_told p s of at (Some fc) = record s {
  phase = Use true (at + p.tid1);
  las = if tells_ready fc then las.entered s.las of else s.las;
}

-- a token or a request of another station is heard: this station has lost the token
abbrev pub lost : Station → Station
lost s = record s { phase = Idle None }

abbrev pub awaiting_status_hears : Params → Station → ℕ → ℕ → Arrival → Station
awaiting_status_hears p s of at (Token da sa) = lost (with_token s da sa)
awaiting_status_hears p s of at (Framed f) = if has_bit f.fc 6 then lost s else status_told p s of at (status_reply s.address of (message.Framed f))
awaiting_status_hears p s of at Acknowledgement = status_told p s of at None
awaiting_status_hears p s of at NoTelegram = status_told p s of at None

-- no reply to the open request was heard
abbrev pub no_reply : Params → Station → Bool → Bool → ℕ → Station
no_reply p s asked slot at = not_answered s asked slot (max at s.own.end + p.tid1)

-- a message is heard: the outcome of the open request, if it is a reply to it
abbrev pub data_told : Params → Station → Bool → Bool → ℕ → Message → Option Outcome → Station
data_told p s asked slot at m (Some outcome) = record s { phase = Use asked (at + p.tid1); cycles = cycle_closed s.cycles (Some m) }
data_told p s asked slot at m None = no_reply p s asked slot at

abbrev pub awaiting_data_hears : Params → Station → Bool → Bool → ℕ → Arrival → Station
awaiting_data_hears p s asked slot at (Token da sa) = lost (with_token s da sa)
awaiting_data_hears p s asked slot at (Framed f) =
    if has_bit f.fc 6 then lost s else data_told p s asked slot at (message.Framed f) (outcome_of s.cycles.initiator (Some (message.Framed f)))
awaiting_data_hears p s asked slot at Acknowledgement = data_told p s asked slot at message.Acknowledgement (outcome_of s.cycles.initiator (Some message.Acknowledgement))
awaiting_data_hears p s asked slot at NoTelegram = no_reply p s asked slot at

-- the station after activity has ended
abbrev pub phase_ended : Params → Station → Phase → ℕ → Arrival → Station
phase_ended p s Offline at arrival = s
phase_ended p s PassiveIdle at arrival = passive_hears p s at arrival
phase_ended p s (Listening doubled) at arrival = listening_hears p s doubled at arrival
phase_ended p s (Idle refused) at arrival = idle_hears p s refused at arrival
phase_ended p s (Claim sent ready) at arrival = holder_hears s arrival
phase_ended p s (Use asked ready) at arrival = holder_hears s arrival
phase_ended p s (AwaitData asked retry slot) at arrival = awaiting_data_hears p s asked slot at arrival
phase_ended p s (AwaitStatus of slot) at arrival = awaiting_status_hears p s of at arrival
phase_ended p s (Pass tries ready) at arrival = holder_hears s arrival
phase_ended p s (Checking tries) at arrival = holder_hears s arrival

abbrev pub ended : Params → Station → ℕ → Arrival → Station
ended p s at arrival = phase_ended p (record s { busy = false; quiet = max s.quiet at }) s.phase at arrival

-- ---- marks

abbrev pub heard : Params → Station → Mark → Station
heard p s (Begin at seen) = begun s at
heard p s (End at seen chars) = ended p s at (arrival_of chars)

-- the station after a mark; an offline station ignores it
abbrev pub after_mark : Params → Station → Mark → Station
after_mark p s m = if is_offline s.phase then s else heard p s m
