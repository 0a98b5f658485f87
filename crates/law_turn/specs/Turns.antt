-- The turn of a station: it reads its unread marks, and the timers between them, in order of time, and then speaks if
-- it is due.
use Rattle.std.specs.Prelude.{ℕ, ◌+◌, Bool, true, false, not, if◌then◌else◌, ◌==◌, nat_le, ◌&&◌, List, [], ◌∷◌, drop, length, max, min, Option, Some, None}
use Rattle.pb_telegram.specs.Grammar.{sd4}
use Rattle.pb_timers.specs.Timers.{Params, bits}
use Rattle.pb_ring.specs.Las as las
use Rattle.pb_ring.specs.Gap.{is_due, last_asked, next_asked, round_after}
use Rattle.pb_ring.specs.declared.gaps.Round.TheVariants.{Open}
use Rattle.pb_rotation.specs.Rotation.{received, fresh, may_low, may_high, started_high}
use Rattle.pb_cycles.specs.Fields.{Fields}
use Rattle.pb_cycles.specs.Messages.{frame_octets}
use Rattle.pb_cycles.specs.RequestFields.{RequestFields}
use Rattle.pb_cycles.specs.Requests.{is_answered}
use Rattle.pb_cycles.specs.Initiating.{first_sending, after_request, retry_of, after_retry}
use Rattle.law_turn.specs.Hearing.{after_timer, after_mark, tries_limit}
use Rattle.law_turn.specs.Marks.{Mark, moment_of}
use Rattle.law_turn.specs.Phases.{Phase, Offline, PassiveIdle, Listening, Idle, Claim, Use, AwaitData, AwaitStatus, Pass, Checking}
use Rattle.law_turn.specs.Stations.{Station, Reply, speaks_at, next_station}

-- the station after its unread marks, and the timers that end before each; at equal moments the mark comes first
abbrev pub after_marks : Params → Station → List Mark → Station
after_marks p s [] = s
after_marks p s (m ∷ ms) = after_marks p (after_mark p (after_timer p (moment_of m) s) m) ms

-- the station at the clock, before it speaks
abbrev pub settled : Params → Station → List Mark → ℕ → Station
settled p s marks now = after_timer p (now + 1) (after_marks p s marks)

-- ---- speech

abbrev pub token_octets : ℕ → ℕ → List ℕ
token_octets da sa = sd4 ∷ da ∷ sa ∷ []

-- the control octet of a request for the status
abbrev pub status_request : ℕ
status_request = 0x49

abbrev pub status_request_octets : ℕ → ℕ → List ℕ
status_request_octets da sa = frame_octets (record { da = da; sa = sa; fc = status_request; unit = [] })

-- a station that sends octets at the clock
abbrev pub saying : Station → ℕ → List ℕ → Station
saying s now octets = record s {
  own = record { begin = now; end = now + bits (length octets) };
  quiet = max s.quiet (now + bits (length octets));
}

-- a receipt of the token: by the own telegram, at its end
abbrev pub received_own : Params → Station → Station
received_own p s = record s { phase = Use false (s.own.end + p.tid1); rotation = received s.rotation s.own.end }

-- the token is sent to a next station, after some tries; a token to the own address is a receipt
abbrev pub token_sent : Params → Station → ℕ → ℕ → Station
token_sent p s tries ns = if ns == s.address then received_own p s else record s { phase = Checking (min tries_limit (tries + 1)) }

abbrev pub says_token : Params → Station → ℕ → ℕ → Station × Option (List ℕ)
says_token p s tries now =
    let octets = token_octets (next_station s) s.address in
    (token_sent p (saying s now octets) tries (next_station s), Some octets)

-- after the first claim token the second follows; after that the station holds the token
abbrev pub claim_sent : Params → Station → ℕ → Station
claim_sent p s sent = if sent == 0 then record s { phase = Claim 1 (s.own.end + p.tid1) } else received_own p s

abbrev pub says_claim : Params → Station → ℕ → ℕ → Station × Option (List ℕ)
says_claim p s sent now =
    let octets = token_octets s.address s.address in
    (claim_sent p (saying s now octets) sent, Some octets)

-- whether the station asks a station of its GAP: holding time is left, it asked none since the receipt, and a round is
-- due
abbrev pub looks_at_gap : Params → Station → Bool → ℕ → Bool
looks_at_gap p s asked now = may_low s.rotation now && (not asked && is_due s.gap now p.ttr p.gap)

-- a station of the GAP is asked for its status; if none is left, the token is passed
abbrev pub says_look : Params → Station → Option ℕ → ℕ → Station × Option (List ℕ)
says_look p s None now = says_token p (record s { gap = round_after None now }) 0 now
says_look p s (Some a) now =
    let octets = status_request_octets a s.address in
    (record (saying s now octets) { phase = AwaitStatus a true; gap = round_after (Some a) now }, Some octets)

-- no request may be sent
abbrev pub says_no_request : Params → Station → Bool → ℕ → Station × Option (List ℕ)
says_no_request p s asked now =
    if looks_at_gap p s asked now then says_look p s (next_asked s.address (next_station s) p.hsa (last_asked s.gap)) now
    else says_token p s 0 now

-- ---- message cycles

-- the request that has waited longest
abbrev pub longest_waiting : List RequestFields → Option RequestFields
longest_waiting [] = None
longest_waiting (r ∷ rs) = Some r

-- the request of high, or of low, priority that may be sent at a moment
abbrev pub high_request : Station → ℕ → Option RequestFields
high_request s now = if may_high s.rotation now then longest_waiting s.cycles.queue.high else None

abbrev pub low_request : Station → ℕ → Option RequestFields
low_request s now = if may_low s.rotation now then longest_waiting s.cycles.queue.low else None

-- it no longer waits
abbrev pub high_taken : Station → Station
high_taken s = record s {
  rotation = started_high s.rotation;
  cycles = record s.cycles { queue = record s.cycles.queue { high = drop 1 s.cycles.queue.high } };
}

abbrev pub low_taken : Station → Station
low_taken s = record s { cycles = record s.cycles { queue = record s.cycles.queue { low = drop 1 s.cycles.queue.low } } }

-- after a request: an SDA or SRD waits for its reply, an SDN for idle time 2
abbrev pub request_sent : Params → Station → Bool → RequestFields → Station
request_sent p s asked r = if is_answered r.service then record s { phase = AwaitData asked None true } else record s { phase = Use asked (s.own.end + p.tid2) }

-- a request is sent
abbrev pub says_request : Params → Station → Bool → RequestFields → ℕ → Station × Option (List ℕ)
says_request p s asked r now =
    let octets = frame_octets (first_sending s.cycles.initiator s.address r) in (
      request_sent p (record (saying s now octets) { cycles = record s.cycles { initiator = after_request s.cycles.initiator s.address r } }) asked r,
      Some octets,
    )

abbrev pub says_low : Params → Station → Bool → Option RequestFields → ℕ → Station × Option (List ℕ)
says_low p s asked (Some r) now = says_request p (low_taken s) asked r now
says_low p s asked None now = says_no_request p s asked now

abbrev pub says_high : Params → Station → Bool → Option RequestFields → ℕ → Station × Option (List ℕ)
says_high p s asked (Some r) now = says_request p (high_taken s) asked r now
says_high p s asked None now = says_low p s asked (low_request s now) now

-- a station that uses the token sends requests, of high priority first, as long as it may; then asks its GAP; then
-- passes the token
abbrev pub says_in_use : Params → Station → Bool → ℕ → Station × Option (List ℕ)
says_in_use p s asked now = says_high p s asked (high_request s now) now

-- the open request is sent again; a station that waits to do so has a retry left
abbrev pub says_again : Station → Bool → Option Fields → ℕ → Station × Option (List ℕ)
says_again s asked None now = (record s { phase = AwaitData asked None false }, None)
says_again s asked (Some f) now = (
  record (saying s now (frame_octets f)) { phase = AwaitData asked None true; cycles = record s.cycles { initiator = after_retry s.cycles.initiator } },
  Some (frame_octets f),
)

-- ---- replies

-- a station joins the ring
abbrev pub joining : Station → Station
joining s = record s {
  phase = Idle None;
  las = las.readied s.las s.address;
  gap = Open None;
  rotation = fresh s.rotation.ttr;
}

-- a station that has sent its reply
abbrev pub replying : Station → ℕ → Reply → Station
replying s now r = record (saying s now r.octets) { reply = None }

abbrev pub says_reply : Station → Option Reply → ℕ → Station × Option (List ℕ)
says_reply s None now = (s, None)
says_reply s (Some r) now = (replying s now r, Some r.octets)

-- a listening station joins the ring by the reply that it is ready
abbrev pub says_ready : Station → Option Reply → ℕ → Station × Option (List ℕ)
says_ready s None now = (s, None)
says_ready s (Some r) now = (if r.joins then joining (replying s now r) else replying s now r, Some r.octets)

-- what a phase sends at the clock
abbrev pub phase_says : Params → Station → Phase → ℕ → Station × Option (List ℕ)
phase_says p s Offline now = (s, None)
phase_says p s PassiveIdle now = says_reply s s.reply now
phase_says p s (Listening doubled) now = says_ready s s.reply now
phase_says p s (Idle refused) now = says_reply s s.reply now
phase_says p s (Claim sent ready) now = says_claim p s sent now
phase_says p s (Use asked ready) now = says_in_use p s asked now
phase_says p s (AwaitData asked retry slot) now = says_again s asked (retry_of s.cycles.initiator.pending) now
phase_says p s (AwaitStatus of slot) now = (s, None)
phase_says p s (Pass tries ready) now = says_token p s tries now
phase_says p s (Checking tries) now = (s, None)

abbrev pub speech : Params → Station → Option ℕ → ℕ → Station × Option (List ℕ)
speech p s None now = (s, None)
speech p s (Some moment) now = if nat_le moment now then phase_says p s s.phase now else (s, None)

-- the station after its turn, and what it sends
abbrev pub turn_of : Params → Station → List Mark → ℕ → Station × Option (List ℕ)
turn_of p s marks now = let at_clock = settled p s marks now in speech p at_clock (speaks_at at_clock) now
