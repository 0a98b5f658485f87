-- The phase of a turn that a state is, and what follows it.
use Rattle.std.specs.Prelude.{ℕ, ◌+◌, ◌==◌, nat_le, min, Bool, false, if◌then◌else◌, Option, Some, List, codes}
use Rattle.law_turn.specs.Phases as turn
use Rattle.law_turn.specs.Hearing.{tries_limit, is_taken_from}
use Rattle.pb_tokenfsm.specs.declared.phases.Phase.{Phase}
use Rattle.pb_tokenfsm.specs.declared.phases.Phase.TheVariants as phase
use Rattle.pb_tokenfsm.specs.declared.waiting.Listening.{Listening}
use Rattle.pb_tokenfsm.specs.declared.waiting.Idle.{Idle}
use Rattle.pb_tokenfsm.specs.declared.states.Claim.{Claim}
use Rattle.pb_tokenfsm.specs.declared.states.Use.{Use}
use Rattle.pb_tokenfsm.specs.declared.states.AwaitData.{AwaitData}
use Rattle.pb_tokenfsm.specs.declared.states.AwaitStatus.{AwaitStatus}
use Rattle.pb_tokenfsm.specs.declared.states.Holding.{Holding}

-- the phase of a turn
abbrev pub phase_of : Phase → turn.Phase
phase_of (phase.Offline s) = turn.Offline
phase_of (phase.PassiveIdle s) = turn.PassiveIdle
phase_of (phase.Listening s) = turn.Listening s.doubled
phase_of (phase.Idle s) = turn.Idle s.refused
phase_of (phase.Claim h) = turn.Claim h.state.sent h.state.ready
phase_of (phase.Use h) = turn.Use h.state.asked h.state.ready
phase_of (phase.AwaitData h) = turn.AwaitData h.state.asked h.state.retry h.state.slot
phase_of (phase.AwaitStatus h) = turn.AwaitStatus h.state.of h.state.slot
phase_of (phase.Pass h) = turn.Pass h.state.tries h.state.ready
phase_of (phase.Checking s) = turn.Checking s.tries

-- ---- what is read of a state

-- whether a token from the own address was heard
abbrev pub is_doubled : Listening → Bool
is_doubled s = s.doubled

-- the station whose token was refused
abbrev pub refused_by : Idle → Option ℕ
refused_by s = s.refused

-- how many claim tokens are sent
abbrev pub claims_sent : Holding Claim → ℕ
claims_sent h = h.state.sent

-- whether a station was asked for its status since the receipt of the token
abbrev pub has_asked : Holding Use → Bool
has_asked h = h.state.asked

-- the same, while the station waits for a reply
abbrev pub was_asked : Holding AwaitData → Bool
was_asked h = h.state.asked

-- when the request is sent again, if it is
abbrev pub retry_at : Holding AwaitData → Option ℕ
retry_at h = h.state.retry

-- whether the slot of a request is still open
abbrev pub has_data_slot : Holding AwaitData → Bool
has_data_slot h = h.state.slot

-- the station that was asked for its status
abbrev pub asked_station : Holding AwaitStatus → ℕ
asked_station h = h.state.of

-- whether its slot is still open
abbrev pub has_slot : Holding AwaitStatus → Bool
has_slot h = h.state.slot

-- how many times the token was sent to a successor
abbrev pub tries_of : Phase → ℕ
tries_of (phase.Pass h) = h.state.tries
tries_of (phase.Checking s) = s.tries
tries_of other = 0

abbrev pub name_of : Phase → List ℕ
name_of (phase.Offline s) = codes "Offline"
name_of (phase.PassiveIdle s) = codes "PassiveIdle"
name_of (phase.Listening s) = codes "Listening"
name_of (phase.Idle s) = codes "Idle"
name_of (phase.Claim h) = codes "Claim"
name_of (phase.Use h) = codes "Use"
name_of (phase.AwaitData h) = codes "AwaitData"
name_of (phase.AwaitStatus h) = codes "AwaitStatus"
name_of (phase.Pass h) = codes "Pass"
name_of (phase.Checking s) = codes "Checking"

-- ---- what follows a state

-- Idle after a token from sa to da: one to the own address is accepted from the previous station, or from the one that
-- was refused before
abbrev pub token_heard : Option ℕ → (da sa ts ps ready : ℕ) → turn.Phase
token_heard refused da sa ts ps ready =
    if da == ts then if is_taken_from refused ps sa then turn.Use false ready else turn.Idle (Some sa)
    else turn.Idle refused

-- a claim token is sent: the second follows, and after that the station uses the token
abbrev pub claim_sent : (sent ready : ℕ) → turn.Phase
claim_sent sent ready = if sent == 0 then turn.Claim 1 ready else turn.Use false ready

-- the token is sent to a next station, after some tries; a token to the own address is a receipt
abbrev pub token_sent : (tries ns ts ready : ℕ) → turn.Phase
token_sent tries ns ts ready = if ns == ts then turn.Use false ready else turn.Checking (min tries_limit (tries + 1))

-- no station took the token: after the last try it goes to another station
abbrev pub not_taken : (tries ready : ℕ) → turn.Phase
not_taken tries ready = if nat_le tries_limit tries then turn.Pass 0 ready else turn.Pass tries ready
