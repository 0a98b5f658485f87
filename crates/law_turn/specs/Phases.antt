-- The phases of a station.
use Rattle.std.specs.Prelude.{ℕ, Bool, true, false, Option}

-- A holder's `ready` is the earliest moment at which it speaks.
pub data Phase : Type 0 where
  Offline : Phase
  PassiveIdle : Phase
  -- whether a token from the own address was heard
  Listening : (doubled : Bool) → Phase
  -- the station whose token to this one was refused
  Idle : (refused : Option ℕ) → Phase
  -- how many of the two claim tokens are sent
  Claim : (sent ready : ℕ) → Phase
  -- whether a station was asked for its status since the receipt of the token
  Use : (asked : Bool) (ready : ℕ) → Phase
  -- whether a station was asked for its status since the receipt, when the request is sent again, if it is, and whether
  -- the slot is still open
  AwaitData : (asked : Bool) (retry : Option ℕ) (slot : Bool) → Phase
  -- the station that was asked for its status, and whether the slot is still open
  AwaitStatus : (of : ℕ) (slot : Bool) → Phase
  -- how many times the token was sent to this successor
  Pass : (tries ready : ℕ) → Phase
  -- the token is sent, and the station waits for a sign that it was taken
  Checking : (tries : ℕ) → Phase

-- whether the station may initiate
abbrev pub may_initiate : Phase → Bool
may_initiate Offline = false
may_initiate PassiveIdle = false
may_initiate (Listening doubled) = false
may_initiate (Idle refused) = false
may_initiate (Claim sent ready) = true
may_initiate (Use asked ready) = true
may_initiate (AwaitData asked retry slot) = true
may_initiate (AwaitStatus of slot) = true
may_initiate (Pass tries ready) = true
may_initiate (Checking tries) = false

-- whether the station answers requests: it neither holds the token nor checks whether it was taken
abbrev pub answers_requests : Phase → Bool
answers_requests Offline = false
answers_requests PassiveIdle = true
answers_requests (Listening doubled) = true
answers_requests (Idle refused) = true
answers_requests (Claim sent ready) = false
answers_requests (Use asked ready) = false
answers_requests (AwaitData asked retry slot) = false
answers_requests (AwaitStatus of slot) = false
answers_requests (Pass tries ready) = false
answers_requests (Checking tries) = false

abbrev pub is_offline : Phase → Bool
is_offline Offline = true
is_offline phase = false
