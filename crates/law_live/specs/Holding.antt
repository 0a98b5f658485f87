-- How long a station holds the token after its last receipt: each moment at which it speaks is bounded by its receipts.
use Rattle.std.specs.Prelude.{◌≡◌, ℕ, max, ◌+◌, ◌-◌, ◌*◌, ◌≤◌, ◌⊎◌, Bool, true, false, List, length, Option, Some, None, IfSome}
use Rattle.pb_telegram.specs.Faults.{is_token}
use Rattle.pb_timers.specs.Timers.{Params, bits}
use Rattle.pb_rotation.specs.Rotation.{Receipt}
use Rattle.pb_cycles.specs.declared.initiators.OpenRequest.{OpenRequest}
use Rattle.law_turn.specs.Arrivals.{Arrival, Token, Framed, Acknowledgement, NoTelegram, arrival_of}
use Rattle.law_turn.specs.Marks.{Mark, Begin, End}
use Rattle.law_turn.specs.Phases.{Phase, Offline, PassiveIdle, Listening, Idle, Claim, Use, AwaitData, AwaitStatus, Pass, Checking, may_initiate}
use Rattle.law_turn.specs.Stations.{Station}
use Rattle.law_live.specs.NeverDead.{longest, attempt, tries, cycle}

-- The latest moment at which a holder speaks next, given a moment by which it had its last receipt, and one by which it
-- had the receipt before that and noise was over: it speaks first an idle time after its receipt; a cycle starts within
-- the target rotation time of the receipt before; and one of high priority after that.
abbrev pub limit : Params → (recent d : ℕ) → Bool → ℕ
limit p recent d false = max (recent + p.tid1 + p.lag) (d + (p.ttr - 1) + cycle p)
limit p recent d true = max (recent + p.tid1 + p.lag) (d + (p.ttr - 1) + cycle p) + cycle p

-- whether no cycle of high priority may start after the target rotation time
abbrev pub has_used : Option Receipt → Bool
has_used None = true
has_used (Some r) = r.high

-- the retries that are left
abbrev pub left_of : Option OpenRequest → ℕ
left_of None = 0
left_of (Some o) = o.left

-- what is left of a holder's time, given the moment at which its own last telegram began
abbrev pub SpendsBy : Params → (end left begin : ℕ) → Phase → Type 0
SpendsBy p end left begin Offline = Unit {0}
SpendsBy p end left begin PassiveIdle = Unit {0}
SpendsBy p end left begin (Listening doubled) = Unit {0}
SpendsBy p end left begin (Idle refused) = Unit {0}
SpendsBy p end left begin (Claim sent ready) = Unit {0}
SpendsBy p end left begin (Use asked ready) = ready + p.lag ≤ end
SpendsBy p end left begin (AwaitData asked retry slot) =
    (begin + tries left (attempt p) + attempt p ≤ end) × (left ≤ p.retries) × IfSome retry (λ m. m + p.lag + tries left (attempt p) ≤ end)
SpendsBy p end left begin (AwaitStatus of slot) = begin + attempt p ≤ end
SpendsBy p end left begin (Pass tries ready) = Unit {0}
SpendsBy p end left begin (Checking tries) = Unit {0}

-- each of the two receipts that count was by a moment
abbrev pub ReceivedBy : (recent d : ℕ) → Option Receipt → Type 0
ReceivedBy recent d last = IfSome last (λ r. (r.at ≤ recent) × (r.previous ≤ d))

-- a station that has time left while it holds the token
pub record Spends (p : Params) (recent d : ℕ) (s : Station) : Type 0 where
  pub target : s.rotation.ttr ≡ p.ttr
  pub received : ReceivedBy recent d s.rotation.last
  pub retries : s.cycles.initiator.retries ≡ p.retries
  pub short : s.own.end ≤ s.own.begin + longest
  pub spends : SpendsBy p (limit p recent d (has_used s.rotation.last)) (left_of s.cycles.initiator.pending) s.own.begin s.phase

-- What a turn sends: no more than the longest telegram; and a token, and thus its receipt, ends by the moments.
abbrev pub IsSaidBy : (recent d now : ℕ) → Option (List ℕ) → Type 0
IsSaidBy recent d now said = IfSome said (λ octets. (bits (length octets) ≤ longest) × (is_token octets ≡ true → (now + bits (length octets) ≤ recent) × (recent ≤ d)))

-- what it sends, if it is no token, leaves time for all that follows it
abbrev pub LeavesTail : Params → (recent d now : ℕ) → Option (List ℕ) → Type 0
LeavesTail p recent d now said = IfSome said (λ octets. is_token octets ≡ false → now + attempt p ≤ limit p recent d true)

-- if a token is heard
abbrev pub IfToken : Arrival → Type 0 → Type 0
IfToken (Token da sa) X = X
IfToken (Framed f) X = Unit {0}
IfToken Acknowledgement X = Unit {0}
IfToken NoTelegram X = Unit {0}

-- an End is within the time of an attempt, or by the moment by which noise was over
abbrev pub EndsInTime : Params → (d begin at : ℕ) → Type 0
EndsInTime p d begin at = (at ≤ d) ⊎ (at ≤ begin + 2 * longest + (p.tsl - 1))

-- an End is in time, if the phase waits for a reply
abbrev pub IfAwaited : Phase → Type 0 → Type 0
IfAwaited Offline X = Unit {0}
IfAwaited PassiveIdle X = Unit {0}
IfAwaited (Listening doubled) X = Unit {0}
IfAwaited (Idle refused) X = Unit {0}
IfAwaited (Claim sent ready) X = Unit {0}
IfAwaited (Use asked ready) X = Unit {0}
IfAwaited (AwaitData asked retry slot) X = X
IfAwaited (AwaitStatus of slot) X = X
IfAwaited (Pass tries ready) X = Unit {0}
IfAwaited (Checking tries) X = Unit {0}

-- the requirement on a mark: a token ended by the moments, and what ends while a reply is awaited ends in time
abbrev pub Comes : Params → (recent d : ℕ) → Station → Mark → Type 0
Comes p recent d s (Begin at seen) = Unit {0}
Comes p recent d s (End at seen chars) = IfToken (arrival_of chars) ((at ≤ recent) × (recent ≤ d)) × IfAwaited s.phase (EndsInTime p d s.own.begin at)

-- what a phase sends keeps within the time; and what a holder sends, if it is no token, leaves time for all that
-- follows it
abbrev pub PhaseSays : Params → (recent d now : ℕ) → Phase → Station × Option (List ℕ) → Type 0
PhaseSays p recent d now ph turn = IsSaidBy recent d now turn.1 → Spends p recent d turn.0 × (may_initiate ph ≡ true → LeavesTail p recent d now turn.1)

-- a phase that uses the token
abbrev pub IsCycling : Phase → Type 0
IsCycling Offline = ⊥
IsCycling PassiveIdle = ⊥
IsCycling (Listening doubled) = ⊥
IsCycling (Idle refused) = ⊥
IsCycling (Claim sent ready) = ⊥
IsCycling (Use asked ready) = Unit {0}
IsCycling (AwaitData asked retry slot) = Unit {0}
IsCycling (AwaitStatus of slot) = Unit {0}
IsCycling (Pass tries ready) = ⊥
IsCycling (Checking tries) = ⊥
