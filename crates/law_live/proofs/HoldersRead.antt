-- What a holder reads, and timers that end, keep it within its time.
use Rattle.std.proofs.Common.{◌≡◌, ℕ, ◌+◌, ◌-◌, ◌*◌, ◌≤◌, ⊎_elim, Bool, true, false, ◌==◌, refl, ◌∙◌, arith, Option, Some, None}
use Rattle.std.specs.Prelude.{nat_lt, nat_le, max, is_some, IfSome}
use Rattle.pb_timers.specs.Timers.{Params}
use Rattle.pb_rotation.specs.Rotation.{Receipt, before}
use Rattle.pb_ring.specs.Las.{place_of, skips_of}
use Rattle.pb_cycles.specs.Messages.{has_bit}
use Rattle.pb_cycles.specs.declared.messages.Message.{Message}
use Rattle.pb_cycles.specs.declared.messages.Message.TheVariants as message
use Rattle.pb_cycles.specs.Initiating.{retry_of, outcome_of}
use Rattle.pb_cycles.specs.Outcomes.{status_reply}
use Rattle.pb_cycles.specs.declared.outcomes.Outcome.{Outcome}
use Rattle.law_turn.specs.Arrivals.{Arrival, Token, Framed, Acknowledgement, NoTelegram, arrival_of}
use Rattle.law_turn.specs.Hearing.{not_answered, phase_timed_out, timed_out, after_timer, tries_limit, phase_begun, passive_hears, listening_hears, taking, is_taken_from, skips_limit, idle_hears, holder_hears, status_told, awaiting_status_hears, data_told, no_reply, awaiting_data_hears, with_token, lost, phase_ended, heard, after_mark}
use Rattle.law_turn.specs.Marks.{Mark, Begin, End}
use Rattle.law_turn.specs.Phases.{Phase, Offline, PassiveIdle, Listening, Idle, Claim, Use, AwaitData, AwaitStatus, Pass, Checking, is_offline}
use Rattle.law_turn.specs.Stations.{Station, phase_timer, timer_of, previous_station, started}
use Rattle.law_turn.proofs.Acts.{closed-retries}
use Rattle.law_turn.proofs.Cases.{by_test}
use Rattle.law_turn.proofs.Paths.{at_end, phase-doubled}
use Rattle.law_live.specs.NeverDead.{longest, attempt, tries, cycle}
use Rattle.law_live.specs.Holding.{limit, has_used, left_of, SpendsBy, ReceivedBy, Spends, IfToken, IfAwaited, EndsInTime, Comes}
use Rattle.law_live.proofs.Tries.{tries-le}

-- ---- the limit

-- the end of a holder's time is a cycle or two behind the target rotation time
pub limit-least : (p : Params) (recent d : ℕ) (high : Bool) → d + (p.ttr - 1) + cycle p ≤ limit p recent d high
limit-least p recent d false = omega arith
limit-least p recent d true = omega arith

-- ---- timers

-- what a station keeps but for its phase and its cycles
abbrev pub Kept : Params → (recent d : ℕ) → Station → Type 0
Kept p recent d s = (s.rotation.ttr ≡ p.ttr) × ReceivedBy recent d s.rotation.last × (s.cycles.initiator.retries ≡ p.retries) × (s.own.end ≤ s.own.begin + longest)

-- a station that has time left keeps that
pub kept-of : (p : Params) (recent d : ℕ) (s : Station) → Spends p recent d s → Kept p recent d s
kept-of p recent d s o = (o.target, o.received, o.retries, o.short)

-- and one that does has time left, by its phase
spends-of : (p : Params) (recent d : ℕ) (s : Station) → Kept p recent d s → SpendsBy p (limit p recent d (has_used s.rotation.last)) (left_of s.cycles.initiator.pending) s.own.begin s.phase → Spends p recent d s
spends-of p recent d s k h = record { target = k.0; received = k.1; retries = k.2; short = k.3; spends = h }

-- a station that starts has no receipt yet, and all its time
pub started-spends : (p : Params) (recent d now : ℕ) (s : Station) (master : Bool) → Spends p recent d (started p s master now)
started-spends p recent d now s master =
    record {
      target = refl;
      received = tt;
      retries = refl;
      short = omega arith;
      spends = by_test (SpendsBy p (limit p recent d true) 0 now) master (Listening false) PassiveIdle (λ _. tt) (λ _. tt);
    }

-- where a phase has a slot
abbrev IfTimed : Phase → Type 0 → Type 0
IfTimed Offline X = Unit {0}
IfTimed PassiveIdle X = Unit {0}
IfTimed (Listening doubled) X = Unit {0}
IfTimed (Idle refused) X = Unit {0}
IfTimed (Claim sent ready) X = Unit {0}
IfTimed (Use asked ready) X = Unit {0}
IfTimed (AwaitData asked retry slot) X = X
IfTimed (AwaitStatus of slot) X = X
IfTimed (Pass tries ready) X = Unit {0}
IfTimed (Checking tries) X = Unit {0}

-- a moment that leaves time for the retries that are left
abbrev Leaves : Params → (end left ready : ℕ) → Type 0
Leaves p end left ready = ready + p.lag + tries left (attempt p) ≤ end

-- the time of a phase that waits for data
abbrev Waits : Params → (end left begin : ℕ) → Type 0
Waits p end left begin = (begin + tries left (attempt p) + attempt p ≤ end) × (left ≤ p.retries)

-- a request that was not answered is sent again, or the token used on
spends-not_answered : (p : Params) (recent d : ℕ) (s : Station) (asked slot : Bool) (ready : ℕ) → Kept p recent d s
    → Waits p (limit p recent d (has_used s.rotation.last)) (left_of s.cycles.initiator.pending) s.own.begin
    → Leaves p (limit p recent d (has_used s.rotation.last)) (left_of s.cycles.initiator.pending) ready → Spends p recent d (not_answered s asked slot ready)
spends-not_answered p recent d s asked slot ready k w h =
    by_test (Spends p recent d) (is_some (retry_of s.cycles.initiator.pending)) _ _
    (λ _. spends-of p recent d (record s { phase = AwaitData asked (Some ready) slot }) k (w.0, w.1, h))
    (λ _. record { target = k.0; received = k.1; retries = closed-retries s.cycles.initiator None ∙ k.2; short = k.3; spends = omega (arith, h) })

-- a timer that ends keeps a station within its time, in each phase
spends-timed_out : (p : Params) (recent d : ℕ) (s : Station) (ph : Phase) (t : ℕ) → IfTimed ph (t ≤ s.own.end + p.tsl) → Spends p recent d (record s { phase = ph })
    → Spends p recent d (phase_timed_out (record s { phase = ph }) ph t)
spends-timed_out p recent d s Offline t le o = o
spends-timed_out p recent d s PassiveIdle t le o = o
spends-timed_out p recent d s (Listening doubled) t le o = record { target = o.target; received = tt; retries = o.retries; short = o.short; spends = tt }
spends-timed_out p recent d s (Idle refused) t le o = record { target = o.target; received = tt; retries = o.retries; short = o.short; spends = tt }
spends-timed_out p recent d s (Claim sent ready) t le o = o
spends-timed_out p recent d s (Use asked ready) t le o = o
spends-timed_out p recent d s (AwaitData asked retry slot) t le o =
    let x = record s { phase = AwaitData asked retry slot } in
    spends-not_answered p recent d x asked false t (kept-of p recent d x o) (o.spends.0, o.spends.1) (let a = o.short in let b = o.spends.0 in omega (arith, le, a, b))
spends-timed_out p recent d s (AwaitStatus of slot) t le o =
    record { target = o.target; received = o.received; retries = o.retries; short = o.short; spends = let a = o.short in let b = o.spends in omega (arith, le, a, b) }
spends-timed_out p recent d s (Pass tries ready) t le o = o
spends-timed_out p recent d s (Checking tries) t le o =
    by_test (Spends p recent d) (nat_le tries_limit tries) _ _
    (λ _. record { target = o.target; received = o.received; retries = o.retries; short = o.short; spends = tt })
    (λ _. record { target = o.target; received = o.received; retries = o.retries; short = o.short; spends = tt })

-- the timer of a phase, where it is a slot
slot-after : (p : Params) (s : Station) (ph : Phase) → IfSome (phase_timer p s ph) (λ t. IfTimed ph (t ≤ s.own.end + p.tsl))
slot-after p s Offline = tt
slot-after p s PassiveIdle = tt
slot-after p s (Listening doubled) = tt
slot-after p s (Idle refused) = tt
slot-after p s (Claim sent ready) = tt
slot-after p s (Use asked ready) = tt
slot-after p s (AwaitData asked retry slot) = by_test (λ o. IfSome o (λ t. t ≤ s.own.end + p.tsl)) slot (Some (s.own.end + p.tsl)) None (λ _. omega arith) (λ _. tt)
slot-after p s (AwaitStatus of slot) = by_test (λ o. IfSome o (λ t. t ≤ s.own.end + p.tsl)) slot (Some (s.own.end + p.tsl)) None (λ _. omega arith) (λ _. tt)
slot-after p s (Pass tries ready) = tt
slot-after p s (Checking tries) = tt

-- so with the timer that ends by a moment
pub spends-after_timer : (p : Params) (recent d bound : ℕ) (s : Station) → Spends p recent d s → Spends p recent d (after_timer p bound s)
spends-after_timer p recent d bound s o = by_timer (timer_of p s) (by_test (λ o. IfSome o (λ t. IfTimed s.phase (t ≤ s.own.end + p.tsl))) s.busy None (phase_timer p s s.phase) (λ _. tt) (λ _. slot-after p s s.phase))
  where
    by_timer : (x : Option ℕ) → IfSome x (λ t. IfTimed s.phase (t ≤ s.own.end + p.tsl)) → Spends p recent d (timed_out s x bound)
    by_timer None h = o
    by_timer (Some t) h = by_test (Spends p recent d) (nat_lt t bound) (phase_timed_out s s.phase t) s (λ _. spends-timed_out p recent d s s.phase t h o) (λ _. o)

-- ---- marks

-- a Begin ends no time, in each phase
begun-spends : (p : Params) (end left begin : ℕ) (ph : Phase) (own at : ℕ) → SpendsBy p end left begin ph → SpendsBy p end left begin (phase_begun ph own at)
begun-spends p end left begin Offline own at h = tt
begun-spends p end left begin PassiveIdle own at h = tt
begun-spends p end left begin (Listening doubled) own at h = tt
begun-spends p end left begin (Idle refused) own at h = tt
begun-spends p end left begin (Claim sent ready) own at h = tt
begun-spends p end left begin (Use asked ready) own at h = tt
begun-spends p end left begin (AwaitData asked retry slot) own at h = (h.0, h.1, tt)
begun-spends p end left begin (AwaitStatus of slot) own at h = h
begun-spends p end left begin (Pass tries ready) own at h = tt
begun-spends p end left begin (Checking tries) own at h = by_test (SpendsBy p end left begin) (nat_lt at own) (Checking tries) (Idle None) (λ _. tt) (λ _. tt)

-- a token that is taken is a new receipt, by the moment by which tokens are over
spends-idle : (p : Params) (recent d : ℕ) (s : Station) (refused : Option ℕ) (at : ℕ) (x : Arrival) → IfToken x ((at ≤ recent) × (recent ≤ d)) → s.phase ≡ Idle refused → Spends p recent d s → Spends p recent d (idle_hears p s refused at x)
spends-idle p recent d s refused at (Token da sa) by same o =
    let x = with_token s da sa in
    by_test (Spends p recent d) (da == s.address) _ _
    (λ _. by_test (Spends p recent d) (is_taken_from refused (previous_station s) sa) (taking p x at) _
    (λ _. record {
      target = o.target;
      received = (by.0, before-by s.rotation.last o.received);
      retries = o.retries;
      short = o.short;
      spends = omega (arith, by.0);
    })
    (λ _. record { target = o.target; received = o.received; retries = o.retries; short = o.short; spends = tt }))
    (λ _. by_test (Spends p recent d) (nat_le skips_limit (skips_of (place_of x.las.stage))) _ x
    (λ _. record { target = o.target; received = o.received; retries = o.retries; short = o.short; spends = tt })
    (λ _. record { target = o.target; received = o.received; retries = o.retries; short = o.short; spends = o.spends }))
  where
    before-by : (last : Option Receipt) → ReceivedBy recent d last → before last at ≤ d
    before-by None h = omega (arith, by.0, by.1)
    before-by (Some r) h = omega (arith, h.0, by.1)
spends-idle p recent d s refused at (Framed f) by same o = record { target = o.target; received = o.received; retries = o.retries; short = o.short; spends = o.spends }
spends-idle p recent d s refused at Acknowledgement by same o = o
spends-idle p recent d s refused at NoTelegram by same o = o

-- a listening station has no time to keep
spends-listening : (p : Params) (recent d : ℕ) (s : Station) (doubled : Bool) (at : ℕ) (x : Arrival) → s.phase ≡ Listening doubled → Spends p recent d s → Spends p recent d (listening_hears p s doubled at x)
spends-listening p recent d s doubled at (Token da sa) same o =
    record {
      target = o.target;
      received = o.received;
      retries = o.retries;
      short = o.short;
      spends = phase-doubled (SpendsBy p (limit p recent d (has_used s.rotation.last)) (left_of s.cycles.initiator.pending) s.own.begin) doubled sa s.address tt (λ _. tt);
    }
spends-listening p recent d s doubled at (Framed f) same o = record { target = o.target; received = o.received; retries = o.retries; short = o.short; spends = o.spends }
spends-listening p recent d s doubled at Acknowledgement same o = o
spends-listening p recent d s doubled at NoTelegram same o = o

-- a holder that hears something unasked keeps what it has
spends-holder : (p : Params) (recent d : ℕ) (s : Station) (x : Arrival) → Spends p recent d s → Spends p recent d (holder_hears s x)
spends-holder p recent d s (Token da sa) o = record { target = o.target; received = o.received; retries = o.retries; short = o.short; spends = o.spends }
spends-holder p recent d s (Framed f) o = o
spends-holder p recent d s Acknowledgement o = o
spends-holder p recent d s NoTelegram o = o

-- a moment an idle time after an End, or after the own telegram, leaves time
leaves-end : (p : Params) (recent d left begin end at : ℕ) (high : Bool) → end ≤ begin + longest → left ≤ p.retries → begin + tries left (attempt p) + attempt p ≤ limit p recent d high
    → EndsInTime p d begin at → max at end + p.tid1 + p.lag + tries left (attempt p) ≤ limit p recent d high
leaves-end p recent d left begin end at high short few room time =
    let least = limit-least p recent d high in
    let less = tries-le left p.retries (attempt p) few in
    ⊎_elim
    (λ (a : at ≤ d). omega (arith, a, least, less, short, room))
    (λ (b : at ≤ begin + 2 * longest + (p.tsl - 1)). omega (arith, b, short, room))
    time

-- what is no reply ends an attempt
spends-no_reply : (p : Params) (recent d : ℕ) (s : Station) (asked slot : Bool) (at : ℕ) → EndsInTime p d s.own.begin at → Kept p recent d s
    → Waits p (limit p recent d (has_used s.rotation.last)) (left_of s.cycles.initiator.pending) s.own.begin → Spends p recent d (no_reply p s asked slot at)
spends-no_reply p recent d s asked slot at time k w =
    spends-not_answered p recent d s asked slot (max at s.own.end + p.tid1) k w
    (leaves-end p recent d (left_of s.cycles.initiator.pending) s.own.begin s.own.end at (has_used s.rotation.last) k.3 w.1 w.0 time)

-- a reply ends a cycle, in time
spends-data_told : (p : Params) (recent d : ℕ) (s : Station) (asked slot : Bool) (at : ℕ) (m : Message) (x : Option Outcome) → EndsInTime p d s.own.begin at → Kept p recent d s
    → Waits p (limit p recent d (has_used s.rotation.last)) (left_of s.cycles.initiator.pending) s.own.begin → Spends p recent d (data_told p s asked slot at m x)
spends-data_told p recent d s asked slot at m (Some outcome) time k w =
    let h = leaves-end p recent d (left_of s.cycles.initiator.pending) s.own.begin s.own.end at (has_used s.rotation.last) k.3 w.1 w.0 time in
    record { target = k.0; received = k.1; retries = closed-retries s.cycles.initiator (Some m) ∙ k.2; short = k.3; spends = omega (arith, h) }
spends-data_told p recent d s asked slot at m None time k w = spends-no_reply p recent d s asked slot at time k w

-- a token that is lost leaves no time to keep
spends-lost : (p : Params) (recent d : ℕ) (s : Station) → Kept p recent d s → Spends p recent d (lost s)
spends-lost p recent d s k = record { target = k.0; received = k.1; retries = k.2; short = k.3; spends = tt }

-- so whatever comes while data is awaited
spends-data : (p : Params) (recent d : ℕ) (s : Station) (asked slot : Bool) (at : ℕ) (x : Arrival) → EndsInTime p d s.own.begin at → Kept p recent d s
    → Waits p (limit p recent d (has_used s.rotation.last)) (left_of s.cycles.initiator.pending) s.own.begin → Spends p recent d (awaiting_data_hears p s asked slot at x)
spends-data p recent d s asked slot at (Token da sa) time k w = record { target = k.0; received = k.1; retries = k.2; short = k.3; spends = tt }
spends-data p recent d s asked slot at (Framed f) time k w =
    by_test (Spends p recent d) (has_bit f.fc 6) (lost s) _ (λ _. spends-lost p recent d s k)
    (λ _. spends-data_told p recent d s asked slot at (message.Framed f) (outcome_of s.cycles.initiator (Some (message.Framed f))) time k w)
spends-data p recent d s asked slot at Acknowledgement time k w =
    spends-data_told p recent d s asked slot at message.Acknowledgement (outcome_of s.cycles.initiator (Some message.Acknowledgement)) time k w
spends-data p recent d s asked slot at NoTelegram time k w = spends-no_reply p recent d s asked slot at time k w

-- a status ends its cycle, in time
spends-status_told : (p : Params) (recent d : ℕ) (s : Station) (of at : ℕ) (fc : Option ℕ) → EndsInTime p d s.own.begin at → Kept p recent d s
    → s.own.begin + attempt p ≤ limit p recent d (has_used s.rotation.last) → Spends p recent d (status_told p s of at fc)
spends-status_told p recent d s of at fc time k w = by fc
  where
    h : max at s.own.end + p.tid1 + p.lag ≤ limit p recent d (has_used s.rotation.last)
    h = let least = limit-least p recent d (has_used s.rotation.last) in
        let short = k.3 in
        ⊎_elim
        (λ (a : at ≤ d). omega (arith, a, least, short, w))
        (λ (b : at ≤ s.own.begin + 2 * longest + (p.tsl - 1)). omega (arith, b, short, w))
        time

    by : (fc : Option ℕ) → Spends p recent d (status_told p s of at fc)
    by None = record { target = k.0; received = k.1; retries = k.2; short = k.3; spends = omega (arith, h) }
    by (Some fc) = record { target = k.0; received = k.1; retries = k.2; short = k.3; spends = omega (arith, h) }

-- so whatever comes while a status is awaited
spends-status : (p : Params) (recent d : ℕ) (s : Station) (of at : ℕ) (x : Arrival) → EndsInTime p d s.own.begin at → Kept p recent d s
    → s.own.begin + attempt p ≤ limit p recent d (has_used s.rotation.last) → Spends p recent d (awaiting_status_hears p s of at x)
spends-status p recent d s of at (Token da sa) time k w = record { target = k.0; received = k.1; retries = k.2; short = k.3; spends = tt }
spends-status p recent d s of at (Framed f) time k w =
    by_test (Spends p recent d) (has_bit f.fc 6) (lost s) _ (λ _. spends-lost p recent d s k) (λ _. spends-status_told p recent d s of at (status_reply s.address of (message.Framed f)) time k w)
spends-status p recent d s of at Acknowledgement time k w = spends-status_told p recent d s of at None time k w
spends-status p recent d s of at NoTelegram time k w = spends-status_told p recent d s of at None time k w

-- a passive station has no time to keep
spends-passive : (p : Params) (recent d : ℕ) (s : Station) (at : ℕ) (x : Arrival) → s.phase ≡ PassiveIdle → Spends p recent d s → Spends p recent d (passive_hears p s at x)
spends-passive p recent d s at (Token da sa) same o = o
spends-passive p recent d s at (Framed f) same o = record { target = o.target; received = o.received; retries = o.retries; short = o.short; spends = o.spends }
spends-passive p recent d s at Acknowledgement same o = o
spends-passive p recent d s at NoTelegram same o = o

-- an End keeps a station within its time, in each phase
spends-ended : (p : Params) (recent d : ℕ) (s : Station) (ph : Phase) (at : ℕ) (x : Arrival) → IfToken x ((at ≤ recent) × (recent ≤ d)) → IfAwaited ph (EndsInTime p d s.own.begin at) → Spends p recent d (record s { phase = ph })
    → Spends p recent d (phase_ended p (at_end (record s { phase = ph }) at) ph at x)
spends-ended p recent d s Offline at x by time o = record { target = o.target; received = o.received; retries = o.retries; short = o.short; spends = tt }
spends-ended p recent d s PassiveIdle at x by time o =
    spends-passive p recent d (at_end (record s { phase = PassiveIdle }) at) at x refl (record { target = o.target; received = o.received; retries = o.retries; short = o.short; spends = tt })
spends-ended p recent d s (Listening doubled) at x by time o =
    spends-listening p recent d (at_end (record s { phase = Listening doubled }) at) doubled at x refl (record { target = o.target; received = o.received; retries = o.retries; short = o.short; spends = tt })
spends-ended p recent d s (Idle refused) at x by time o =
    spends-idle p recent d (at_end (record s { phase = Idle refused }) at) refused at x by refl (record { target = o.target; received = o.received; retries = o.retries; short = o.short; spends = tt })
spends-ended p recent d s (Claim sent ready) at x by time o =
    spends-holder p recent d (at_end (record s { phase = Claim sent ready }) at) x (record { target = o.target; received = o.received; retries = o.retries; short = o.short; spends = tt })
spends-ended p recent d s (Use asked ready) at x by time o =
    spends-holder p recent d (at_end (record s { phase = Use asked ready }) at) x (record { target = o.target; received = o.received; retries = o.retries; short = o.short; spends = o.spends })
spends-ended p recent d s (AwaitData asked retry slot) at x by time o =
    spends-data p recent d (at_end (record s { phase = AwaitData asked retry slot }) at) asked slot at x time (o.target, o.received, o.retries, o.short) (o.spends.0, o.spends.1)
spends-ended p recent d s (AwaitStatus of slot) at x by time o =
    spends-status p recent d (at_end (record s { phase = AwaitStatus of slot }) at) of at x time (o.target, o.received, o.retries, o.short) o.spends
spends-ended p recent d s (Pass tries ready) at x by time o =
    spends-holder p recent d (at_end (record s { phase = Pass tries ready }) at) x (record { target = o.target; received = o.received; retries = o.retries; short = o.short; spends = tt })
spends-ended p recent d s (Checking tries) at x by time o =
    spends-holder p recent d (at_end (record s { phase = Checking tries }) at) x (record { target = o.target; received = o.received; retries = o.retries; short = o.short; spends = tt })

-- so does each mark
spends-heard : (p : Params) (recent d : ℕ) (s : Station) (m : Mark) → Comes p recent d s m → Spends p recent d s → Spends p recent d (heard p s m)
spends-heard p recent d s (Begin at seen) c o =
    record {
      target = o.target;
      received = o.received;
      retries = o.retries;
      short = o.short;
      spends = begun-spends p (limit p recent d (has_used s.rotation.last)) (left_of s.cycles.initiator.pending) s.own.begin s.phase s.own.begin at o.spends;
    }
spends-heard p recent d s (End at seen chars) c o = spends-ended p recent d s s.phase at (arrival_of chars) c.0 c.1 o

-- and for a station that is offline nothing changes
pub spends-after_mark : (p : Params) (recent d : ℕ) (s : Station) (m : Mark) → Comes p recent d s m → Spends p recent d s → Spends p recent d (after_mark p s m)
spends-after_mark p recent d s m c o = by_test (Spends p recent d) (is_offline s.phase) s (heard p s m) (λ _. o) (λ _. spends-heard p recent d s m c o)
