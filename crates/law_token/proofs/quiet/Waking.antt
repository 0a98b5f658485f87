-- A station of a master that is not busy is due, its time-out after the latest end at the latest.
use Rattle.std.proofs.Common.{◌≡◌, ℕ, ◌+◌, ◌≤◌, Bool, true, false, if◌then◌else◌, ◌==◌, List, [], ◌∷◌, length, refl, sym, subst, arith, Option, Some, None}
use Rattle.std.specs.Prelude.{nat_lt, nat_le, max, is_some, IfSome}
use Rattle.pb_timers.specs.Timers.{Params, tto, bits}
use Rattle.pb_ring.specs.Gap.{next_asked, last_asked, round_after}
use Rattle.pb_ring.specs.Las.{place_of, skips_of}
use Rattle.pb_cycles.specs.Fields.{Fields}
use Rattle.pb_cycles.specs.Messages.{has_bit, frame_octets}
use Rattle.pb_cycles.specs.RequestFields.{RequestFields}
use Rattle.pb_cycles.specs.Requests.{is_answered}
use Rattle.pb_cycles.specs.declared.messages.Message.{Message}
use Rattle.pb_cycles.specs.declared.messages.Message.TheVariants as message
use Rattle.pb_cycles.specs.Initiating.{retry_of, first_sending, outcome_of}
use Rattle.pb_cycles.specs.Outcomes.{status_reply}
use Rattle.pb_cycles.specs.declared.outcomes.Outcome.{Outcome}
use Rattle.law_turn.specs.Arrivals.{Arrival, Token, Framed, Acknowledgement, NoTelegram, arrival_of}
use Rattle.law_turn.specs.Hearing.{not_answered, phase_timed_out, timed_out, after_timer, tries_limit, phase_begun, listening_hears, doubled_by, taking, is_taken_from, skips_limit, idle_hears, holder_hears, status_told, awaiting_status_hears, data_told, no_reply, awaiting_data_hears, with_token, lost, phase_ended, heard, after_mark}
use Rattle.law_turn.specs.Laws.{HasOpen, HasOpenRequest}
use Rattle.law_turn.specs.Marks.{Mark, Begin, End, moment_of}
use Rattle.law_turn.specs.Phases.{Phase, Offline, PassiveIdle, Listening, Idle, Claim, Use, AwaitData, AwaitStatus, Pass, Checking, is_offline}
use Rattle.law_turn.specs.Stations.{Station, Reply, phase_timer, timer_of, phase_speaks, speaks_at, next_station, previous_station, started}
use Rattle.law_turn.specs.Turns.{after_marks, settled, looks_at_gap, says_look, says_token, high_request, low_request, high_taken, low_taken, says_request, says_low, says_high, says_again, says_reply, says_ready, replying, joining, phase_says, speech, turn_of, saying, received_own, token_octets}
use Rattle.law_turn.proofs.Paths.{at_end, phase-doubled}
use Rattle.law_turn.proofs.Retrying.{left-settled}
use Rattle.law_model.proofs.Cases.{by_test}
use Rattle.law_token.specs.Places.{LeavesTime}

-- ---- the time-out is the longest of the times that a station waits

pub record Waits (p : Params) (out : ℕ) : Type 0 where
  pub slot : p.tsl ≤ out
  pub first : p.tid1 ≤ out
  pub second : p.tid2 ≤ out

pub waits_fit : (p : Params) (a : ℕ) → LeavesTime p → Waits p (tto p a)
waits_fit p a fits = record {
  slot = omega arith;
  first = omega (arith, fits.idle_order, fits.take);
  second = omega (arith, fits.take);
}

-- ---- what is kept

-- by the phase, whether it is busy, the latest end and the time-out
abbrev pub WakesBy : (busy : Bool) (quiet out : ℕ) → Phase → Type 0
WakesBy busy quiet out Offline = Unit {0}
WakesBy busy quiet out PassiveIdle = ⊥
WakesBy busy quiet out (Listening doubled) = Unit {0}
WakesBy busy quiet out (Idle refused) = Unit {0}
WakesBy busy quiet out (Claim sent ready) = ready ≤ quiet + out
WakesBy busy quiet out (Use asked ready) = ready ≤ quiet + out
WakesBy busy quiet out (AwaitData asked None slot) = busy ≡ false → slot ≡ true
WakesBy busy quiet out (AwaitData asked (Some m) slot) = m ≤ quiet + out
WakesBy busy quiet out (AwaitStatus of slot) = busy ≡ false → slot ≡ true
WakesBy busy quiet out (Pass tries ready) = ready ≤ quiet + out
WakesBy busy quiet out (Checking tries) = Unit {0}

abbrev pub Wakes : Params → ℕ → Station → Type 0
Wakes p a s = (s.address ≡ a) × (s.own.end ≤ s.quiet) × WakesBy s.busy s.quiet (tto p a) s.phase

-- ---- timers

wakes-not_answered : (p : Params) (a : ℕ) (s : Station) (asked : Bool) (slot : Bool) (ready : ℕ) → s.address ≡ a → s.own.end ≤ s.quiet → ready ≤ s.quiet + tto p a → Wakes p a (not_answered s asked slot ready)
wakes-not_answered p a s asked slot ready at order le = by_test (Wakes p a) (is_some (retry_of s.cycles.initiator.pending)) _ _ (λ _. (at, order, le)) (λ _. (at, order, le))

wakes-timed_out : (p : Params) (a : ℕ) (s : Station) (ph : Phase) (t : ℕ) → t ≤ s.quiet + tto p a → Wakes p a (record s { phase = ph }) → Wakes p a (phase_timed_out (record s { phase = ph }) ph t)
wakes-timed_out p a s Offline t le w = w
wakes-timed_out p a s PassiveIdle t le w = w
wakes-timed_out p a s (Listening doubled) t le w = (w.0, w.1, le)
wakes-timed_out p a s (Idle refused) t le w = (w.0, w.1, le)
wakes-timed_out p a s (Claim sent ready) t le w = w
wakes-timed_out p a s (Use asked ready) t le w = w
wakes-timed_out p a s (AwaitData asked retry slot) t le w = wakes-not_answered p a (record s { phase = AwaitData asked retry slot }) asked false t w.0 w.1 le
wakes-timed_out p a s (AwaitStatus of slot) t le w = (w.0, w.1, le)
wakes-timed_out p a s (Pass tries ready) t le w = w
wakes-timed_out p a s (Checking tries) t le w = by_test (Wakes p a) (nat_le tries_limit tries) _ _ (λ _. (w.0, w.1, le)) (λ _. (w.0, w.1, le))

abbrev NotAfter : ℕ → Option ℕ → Type 0
NotAfter limit o = IfSome o (λ t. t ≤ limit)

if_slot : (end slot limit : ℕ) (runs : Bool) → end + slot ≤ limit → NotAfter limit (if runs then Some (end + slot) else None)
if_slot end slot limit true le = le
if_slot end slot limit false le = tt

phase_timer-by : (p : Params) (a : ℕ) (s : Station) (ph : Phase) → Waits p (tto p a) → s.address ≡ a → s.own.end ≤ s.quiet → NotAfter (s.quiet + tto p a) (phase_timer p s ph)
phase_timer-by p a s Offline waits at order = tt
phase_timer-by p a s PassiveIdle waits at order = tt
phase_timer-by p a s (Listening doubled) waits at order = subst (λ n. s.quiet + tto p n ≤ s.quiet + tto p a) (sym at) (omega arith)
phase_timer-by p a s (Idle refused) waits at order = subst (λ n. s.quiet + tto p n ≤ s.quiet + tto p a) (sym at) (omega arith)
phase_timer-by p a s (Claim sent ready) waits at order = tt
phase_timer-by p a s (Use asked ready) waits at order = tt
phase_timer-by p a s (AwaitData asked retry slot) waits at order = if_slot s.own.end p.tsl (s.quiet + tto p a) slot (omega (arith, order, waits.slot))
phase_timer-by p a s (AwaitStatus of slot) waits at order = if_slot s.own.end p.tsl (s.quiet + tto p a) slot (omega (arith, order, waits.slot))
phase_timer-by p a s (Pass tries ready) waits at order = tt
phase_timer-by p a s (Checking tries) waits at order = omega (arith, order, waits.slot)

timer-by : (p : Params) (a : ℕ) (s : Station) → Waits p (tto p a) → Wakes p a s → NotAfter (s.quiet + tto p a) (timer_of p s)
timer-by p a s waits w = by_test (NotAfter (s.quiet + tto p a)) s.busy None (phase_timer p s s.phase) (λ _. tt) (λ _. phase_timer-by p a s s.phase waits w.0 w.1)

pub wakes-after_timer : (p : Params) (a limit : ℕ) (s : Station) → Waits p (tto p a) → Wakes p a s → Wakes p a (after_timer p limit s)
wakes-after_timer p a limit s waits w = by_timer (timer_of p s) (timer-by p a s waits w)
  where
    by_timer : (o : Option ℕ) → NotAfter (s.quiet + tto p a) o → Wakes p a (timed_out s o limit)
    by_timer None h = w
    by_timer (Some t) h = by_test (Wakes p a) (nat_lt t limit) (phase_timed_out s s.phase t) s (λ _. wakes-timed_out p a s s.phase t h w) (λ _. w)

-- ---- marks

wakes-begun : (busy : Bool) (quiet out : ℕ) (ph : Phase) (own at : ℕ) → WakesBy busy quiet out ph → WakesBy true quiet out (phase_begun ph own at)
wakes-begun busy quiet out Offline own at w = tt
wakes-begun busy quiet out PassiveIdle own at w = w
wakes-begun busy quiet out (Listening doubled) own at w = tt
wakes-begun busy quiet out (Idle refused) own at w = tt
wakes-begun busy quiet out (Claim sent ready) own at w = tt
wakes-begun busy quiet out (Use asked ready) own at w = tt
wakes-begun busy quiet out (AwaitData asked retry slot) own at w = λ e. absurd cc
wakes-begun busy quiet out (AwaitStatus of slot) own at w = λ e. absurd cc
wakes-begun busy quiet out (Pass tries ready) own at w = tt
wakes-begun busy quiet out (Checking tries) own at w = by_test (WakesBy true quiet out) (nat_lt at own) (Checking tries) (Idle None) (λ _. tt) (λ _. tt)

-- an End, at a station that is no longer busy
abbrev Ended : Params → ℕ → ℕ → Station → Type 0
Ended p a at s = (s.address ≡ a) × (s.own.end ≤ s.quiet) × (at ≤ s.quiet)

wakes-doubled : (busy : Bool) (quiet out : ℕ) (doubled : Bool) (sa ts : ℕ) → WakesBy busy quiet out (doubled_by doubled sa ts)
wakes-doubled busy quiet out doubled sa ts = phase-doubled (WakesBy busy quiet out) doubled sa ts tt (λ d. tt)

wakes-listening : (p : Params) (a : ℕ) (s : Station) (doubled : Bool) (at : ℕ) (x : Arrival) → Wakes p a s → Wakes p a (listening_hears p s doubled at x)
wakes-listening p a s doubled at (Token da sa) w = (w.0, w.1, wakes-doubled s.busy s.quiet (tto p a) doubled sa s.address)
wakes-listening p a s doubled at (Framed f) w = w
wakes-listening p a s doubled at Acknowledgement w = w
wakes-listening p a s doubled at NoTelegram w = w

wakes-idle : (p : Params) (a : ℕ) (s : Station) (refused : Option ℕ) (at : ℕ) (x : Arrival) → Waits p (tto p a) → at ≤ s.quiet → Wakes p a s → Wakes p a (idle_hears p s refused at x)
wakes-idle p a s refused at (Token da sa) waits le w =
    let x = with_token s da sa in
    by_test (Wakes p a) (da == s.address) _ _
    (λ _. by_test (Wakes p a) (is_taken_from refused (previous_station s) sa) (taking p x at) _ (λ _. (w.0, w.1, omega (arith, waits.first))) (λ _. (w.0, w.1, tt)))
    (λ _. by_test (Wakes p a) (nat_le skips_limit (skips_of (place_of x.las.stage))) _ x (λ _. (w.0, w.1, tt)) (λ _. w))
wakes-idle p a s refused at (Framed f) waits le w = w
wakes-idle p a s refused at Acknowledgement waits le w = w
wakes-idle p a s refused at NoTelegram waits le w = w

wakes-holder : (p : Params) (a : ℕ) (s : Station) (x : Arrival) → Wakes p a s → Wakes p a (holder_hears s x)
wakes-holder p a s (Token da sa) w = w
wakes-holder p a s (Framed f) w = w
wakes-holder p a s Acknowledgement w = w
wakes-holder p a s NoTelegram w = w

wakes-status_told : (p : Params) (a : ℕ) (s : Station) (of at : ℕ) (fc : Option ℕ) → Waits p (tto p a) → Ended p a at s → Wakes p a (status_told p s of at fc)
wakes-status_told p a s of at None waits e = (e.0, e.1, omega (arith, waits.first, e.1, e.2))
wakes-status_told p a s of at (Some fc) waits e = (e.0, e.1, omega (arith, waits.first, e.2))

wakes-status : (p : Params) (a : ℕ) (s : Station) (of at : ℕ) (x : Arrival) → Waits p (tto p a) → Ended p a at s → Wakes p a (awaiting_status_hears p s of at x)
wakes-status p a s of at (Token da sa) waits e = (e.0, e.1, tt)
wakes-status p a s of at (Framed f) waits e = by_test (Wakes p a) (has_bit f.fc 6) (lost s) _ (λ _. (e.0, e.1, tt)) (λ _. wakes-status_told p a s of at (status_reply s.address of (message.Framed f)) waits e)
wakes-status p a s of at Acknowledgement waits e = wakes-status_told p a s of at None waits e
wakes-status p a s of at NoTelegram waits e = wakes-status_told p a s of at None waits e

wakes-no_reply : (p : Params) (a : ℕ) (s : Station) (asked slot : Bool) (at : ℕ) → Waits p (tto p a) → Ended p a at s → Wakes p a (no_reply p s asked slot at)
wakes-no_reply p a s asked slot at waits e = wakes-not_answered p a s asked slot (max at s.own.end + p.tid1) e.0 e.1 (omega (arith, waits.first, e.1, e.2))

wakes-data_told : (p : Params) (a : ℕ) (s : Station) (asked slot : Bool) (at : ℕ) (m : Message) (o : Option Outcome) → Waits p (tto p a) → Ended p a at s → Wakes p a (data_told p s asked slot at m o)
wakes-data_told p a s asked slot at m (Some outcome) waits e = (e.0, e.1, omega (arith, waits.first, e.2))
wakes-data_told p a s asked slot at m None waits e = wakes-no_reply p a s asked slot at waits e

wakes-data : (p : Params) (a : ℕ) (s : Station) (asked slot : Bool) (at : ℕ) (x : Arrival) → Waits p (tto p a) → Ended p a at s → Wakes p a (awaiting_data_hears p s asked slot at x)
wakes-data p a s asked slot at (Token da sa) waits e = (e.0, e.1, tt)
wakes-data p a s asked slot at (Framed f) waits e =
    by_test (Wakes p a) (has_bit f.fc 6) (lost s) _ (λ _. (e.0, e.1, tt)) (λ _. wakes-data_told p a s asked slot at (message.Framed f) (outcome_of s.cycles.initiator (Some (message.Framed f))) waits e)
wakes-data p a s asked slot at Acknowledgement waits e = wakes-data_told p a s asked slot at message.Acknowledgement (outcome_of s.cycles.initiator (Some message.Acknowledgement)) waits e
wakes-data p a s asked slot at NoTelegram waits e = wakes-no_reply p a s asked slot at waits e

wakes-ended : (p : Params) (a : ℕ) (s : Station) (ph : Phase) (busy : Bool) (at : ℕ) (x : Arrival) → Waits p (tto p a) → s.address ≡ a → s.own.end ≤ s.quiet → WakesBy busy s.quiet (tto p a) ph
    → Wakes p a (phase_ended p (at_end (record s { phase = ph }) at) ph at x)
wakes-ended p a s Offline busy at x waits add order w = (add, omega (arith, order), tt)
wakes-ended p a s PassiveIdle busy at x waits add order w = absurd w
wakes-ended p a s (Listening doubled) busy at x waits add order w = wakes-listening p a (at_end (record s { phase = Listening doubled }) at) doubled at x (add, omega (arith, order), tt)
wakes-ended p a s (Idle refused) busy at x waits add order w = wakes-idle p a (at_end (record s { phase = Idle refused }) at) refused at x waits (omega arith) (add, omega (arith, order), tt)
wakes-ended p a s (Claim sent ready) busy at x waits add order w = wakes-holder p a (at_end (record s { phase = Claim sent ready }) at) x (add, omega (arith, order), omega (arith, w))
wakes-ended p a s (Use asked ready) busy at x waits add order w = wakes-holder p a (at_end (record s { phase = Use asked ready }) at) x (add, omega (arith, order), omega (arith, w))
wakes-ended p a s (AwaitData asked retry slot) busy at x waits add order w = wakes-data p a (at_end (record s { phase = AwaitData asked retry slot }) at) asked slot at x waits (add, omega (arith, order), omega arith)
wakes-ended p a s (AwaitStatus of slot) busy at x waits add order w = wakes-status p a (at_end (record s { phase = AwaitStatus of slot }) at) of at x waits (add, omega (arith, order), omega arith)
wakes-ended p a s (Pass tries ready) busy at x waits add order w = wakes-holder p a (at_end (record s { phase = Pass tries ready }) at) x (add, omega (arith, order), omega (arith, w))
wakes-ended p a s (Checking tries) busy at x waits add order w = wakes-holder p a (at_end (record s { phase = Checking tries }) at) x (add, omega (arith, order), tt)

wakes-heard : (p : Params) (a : ℕ) (s : Station) (m : Mark) → Waits p (tto p a) → Wakes p a s → Wakes p a (heard p s m)
wakes-heard p a s (Begin at seen) waits w = (w.0, w.1, wakes-begun s.busy s.quiet (tto p a) s.phase s.own.begin at w.2)
wakes-heard p a s (End at seen chars) waits w = wakes-ended p a s s.phase s.busy at (arrival_of chars) waits w.0 w.1 w.2

pub wakes-after_mark : (p : Params) (a : ℕ) (s : Station) (m : Mark) → Waits p (tto p a) → Wakes p a s → Wakes p a (after_mark p s m)
wakes-after_mark p a s m waits w = by_test (Wakes p a) (is_offline s.phase) s (heard p s m) (λ _. w) (λ _. wakes-heard p a s m waits w)

pub wakes-after_marks : (p : Params) (a : ℕ) (s : Station) (ms : List Mark) → Waits p (tto p a) → Wakes p a s → Wakes p a (after_marks p s ms)
wakes-after_marks p a s [] waits w = w
wakes-after_marks p a s (m ∷ ms) waits w =
    let x = after_timer p (moment_of m) s in
    wakes-after_marks p a (after_mark p x m) ms waits (wakes-after_mark p a x m waits (wakes-after_timer p a (moment_of m) s waits w))

-- ---- speech

abbrev pub quiet_after : ℕ → Option (List ℕ) → ℕ → ℕ
quiet_after quiet None now = quiet
quiet_after quiet (Some octets) now = max quiet (now + bits (length octets))

-- what a turn leaves of a station: it wakes, is busy as it was, and its own telegram counts
abbrev pub Said : Params → ℕ → Bool → ℕ → ℕ → Station × Option (List ℕ) → Type 0
Said p a busy quiet now turn = Wakes p a turn.0 × (turn.0.busy ≡ busy) × (turn.0.quiet ≡ quiet_after quiet turn.1 now)

said-token : (p : Params) (a : ℕ) (s : Station) (tries now : ℕ) → Waits p (tto p a) → s.address ≡ a → Said p a s.busy s.quiet now (says_token p s tries now)
said-token p a s tries now waits at =
    let octets = token_octets (next_station s) s.address in
    let x = saying s now octets in
    by_test (λ (y : Station). Said p a s.busy s.quiet now (y, Some octets)) (next_station s == s.address) (received_own p x) _
    (λ _. ((at, omega arith, omega (arith, waits.first)), refl, refl)) (λ _. ((at, omega arith, tt), refl, refl))

said-look : (p : Params) (a : ℕ) (s : Station) (next : Option ℕ) (now : ℕ) → Waits p (tto p a) → s.address ≡ a → Said p a s.busy s.quiet now (says_look p s next now)
said-look p a s None now waits at = said-token p a (record s { gap = round_after None now }) 0 now waits at
said-look p a s (Some n) now waits at = ((at, omega arith, λ _. refl), refl, refl)

said-request : (p : Params) (a : ℕ) (s : Station) (asked : Bool) (r : RequestFields) (now : ℕ) → Waits p (tto p a) → s.address ≡ a → Said p a s.busy s.quiet now (says_request p s asked r now)
said-request p a s asked r now waits at =
    let octets = frame_octets (first_sending s.cycles.initiator s.address r) in
    by_test (λ (y : Station). Said p a s.busy s.quiet now (y, Some octets)) (is_answered r.service) _ _
    (λ _. ((at, omega arith, λ _. refl), refl, refl)) (λ _. ((at, omega arith, omega (arith, waits.second)), refl, refl))

said-low : (p : Params) (a : ℕ) (s : Station) (asked : Bool) (r : Option RequestFields) (now : ℕ) → Waits p (tto p a) → s.address ≡ a → Said p a s.busy s.quiet now (says_low p s asked r now)
said-low p a s asked None now waits at =
    by_test (Said p a s.busy s.quiet now) (looks_at_gap p s asked now) _ _
    (λ _. said-look p a s (next_asked s.address (next_station s) p.hsa (last_asked s.gap)) now waits at) (λ _. said-token p a s 0 now waits at)
said-low p a s asked (Some r) now waits at = said-request p a (low_taken s) asked r now waits at

said-high : (p : Params) (a : ℕ) (s : Station) (asked : Bool) (r : Option RequestFields) (now : ℕ) → Waits p (tto p a) → s.address ≡ a → Said p a s.busy s.quiet now (says_high p s asked r now)
said-high p a s asked None now waits at = said-low p a s asked (low_request s now) now waits at
said-high p a s asked (Some r) now waits at = said-request p a (high_taken s) asked r now waits at

said-again : (p : Params) (a : ℕ) (s : Station) (asked : Bool) (o : Option Fields) (now : ℕ) → s.address ≡ a → is_some o ≡ true → Said p a s.busy s.quiet now (says_again s asked o now)
said-again p a s asked None now at some = absurd cc
said-again p a s asked (Some f) now at some = ((at, omega arith, λ _. refl), refl, refl)

said-reply : (p : Params) (a : ℕ) (s : Station) (o : Option Reply) (now : ℕ) → Wakes p a s → ((end : ℕ) → WakesBy s.busy (max s.quiet end) (tto p a) s.phase) → Said p a s.busy s.quiet now (says_reply s o now)
said-reply p a s None now w h = (w, refl, refl)
said-reply p a s (Some r) now w h = ((w.0, omega arith, h (now + bits (length r.octets))), refl, refl)

said-ready : (p : Params) (a : ℕ) (s : Station) (o : Option Reply) (now : ℕ) → Wakes p a s → ((end : ℕ) → WakesBy s.busy (max s.quiet end) (tto p a) s.phase) → Said p a s.busy s.quiet now (says_ready s o now)
said-ready p a s None now w h = (w, refl, refl)
said-ready p a s (Some r) now w h =
    let x = replying s now r in
    by_test (λ (y : Station). Said p a s.busy s.quiet now (y, Some r.octets)) r.joins (joining x) x
    (λ _. ((w.0, omega arith, tt), refl, refl)) (λ _. ((w.0, omega arith, h (now + bits (length r.octets))), refl, refl))

said-phase : (p : Params) (a : ℕ) (s : Station) (ph : Phase) (now moment : ℕ) → Waits p (tto p a) → Wakes p a (record s { phase = ph }) → HasOpen s.cycles.initiator.pending ph → phase_speaks s.reply ph ≡ Some moment
    → Said p a s.busy s.quiet now (phase_says p (record s { phase = ph }) ph now)
said-phase p a s Offline now moment waits w has e = (w, refl, refl)
said-phase p a s PassiveIdle now moment waits w has e = absurd w.2
said-phase p a s (Listening doubled) now moment waits w has e = said-ready p a (record s { phase = Listening doubled }) s.reply now w (λ end. tt)
said-phase p a s (Idle refused) now moment waits w has e = said-reply p a (record s { phase = Idle refused }) s.reply now w (λ end. tt)
said-phase p a s (Claim sent ready) now moment waits w has e =
    let octets = token_octets s.address s.address in
    let x = saying (record s { phase = Claim sent ready }) now octets in
    by_test (λ (y : Station). Said p a s.busy s.quiet now (y, Some octets)) (sent == 0) _ (received_own p x)
    (λ _. ((w.0, omega arith, omega (arith, waits.first)), refl, refl)) (λ _. ((w.0, omega arith, omega (arith, waits.first)), refl, refl))
said-phase p a s (Use asked ready) now moment waits w has e = let x = record s { phase = Use asked ready } in said-high p a x asked (high_request x now) now waits w.0
said-phase p a s (AwaitData asked None slot) now moment waits w has e = absurd cc
said-phase p a s (AwaitData asked (Some m) slot) now moment waits w has e = said-again p a (record s { phase = AwaitData asked (Some m) slot }) asked (retry_of s.cycles.initiator.pending) now w.0 has.1
said-phase p a s (AwaitStatus of slot) now moment waits w has e = absurd cc
said-phase p a s (Pass tries ready) now moment waits w has e = said-token p a (record s { phase = Pass tries ready }) tries now waits w.0
said-phase p a s (Checking tries) now moment waits w has e = absurd cc

said-speech : (p : Params) (a : ℕ) (s : Station) (now : ℕ) → Waits p (tto p a) → Wakes p a s → HasOpenRequest s → Said p a s.busy s.quiet now (speech p s (speaks_at s) now)
said-speech p a s now waits w has = by (speaks_at s) refl
  where
    by : (o : Option ℕ) → speaks_at s ≡ o → Said p a s.busy s.quiet now (speech p s o now)
    by None e = (w, refl, refl)
    by (Some moment) e =
        by_test (Said p a s.busy s.quiet now) (nat_le moment now) (phase_says p s s.phase now) (s, None) (λ _. said-phase p a s s.phase now moment waits w has e) (λ _. (w, refl, refl))

-- ---- a turn

abbrev AsBefore : Station → Station → Type 0
AsBefore s y = (y.busy ≡ s.busy) × (y.quiet ≡ s.quiet) × (is_offline s.phase ≡ false → is_offline y.phase ≡ false)

same-timed_out : (s : Station) (ph : Phase) (t : ℕ) → AsBefore (record s { phase = ph }) (phase_timed_out (record s { phase = ph }) ph t)
same-timed_out s Offline t = (refl, refl, λ h. h)
same-timed_out s PassiveIdle t = (refl, refl, λ h. h)
same-timed_out s (Listening doubled) t = (refl, refl, λ h. refl)
same-timed_out s (Idle refused) t = (refl, refl, λ h. refl)
same-timed_out s (Claim sent ready) t = (refl, refl, λ h. h)
same-timed_out s (Use asked ready) t = (refl, refl, λ h. h)
same-timed_out s (AwaitData asked retry slot) t = by_test (AsBefore (record s { phase = AwaitData asked retry slot })) (is_some (retry_of s.cycles.initiator.pending)) _ _ (λ _. (refl, refl, λ h. refl)) (λ _. (refl, refl, λ h. refl))
same-timed_out s (AwaitStatus of slot) t = (refl, refl, λ h. refl)
same-timed_out s (Pass tries ready) t = (refl, refl, λ h. h)
same-timed_out s (Checking tries) t = by_test (AsBefore (record s { phase = Checking tries })) (nat_le tries_limit tries) _ _ (λ _. (refl, refl, λ h. refl)) (λ _. (refl, refl, λ h. refl))

-- a timer leaves a station busy or not, and quiet as long as it was
pub same-after_timer : (p : Params) (limit : ℕ) (s : Station) → AsBefore s (after_timer p limit s)
same-after_timer p limit s = by_timer (timer_of p s)
  where
    by_timer : (o : Option ℕ) → AsBefore s (timed_out s o limit)
    by_timer None = (refl, refl, λ h. h)
    by_timer (Some t) = by_test (AsBefore s) (nat_lt t limit) (phase_timed_out s s.phase t) s (λ _. same-timed_out s s.phase t) (λ _. (refl, refl, λ h. h))

pub said-turn_of : (p : Params) (a : ℕ) (s : Station) (ms : List Mark) (now : ℕ) → Waits p (tto p a) → Wakes p a s → HasOpenRequest s
    → Said p a (after_marks p s ms).busy (after_marks p s ms).quiet now (turn_of p s ms now)
said-turn_of p a s ms now waits w has =
    let v = after_marks p s ms in
    let x = settled p s ms now in
    let same = same-after_timer p (now + 1) v in
    subst (λ b. Said p a b v.quiet now (turn_of p s ms now)) same.0 (subst (λ q. Said p a x.busy q now (turn_of p s ms now)) same.1
    (said-speech p a x now waits (wakes-after_timer p a (now + 1) v waits (wakes-after_marks p a s ms waits w)) (left-settled p s ms now has)))

pub wakes-started : (p : Params) (a : ℕ) (s : Station) (now : ℕ) → s.address ≡ a → Wakes p a (started p s true now)
wakes-started p a s now at = (at, omega arith, tt)
