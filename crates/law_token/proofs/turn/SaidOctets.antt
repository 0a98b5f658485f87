-- What a turn says spells a telegram, where its station's address, its next station, its open request and its reply do.
use Rattle.std.proofs.Common.{◌≡◌, ℕ, ◌+◌, ◌%◌, ◌<◌, Bool, true, false, if◌then◌else◌, ◌==◌, List, [], map, arith, Option, Some, None}
use Rattle.std.specs.Prelude.{nat_le, IfSome}
use Rattle.pb_telegram.specs.Faults.{fault_of}
use Rattle.pb_telegram.specs.declared.chars.RxChar.TheVariants.{Good}
use Rattle.pb_timers.specs.Timers.{Params}
use Rattle.pb_ring.specs.Gap.{next_asked, last_asked}
use Rattle.pb_cycles.specs.declared.services.Priority.{Priority}
use Rattle.pb_cycles.specs.declared.services.Priority.TheVariants.{Low, High}
use Rattle.pb_cycles.specs.Fields.{Fields}
use Rattle.pb_cycles.specs.RequestFields.{RequestFields}
use Rattle.pb_cycles.specs.Requests.{is_answered, code_of, priority_of}
use Rattle.pb_cycles.specs.declared.services.Service.{Service}
use Rattle.pb_cycles.specs.declared.services.Service.TheVariants.{Sda, Sdn, Srd}
use Rattle.pb_cycles.specs.Counts.{count_at}
use Rattle.pb_telegram.specs.Control.{count_bits}
use Rattle.pb_cycles.specs.Initiating.{first_sending, retry_of}
use Rattle.pb_telegram.specs.declared.control.FrameCount.{FrameCount}
use Rattle.pb_telegram.specs.declared.control.FrameCount.TheVariants.{First, Clear, Set}
use Rattle.pb_cycles.specs.declared.initiators.OpenRequest.{OpenRequest}
use Rattle.law_turn.specs.Marks.{Mark}
use Rattle.law_turn.specs.Phases.{Phase, Offline, PassiveIdle, Listening, Idle, Claim, Use, AwaitData, AwaitStatus, Pass, Checking}
use Rattle.law_turn.specs.Stations.{Station, Reply, next_station, speaks_at}
use Rattle.law_turn.specs.Laws.{HasReply, HasCycles, IsRequest, IsOpenRequest}
use Rattle.law_turn.specs.Turns.{says_token, looks_at_gap, says_look, says_no_request, high_request, low_request, high_taken, low_taken, says_request, says_low, says_high, says_again, says_reply, says_ready, phase_says, speech, settled, turn_of}
use Rattle.law_turn.proofs.Keeping.{high-request, low-request}
use Rattle.law_turn.proofs.Initiating.{reply-settled}
use Rattle.law_model.proofs.Cases.{by_test}
use Rattle.law_token.proofs.bus.Spelling.{token_spelled, frame_spelled}

abbrev pub Spelled : Option (List ℕ) → Type 0
Spelled o = IfSome o (λ octets. fault_of (map Good octets) ≡ None)

-- what a station needs so that all that it says spells telegrams
pub record CanSpell (s : Station) : Type 0 where
  pub address : s.address < 127
  pub next : next_station s < 127
  pub pending : IfSome s.cycles.initiator.pending (λ o. (o.sent.sa % 128 < 127) × (o.sent.fc < 128))
  pub reply : IfSome s.reply (λ r. fault_of (map Good r.octets) ≡ None)

pub low_address : (a : ℕ) → a < 127 → a % 128 < 127
low_address a h = omega (arith, h)

spelled_token : (p : Params) (s : Station) (tries now : ℕ) → s.address < 127 → next_station s < 127 → Spelled (says_token p s tries now).1
spelled_token p s tries now a n = token_spelled (next_station s) s.address n a

spelled_look : (p : Params) (s : Station) (next : Option ℕ) (now : ℕ) → s.address < 127 → next_station s < 127 → Spelled (says_look p s next now).1
spelled_look p s None now a n = token_spelled (next_station s) s.address n a
spelled_look p s (Some to) now a n = frame_spelled (record { da = to; sa = s.address; fc = 0x49; unit = [] }) (low_address s.address a) (omega arith) (omega arith)

spelled_no_request : (p : Params) (s : Station) (asked : Bool) (now : ℕ) → s.address < 127 → next_station s < 127 → Spelled (says_no_request p s asked now).1
spelled_no_request p s asked now a n =
    by_test (λ (turn : Station × Option (List ℕ)). Spelled turn.1) (looks_at_gap p s asked now) (says_look p s (next_asked s.address (next_station s) p.hsa (last_asked s.gap)) now) (says_token p s 0 now)
    (λ _. spelled_look p s (next_asked s.address (next_station s) p.hsa (last_asked s.gap)) now a n) (λ _. spelled_token p s 0 now a n)

pub code_small : (service : Service) (priority : Priority) (count : FrameCount) → 0x40 + (if is_answered service then count_bits count else 0) + code_of service priority < 128
code_small Sda High First = omega arith
code_small Sda High Clear = omega arith
code_small Sda High Set = omega arith
code_small Sda Low First = omega arith
code_small Sda Low Clear = omega arith
code_small Sda Low Set = omega arith
code_small Sdn High count = omega arith
code_small Sdn Low count = omega arith
code_small Srd High First = omega arith
code_small Srd High Clear = omega arith
code_small Srd High Set = omega arith
code_small Srd Low First = omega arith
code_small Srd Low Clear = omega arith
code_small Srd Low Set = omega arith

spelled_request : (p : Params) (s : Station) (asked : Bool) (r : RequestFields) (now : ℕ) → s.address < 127 → IsRequest r → Spelled (says_request p s asked r now).1
spelled_request p s asked r now a is =
    frame_spelled (first_sending s.cycles.initiator s.address r) (low_address s.address a) (code_small r.service (priority_of r.high) (count_at s.cycles.initiator.counts r.da)) is.fits

spelled_low : (p : Params) (s : Station) (asked : Bool) (r : Option RequestFields) (now : ℕ) → s.address < 127 → next_station s < 127 → IfSome r IsRequest → Spelled (says_low p s asked r now).1
spelled_low p s asked None now a n is = spelled_no_request p s asked now a n
spelled_low p s asked (Some r) now a n is = spelled_request p (low_taken s) asked r now a is

spelled_high : (p : Params) (s : Station) (asked : Bool) (r : Option RequestFields) (now : ℕ) → s.address < 127 → next_station s < 127 → HasCycles s → IfSome r IsRequest → Spelled (says_high p s asked r now).1
spelled_high p s asked None now a n has is = spelled_low p s asked (low_request s now) now a n (low-request s now has)
spelled_high p s asked (Some r) now a n has is = spelled_request p (high_taken s) asked r now a is

spelled_again : (s : Station) (asked : Bool) (o : Option OpenRequest) (now : ℕ) → IfSome o IsOpenRequest → IfSome o (λ o. (o.sent.sa % 128 < 127) × (o.sent.fc < 128)) → Spelled (says_again s asked (retry_of o) now).1
spelled_again s asked None now is can = tt
spelled_again s asked (Some o) now is can =
    by_test (λ (f : Option Fields). Spelled (says_again s asked f now).1) (o.left == 0) None (Some o.sent) (λ _. tt) (λ _. frame_spelled o.sent can.0 can.1 is.fits)

spelled_reply : (s : Station) (r : Option Reply) (now : ℕ) → IfSome r (λ r. fault_of (map Good r.octets) ≡ None) → Spelled (says_reply s r now).1
spelled_reply s None now h = tt
spelled_reply s (Some r) now h = h

spelled_ready : (s : Station) (r : Option Reply) (now : ℕ) → IfSome r (λ r. fault_of (map Good r.octets) ≡ None) → Spelled (says_ready s r now).1
spelled_ready s None now h = tt
spelled_ready s (Some r) now h = h

spelled_phase : (p : Params) (s : Station) (ph : Phase) (now : ℕ) → CanSpell s → HasCycles s → Spelled (phase_says p s ph now).1
spelled_phase p s Offline now can has = tt
spelled_phase p s PassiveIdle now can has = spelled_reply s s.reply now can.reply
spelled_phase p s (Listening doubled) now can has = spelled_ready s s.reply now can.reply
spelled_phase p s (Idle refused) now can has = spelled_reply s s.reply now can.reply
spelled_phase p s (Claim sent ready) now can has = token_spelled s.address s.address can.address can.address
spelled_phase p s (Use asked ready) now can has = spelled_high p s asked (high_request s now) now can.address can.next has (high-request s now has)
spelled_phase p s (AwaitData asked retry slot) now can has = spelled_again s asked s.cycles.initiator.pending now has.pending can.pending
spelled_phase p s (AwaitStatus of slot) now can has = tt
spelled_phase p s (Pass tries ready) now can has = spelled_token p s tries now can.address can.next
spelled_phase p s (Checking tries) now can has = tt

spelled_speech : (p : Params) (s : Station) (o : Option ℕ) (now : ℕ) → CanSpell s → HasCycles s → Spelled (speech p s o now).1
spelled_speech p s None now can has = tt
spelled_speech p s (Some moment) now can has =
    by_test (λ (turn : Station × Option (List ℕ)). Spelled turn.1) (nat_le moment now) (phase_says p s s.phase now) (s, None) (λ _. spelled_phase p s s.phase now can has) (λ _. tt)

pub says_spelled : (p : Params) (s : Station) (marks : List Mark) (now : ℕ) → HasReply s → HasCycles s → CanSpell (settled p s marks now) → Spelled (turn_of p s marks now).1
says_spelled p s marks now reply cycles can =
    let x = settled p s marks now in spelled_speech p x (speaks_at x) now can (reply-settled p s marks now (reply, cycles)).1
