-- Each token or request that a station says has its address as its source.
use Rattle.std.proofs.Common.{◌≡◌, ℕ, ◌<◌, ◌==◌, Bool, true, false, List, [], length, sym, ◌∙◌, arith, Option, Some, None}
use Rattle.std.specs.Prelude.{IfSome, nat_le}
use Rattle.pb_timers.specs.Timers.{Params}
use Rattle.pb_ring.specs.Gap.{next_asked, last_asked}
use Rattle.pb_cycles.specs.Fields.{Fields}
use Rattle.pb_cycles.specs.Messages.{frame_octets}
use Rattle.pb_cycles.specs.RequestFields.{RequestFields}
use Rattle.pb_cycles.specs.Initiating.{first_sending, retry_of}
use Rattle.pb_cycles.specs.declared.initiators.OpenRequest.{OpenRequest}
use Rattle.law_turn.specs.Arrivals.{telegram_arrival}
use Rattle.law_turn.specs.Laws.{IsReply, HasReply, HasCycles, are_initiator}
use Rattle.law_turn.specs.Marks.{Mark}
use Rattle.law_turn.specs.Phases.{Phase, Offline, PassiveIdle, Listening, Idle, Claim, Use, AwaitData, AwaitStatus, Pass, Checking}
use Rattle.law_turn.specs.Stations.{Station, Reply, next_station, speaks_at}
use Rattle.law_turn.specs.Turns.{says_token, looks_at_gap, says_look, says_no_request, high_request, low_request, says_low, says_high, says_again, says_reply, says_ready, phase_says, speech, settled, turn_of}
use Rattle.law_turn.proofs.Cases.{by_test}
use Rattle.law_turn.proofs.Initiating.{reply-settled}
use Rattle.pb_monitor.specs.Meanings.{source_of}
use Rattle.law_monitor.proofs.sources.Opened.{IsFrom, Names, names-settled}

-- if octets are a token or request, they have an address as their source
abbrev pub Sources : ℕ → List ℕ → Type 0
Sources n octets = are_initiator octets ≡ true → source_of (telegram_arrival octets) ≡ n

abbrev pub SaysFrom : ℕ → Option (List ℕ) → Type 0
SaysFrom n said = IfSome said (λ octets. Sources n octets)

-- a frame has the source that its fields say
frame_source : (n : ℕ) (f : Fields) → n < 127 → f.sa ≡ n → Sources n (frame_octets f)
frame_source n f low same =
    by_test (Sources n) (length f.unit == 0) _ _ (λ _ is. omega (arith, low, same))
    (λ _. by_test (Sources n) (length f.unit == 8) _ _ (λ _ is. omega (arith, low, same)) (λ _ is. omega (arith, low, same)))

says_look-source : (n : ℕ) (p : Params) (s : Station) (next : Option ℕ) (now : ℕ) → n < 127 → s.address ≡ n → SaysFrom n (says_look p s next now).1
says_look-source n p s None now low same = λ is. same
says_look-source n p s (Some to) now low same = frame_source n (record { da = to; sa = s.address; fc = 0x49; unit = [] }) low same

no_request-source : (n : ℕ) (p : Params) (s : Station) (asked : Bool) (now : ℕ) → n < 127 → s.address ≡ n → SaysFrom n (says_no_request p s asked now).1
no_request-source n p s asked now low same =
    by_test (λ (turn : Station × Option (List ℕ)). SaysFrom n turn.1) (looks_at_gap p s asked now) (says_look p s (next_asked s.address (next_station s) p.hsa (last_asked s.gap)) now) (says_token p s 0 now)
    (λ _. says_look-source n p s (next_asked s.address (next_station s) p.hsa (last_asked s.gap)) now low same) (λ _ is. same)

low-source : (n : ℕ) (p : Params) (s : Station) (asked : Bool) (r : Option RequestFields) (now : ℕ) → n < 127 → s.address ≡ n → SaysFrom n (says_low p s asked r now).1
low-source n p s asked None now low same = no_request-source n p s asked now low same
low-source n p s asked (Some r) now low same = frame_source n (first_sending s.cycles.initiator s.address r) low same

high-source : (n : ℕ) (p : Params) (s : Station) (asked : Bool) (r : Option RequestFields) (now : ℕ) → n < 127 → s.address ≡ n → SaysFrom n (says_high p s asked r now).1
high-source n p s asked None now low same = low-source n p s asked (low_request s now) now low same
high-source n p s asked (Some r) now low same = frame_source n (first_sending s.cycles.initiator s.address r) low same

again-source : (n : ℕ) (s : Station) (asked : Bool) (o : Option OpenRequest) (now : ℕ) → n < 127 → IsFrom n o → SaysFrom n (says_again s asked (retry_of o) now).1
again-source n s asked None now low from = tt
again-source n s asked (Some o) now low from =
    by_test (λ (f : Option Fields). SaysFrom n (says_again s asked f now).1) (o.left == 0) None (Some o.sent) (λ _. tt) (λ _. frame_source n o.sent low from)

-- a reply is neither a token nor a request
reply-source : (n : ℕ) (s : Station) (o : Option Reply) (now : ℕ) → IfSome o (λ r. IsReply r.octets) → SaysFrom n (says_reply s o now).1 × SaysFrom n (says_ready s o now).1
reply-source n s None now has = (tt, tt)
reply-source n s (Some r) now has = (λ is. absurd (none is), λ is. absurd (none is))
  where
    none : are_initiator r.octets ≡ true → ⊥
    none is = let w : false ≡ true = sym has.no_initiator ∙ is in cc

phase-source : (n : ℕ) (p : Params) (s : Station) (ph : Phase) (now : ℕ) → n < 127 → Names n s → HasReply s → SaysFrom n (phase_says p s ph now).1
phase-source n p s Offline now low names has = tt
phase-source n p s PassiveIdle now low names has = (reply-source n s s.reply now has).0
phase-source n p s (Listening doubled) now low names has = (reply-source n s s.reply now has).1
phase-source n p s (Idle refused) now low names has = (reply-source n s s.reply now has).0
phase-source n p s (Claim sent ready) now low names has = λ is. names.0
phase-source n p s (Use asked ready) now low names has = high-source n p s asked (high_request s now) now low names.0
phase-source n p s (AwaitData asked retry slot) now low names has = again-source n s asked s.cycles.initiator.pending now low names.1
phase-source n p s (AwaitStatus of slot) now low names has = tt
phase-source n p s (Pass tries ready) now low names has = λ is. names.0
phase-source n p s (Checking tries) now low names has = tt

speech-source : (n : ℕ) (p : Params) (s : Station) (o : Option ℕ) (now : ℕ) → n < 127 → Names n s → HasReply s → SaysFrom n (speech p s o now).1
speech-source n p s None now low names has = tt
speech-source n p s (Some moment) now low names has =
    by_test (λ (turn : Station × Option (List ℕ)). SaysFrom n turn.1) (nat_le moment now) (phase_says p s s.phase now) (s, None) (λ _. phase-source n p s s.phase now low names has) (λ _. tt)

pub turn-source : (n : ℕ) (p : Params) (s : Station) (marks : List Mark) (now : ℕ) → n < 127 → Names n s → HasReply s → HasCycles s → SaysFrom n (turn_of p s marks now).1
turn-source n p s marks now low names has cycles =
    let x = settled p s marks now in speech-source n p x (speaks_at x) now low (names-settled n p s marks now names) (reply-settled p s marks now (has, cycles)).0
