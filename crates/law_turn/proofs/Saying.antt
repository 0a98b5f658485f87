-- What a station says when it speaks.
use Rattle.std.proofs.Common.{◌≡◌, ◌∙◌, ℕ, ◌+◌, ◌==◌, List, [], length, Bool, true, false, refl, ap, sym, subst, Option, Some, None}
use Rattle.std.specs.Prelude.{IfSome, IsSome, max, nat_le}
use Rattle.pb_timers.specs.Timers.{Params, bits}
use Rattle.pb_ring.specs.Gap.{next_asked, last_asked, round_after}
use Rattle.pb_cycles.specs.Fields.{Fields}
use Rattle.pb_cycles.specs.Messages.{frame_octets}
use Rattle.pb_cycles.specs.RequestFields.{RequestFields}
use Rattle.pb_cycles.specs.Requests.{is_answered}
use Rattle.pb_cycles.specs.Initiating.{retry_of, first_sending}
use Rattle.law_turn.specs.Laws.{HasOpen, HasOpenRequest}
use Rattle.law_turn.specs.Marks.{Mark}
use Rattle.law_turn.specs.Phases.{Phase, Offline, PassiveIdle, Listening, Idle, Claim, Use, AwaitData, AwaitStatus, Pass, Checking}
use Rattle.law_turn.specs.Stations.{Station, Reply, phase_speaks, speaks_at, next_station, due_of}
use Rattle.law_turn.specs.Turns.{looks_at_gap, says_look, says_no_request, high_request, low_request, high_taken, low_taken, says_request, says_low, says_high, says_again, says_token, says_reply, says_ready, phase_says, speech, turn_of, settled, saying, replying, joining, received_own, token_octets}
use Rattle.law_turn.proofs.Cases.{by_test}

look-some : (p : Params) (s : Station) (next : Option ℕ) (now : ℕ) → IsSome (says_look p s next now).1
look-some p s None now = refl
look-some p s (Some a) now = refl

no_request-some : (p : Params) (s : Station) (asked : Bool) (now : ℕ) → IsSome (says_no_request p s asked now).1
no_request-some p s asked now =
    by_test (λ (turn : Station × Option (List ℕ)). IsSome turn.1) (looks_at_gap p s asked now) _ _
    (λ _. look-some p s (next_asked s.address (next_station s) p.hsa (last_asked s.gap)) now) (λ _. refl)

low-some : (p : Params) (s : Station) (asked : Bool) (r : Option RequestFields) (now : ℕ) → IsSome (says_low p s asked r now).1
low-some p s asked None now = no_request-some p s asked now
low-some p s asked (Some r) now = refl

high-some : (p : Params) (s : Station) (asked : Bool) (r : Option RequestFields) (now : ℕ) → IsSome (says_high p s asked r now).1
high-some p s asked None now = low-some p s asked (low_request s now) now
high-some p s asked (Some r) now = refl

again-some : (s : Station) (asked : Bool) (f : Option Fields) (now : ℕ) → IsSome f → IsSome (says_again s asked f now).1
again-some s asked None now left = left
again-some s asked (Some f) now left = refl

-- a phase that has a speaking moment says something
says-some : (p : Params) (s : Station) (ph : Phase) (now : ℕ) → HasOpen s.cycles.initiator.pending ph → IfSome (phase_speaks s.reply ph) (λ moment. IsSome (phase_says p (record s { phase = ph }) ph now).1)
says-some p s Offline now left = tt
says-some p s PassiveIdle now left = by_reply s.reply
  where
    by_reply : (o : Option Reply) → IfSome (phase_speaks o PassiveIdle) (λ moment. IsSome (says_reply (record s { phase = PassiveIdle }) o now).1)
    by_reply None = tt
    by_reply (Some r) = refl
says-some p s (Listening doubled) now left = by_reply s.reply
  where
    by_reply : (o : Option Reply) → IfSome (phase_speaks o (Listening doubled)) (λ moment. IsSome (says_ready (record s { phase = Listening doubled }) o now).1)
    by_reply None = tt
    by_reply (Some r) = refl
says-some p s (Idle refused) now left = by_reply s.reply
  where
    by_reply : (o : Option Reply) → IfSome (phase_speaks o (Idle refused)) (λ moment. IsSome (says_reply (record s { phase = Idle refused }) o now).1)
    by_reply None = tt
    by_reply (Some r) = refl
says-some p s (Claim sent ready) now left = refl
says-some p s (Use asked ready) now left = let x = record s { phase = Use asked ready } in high-some p x asked (high_request x now) now
says-some p s (AwaitData asked retry slot) now left = by_retry retry left.1
  where
    by_retry : (o : Option ℕ) → IfSome o (λ ready. IsSome (retry_of s.cycles.initiator.pending))
        → IfSome o (λ moment. IsSome (says_again (record s { phase = AwaitData asked retry slot }) asked (retry_of s.cycles.initiator.pending) now).1)
    by_retry None left = tt
    by_retry (Some ready) left = again-some (record s { phase = AwaitData asked retry slot }) asked (retry_of s.cycles.initiator.pending) now left
says-some p s (AwaitStatus of slot) now left = tt
says-some p s (Pass tries ready) now left = refl
says-some p s (Checking tries) now left = tt

pub phase_says-some : (p : Params) (s : Station) (now moment : ℕ) → HasOpenRequest s → speaks_at s ≡ Some moment → IsSome (phase_says p s s.phase now).1
phase_says-some p s now moment left e = subst (λ (o : Option ℕ). IfSome o (λ m. IsSome (phase_says p s s.phase now).1)) e (says-some p s s.phase now left)

-- ---- the own telegram

-- the own last telegram, and since when it is quiet
abbrev sound_of : Station → ℕ × ℕ × ℕ
sound_of s = (s.own.begin, s.own.end, s.quiet)

abbrev sounded : Station → (now end : ℕ) → ℕ × ℕ × ℕ
sounded s now end = (now, end, max s.quiet end)

-- where a station says octets, its own telegram lasts as long as they do, and it is quiet after it at the earliest
abbrev OwnLasts : Station → Station × Option (List ℕ) → ℕ → Type 0
OwnLasts s turn now = IfSome turn.1 (λ octets. sound_of turn.0 ≡ sounded s now (now + bits (length octets)))

own-says_token : (p : Params) (s : Station) (tries now : ℕ) → OwnLasts s (says_token p s tries now) now
own-says_token p s tries now =
    let x = saying s now (token_octets (next_station s) s.address) in
    by_test (λ (y : Station). sound_of y ≡ sounded s now (now + 33)) (next_station s == s.address) (received_own p x) _ (λ _. refl) (λ _. refl)

own-says_look : (p : Params) (s : Station) (next : Option ℕ) (now : ℕ) → OwnLasts s (says_look p s next now) now
own-says_look p s None now = own-says_token p (record s { gap = round_after None now }) 0 now
own-says_look p s (Some a) now = refl

own-says_no_request : (p : Params) (s : Station) (asked : Bool) (now : ℕ) → OwnLasts s (says_no_request p s asked now) now
own-says_no_request p s asked now =
    by_test (λ (turn : Station × Option (List ℕ)). OwnLasts s turn now) (looks_at_gap p s asked now) _ _
    (λ _. own-says_look p s (next_asked s.address (next_station s) p.hsa (last_asked s.gap)) now) (λ _. own-says_token p s 0 now)

own-says_request : (p : Params) (s : Station) (asked : Bool) (r : RequestFields) (now : ℕ) → OwnLasts s (says_request p s asked r now) now
own-says_request p s asked r now =
    by_test (λ (y : Station). sound_of y ≡ sounded s now (now + bits (length (frame_octets (first_sending s.cycles.initiator s.address r))))) (is_answered r.service) _ _ (λ _. refl) (λ _. refl)

own-says_low : (p : Params) (s : Station) (asked : Bool) (r : Option RequestFields) (now : ℕ) → OwnLasts s (says_low p s asked r now) now
own-says_low p s asked None now = own-says_no_request p s asked now
own-says_low p s asked (Some r) now = own-says_request p (low_taken s) asked r now

own-says_high : (p : Params) (s : Station) (asked : Bool) (r : Option RequestFields) (now : ℕ) → OwnLasts s (says_high p s asked r now) now
own-says_high p s asked None now = own-says_low p s asked (low_request s now) now
own-says_high p s asked (Some r) now = own-says_request p (high_taken s) asked r now

own-says_again : (s : Station) (asked : Bool) (f : Option Fields) (now : ℕ) → OwnLasts s (says_again s asked f now) now
own-says_again s asked None now = tt
own-says_again s asked (Some f) now = refl

own-phase_says : (p : Params) (s : Station) (ph : Phase) (now : ℕ) → OwnLasts s (phase_says p (record s { phase = ph }) ph now) now
own-phase_says p s Offline now = tt
own-phase_says p s PassiveIdle now = by_reply s.reply
  where
    by_reply : (o : Option Reply) → OwnLasts s (says_reply (record s { phase = PassiveIdle }) o now) now
    by_reply None = tt
    by_reply (Some r) = refl
own-phase_says p s (Listening doubled) now = by_reply s.reply
  where
    by_reply : (o : Option Reply) → OwnLasts s (says_ready (record s { phase = Listening doubled }) o now) now
    by_reply None = tt
    by_reply (Some r) =
        let x = replying (record s { phase = Listening doubled }) now r in
        by_test (λ (y : Station). sound_of y ≡ sounded s now (now + bits (length r.octets))) r.joins (joining x) x (λ _. refl) (λ _. refl)
own-phase_says p s (Idle refused) now = by_reply s.reply
  where
    by_reply : (o : Option Reply) → OwnLasts s (says_reply (record s { phase = Idle refused }) o now) now
    by_reply None = tt
    by_reply (Some r) = refl
own-phase_says p s (Claim sent ready) now =
    let x = saying s now (token_octets s.address s.address) in
    by_test (λ (y : Station). sound_of y ≡ sounded s now (now + 33)) (sent == 0) _ (received_own p x) (λ _. refl) (λ _. refl)
own-phase_says p s (Use asked ready) now = let x = record s { phase = Use asked ready } in own-says_high p x asked (high_request x now) now
own-phase_says p s (AwaitData asked retry slot) now = own-says_again (record s { phase = AwaitData asked retry slot }) asked (retry_of s.cycles.initiator.pending) now
own-phase_says p s (AwaitStatus of slot) now = tt
own-phase_says p s (Pass tries ready) now = own-says_token p (record s { phase = Pass tries ready }) tries now
own-phase_says p s (Checking tries) now = tt

own-speech : (p : Params) (s : Station) (o : Option ℕ) (now : ℕ) → OwnLasts s (speech p s o now) now
own-speech p s None now = tt
own-speech p s (Some moment) now =
    by_test (λ (turn : Station × Option (List ℕ)). OwnLasts s turn now) (nat_le moment now) (phase_says p s s.phase now) (s, None) (λ _. own-phase_says p s s.phase now) (λ _. tt)

own-turn_of : (p : Params) (s : Station) (marks : List Mark) (now : ℕ) (octets : List ℕ) → (turn_of p s marks now).1 ≡ Some octets
    → sound_of (turn_of p s marks now).0 ≡ sounded (settled p s marks now) now (now + bits (length octets))
own-turn_of p s marks now octets said =
    let x = settled p s marks now in
    subst (λ (o : Option (List ℕ)). IfSome o (λ octets. sound_of (turn_of p s marks now).0 ≡ sounded x now (now + bits (length octets)))) said (own-speech p x (speaks_at x) now)

pub own-begins : (p : Params) (s : Station) (marks : List Mark) (now : ℕ) (octets : List ℕ) → (turn_of p s marks now).1 ≡ Some octets → (turn_of p s marks now).0.own.begin ≡ now
own-begins p s marks now octets said = ap (λ (q : ℕ × ℕ × ℕ). q.0) (own-turn_of p s marks now octets said)

pub own-ends : (p : Params) (s : Station) (marks : List Mark) (now : ℕ) (octets : List ℕ) → (turn_of p s marks now).1 ≡ Some octets
    → (turn_of p s marks now).0.own.end ≡ now + bits (length octets)
own-ends p s marks now octets said = ap (λ (q : ℕ × ℕ × ℕ). q.1) (own-turn_of p s marks now octets said)

pub own-quiets : (p : Params) (s : Station) (marks : List Mark) (now : ℕ) (octets : List ℕ) → (turn_of p s marks now).1 ≡ Some octets
    → (turn_of p s marks now).0.quiet ≡ max (settled p s marks now).quiet (now + bits (length octets))
own-quiets p s marks now octets said = ap (λ (q : ℕ × ℕ × ℕ). q.2) (own-turn_of p s marks now octets said)

pub due_in_checking : (p : Params) (s : Station) (tries : ℕ) → s.busy ≡ false → s.phase ≡ Checking tries → due_of p s [] ≡ Some (s.own.end + p.tsl)
due_in_checking p s tries idle checking =
    by_phase s s.phase checking idle
  where
    by_phase : (x : Station) (ph : Phase) → ph ≡ Checking tries → x.busy ≡ false → due_of p (record x { phase = ph }) [] ≡ Some (x.own.end + p.tsl)
    by_phase x ph e idle =
        subst (λ (ph : Phase). due_of p (record x { phase = ph }) [] ≡ Some (x.own.end + p.tsl)) (sym e)
        (subst (λ (b : Bool). due_of p (record x { phase = Checking tries; busy = b }) [] ≡ Some (x.own.end + p.tsl)) (sym idle) refl)

due_in_asking : (p : Params) (s : Station) (of : ℕ) → s.busy ≡ false → s.phase ≡ AwaitStatus of true → due_of p s [] ≡ Some (s.own.end + p.tsl)
due_in_asking p s of idle asking =
    by_phase s s.phase asking idle
  where
    by_phase : (x : Station) (ph : Phase) → ph ≡ AwaitStatus of true → x.busy ≡ false → due_of p (record x { phase = ph }) [] ≡ Some (x.own.end + p.tsl)
    by_phase x ph e idle =
        subst (λ (ph : Phase). due_of p (record x { phase = ph }) [] ≡ Some (x.own.end + p.tsl)) (sym e)
        (subst (λ (b : Bool). due_of p (record x { phase = AwaitStatus of true; busy = b }) [] ≡ Some (x.own.end + p.tsl)) (sym idle) refl)

pub due_in_waiting : (p : Params) (s : Station) (asked : Bool) → s.busy ≡ false → s.phase ≡ AwaitData asked None true → due_of p s [] ≡ Some (s.own.end + p.tsl)
due_in_waiting p s asked idle waiting =
    by_phase s s.phase waiting idle
  where
    by_phase : (x : Station) (ph : Phase) → ph ≡ AwaitData asked None true → x.busy ≡ false → due_of p (record x { phase = ph }) [] ≡ Some (x.own.end + p.tsl)
    by_phase x ph e idle =
        subst (λ (ph : Phase). due_of p (record x { phase = ph }) [] ≡ Some (x.own.end + p.tsl)) (sym e)
        (subst (λ (b : Bool). due_of p (record x { phase = AwaitData asked None true; busy = b }) [] ≡ Some (x.own.end + p.tsl)) (sym idle) refl)

pub due-token_passed : (p : Params) (s : Station) (marks : List Mark) (now tries : ℕ) (octets : List ℕ)
    → (turn_of p s marks now).1 ≡ Some octets → (turn_of p s marks now).0.phase ≡ Checking tries → (turn_of p s marks now).0.busy ≡ false
    → due_of p (turn_of p s marks now).0 [] ≡ Some (now + bits (length octets) + p.tsl)
due-token_passed p s marks now tries octets said checking idle =
    due_in_checking p (turn_of p s marks now).0 tries idle checking ∙ ap (λ (end : ℕ). Some (end + p.tsl)) (own-ends p s marks now octets said)

pub due-asked : (p : Params) (s : Station) (marks : List Mark) (now of : ℕ) (octets : List ℕ)
    → (turn_of p s marks now).1 ≡ Some octets → (turn_of p s marks now).0.phase ≡ AwaitStatus of true → (turn_of p s marks now).0.busy ≡ false
    → due_of p (turn_of p s marks now).0 [] ≡ Some (now + bits (length octets) + p.tsl)
due-asked p s marks now of octets said asking idle =
    due_in_asking p (turn_of p s marks now).0 of idle asking ∙ ap (λ (end : ℕ). Some (end + p.tsl)) (own-ends p s marks now octets said)

pub due-requested : (p : Params) (s : Station) (marks : List Mark) (now : ℕ) (asked : Bool) (octets : List ℕ)
    → (turn_of p s marks now).1 ≡ Some octets → (turn_of p s marks now).0.phase ≡ AwaitData asked None true → (turn_of p s marks now).0.busy ≡ false
    → due_of p (turn_of p s marks now).0 [] ≡ Some (now + bits (length octets) + p.tsl)
due-requested p s marks now asked octets said waiting idle =
    due_in_waiting p (turn_of p s marks now).0 asked idle waiting ∙ ap (λ (end : ℕ). Some (end + p.tsl)) (own-ends p s marks now octets said)
