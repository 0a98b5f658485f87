-- What a holder says keeps it within its time.
use Rattle.std.proofs.Common.{◌≡◌, ℕ, ◌+◌, ◌-◌, ◌<◌, ◌≤◌, Bool, true, false, if◌then◌else◌, ◌==◌, ◌&&◌, ◌||◌, not, List, refl, ap, ◌∙◌, subst, arith, Option, Some, None}
use Rattle.std.specs.Prelude.{nat_le, is_some, IfSome}
use Rattle.std.specs.Option.{option_map}
use Rattle.std.proofs.lemmas.Bool.{ltb-true, eqb-false}
use Rattle.pb_timers.specs.Timers.{Params, bits}
use Rattle.pb_rotation.specs.Rotation.{Rotation, Receipt, before, may_low, may_high, started_high, is_unused, used, holding_left}
use Rattle.pb_ring.specs.Gap.{next_asked, last_asked, round_after}
use Rattle.pb_cycles.specs.Fields.{Fields}
use Rattle.pb_cycles.specs.RequestFields.{RequestFields}
use Rattle.pb_cycles.specs.Requests.{is_answered}
use Rattle.pb_cycles.specs.Initiating.{retry_of, retried, after_request}
use Rattle.pb_cycles.specs.Tables.{InitiatorTable}
use Rattle.pb_cycles.specs.declared.initiators.OpenRequest.{OpenRequest}
use Rattle.law_turn.specs.Laws.{HasOpen, HasOpenRequest}
use Rattle.law_turn.specs.Phases.{Phase, Offline, PassiveIdle, Listening, Idle, Claim, Use, AwaitData, AwaitStatus, Pass, Checking, may_initiate}
use Rattle.law_turn.specs.Stations.{Station, Reply, phase_speaks, speaks_at, next_station}
use Rattle.law_turn.specs.Turns.{looks_at_gap, says_look, says_token, says_no_request, longest_waiting, high_request, low_request, high_taken, low_taken, says_request, says_low, says_high, says_claim, says_again, says_reply, says_ready, replying, joining, phase_says, speech, saying, received_own, token_octets}
use Rattle.law_turn.proofs.Acts.{request-retries}
use Rattle.law_turn.proofs.Cases.{by_test}
use Rattle.law_live.specs.NeverDead.{attempt, tries, cycle}
use Rattle.law_live.specs.Holding.{limit, has_used, left_of, SpendsBy, ReceivedBy, Spends, IsSaidBy, LeavesTail, PhaseSays, IsCycling}
use Rattle.law_live.proofs.Tries.{tries-le, tries-step}
use Rattle.law_live.proofs.HoldersRead.{limit-least, Kept, kept-of}

-- ---- what the end of a holder's time is, and what is left

-- what is some is one thing
some-is : (a b : ℕ) → Some a ≡ Some b → a ≡ b
some-is a b e = cc

-- it is two cycles at most behind the target rotation time
pub limit-most : (p : Params) (recent d : ℕ) (high : Bool) → limit p recent d high ≤ limit p recent d true
limit-most p recent d false = omega arith
limit-most p recent d true = omega arith

-- the retry of an open request that has one
retry-left : (o : Option OpenRequest) → is_some (retry_of o) ≡ true → 0 < left_of o
retry-left None e = absurd (let wrong : false ≡ true = e in cc)
retry-left (Some o) e = by (o.left == 0) refl
  where
    by : (b : Bool) → (o.left == 0) ≡ b → 0 < o.left
    by true q = absurd (let wrong : false ≡ true = subst (λ c. is_some (if c then None else Some o.sent) ≡ true) q e in cc)
    by false q = let n = eqb-false o.left 0 q in omega (arith, n)

-- ---- speech

-- what is said keeps within the time where it is short, and where a token ends by the moment; and what is no token leaves time for all that follows
abbrev pub Says : Params → (recent d now : ℕ) → Station × Option (List ℕ) → Type 0
Says p recent d now turn = IsSaidBy recent d now turn.1 → Spends p recent d turn.0 × LeavesTail p recent d now turn.1

-- a token that is passed to itself is a holder's own receipt, by the moment by which tokens are over
says-token : (p : Params) (recent d : ℕ) (s : Station) (tries now : ℕ) → Kept p recent d s → Says p recent d now (says_token p s tries now)
says-token p recent d s tries now k h =
    let octets = token_octets (next_station s) s.address in
    let x = saying s now octets in
    let end : (now + bits 3 ≤ recent) × (recent ≤ d) = h.1 refl in (
      by_test (Spends p recent d) (next_station s == s.address) (received_own p x) _
          (λ _. record { target = k.0; received = (end.0, before-own x.rotation.last k.1 end); retries = k.2; short = omega arith; spends = omega (arith, end.0) })
          (λ _. record { target = k.0; received = k.1; retries = k.2; short = omega arith; spends = tt }),
      λ e. absurd (let wrong : true ≡ false = e in cc),
    )
  where
    before-own : (last : Option Receipt) → ReceivedBy recent d last → (now + bits 3 ≤ recent) × (recent ≤ d) → before last (now + bits 3) ≤ d
    before-own None r end = omega (arith, end.0, end.1)
    before-own (Some r) b end = omega (arith, b.0, end.1)

-- a low priority cycle starts within the target rotation time of the receipt before the last
low-by : (p : Params) (recent d now : ℕ) (r : Rotation) → r.ttr ≡ p.ttr → ReceivedBy recent d r.last → may_low r now ≡ true → now < d + p.ttr
low-by p recent d now r same by may = go r.last refl
  where
    left : 0 < holding_left r now
    left = ltb-true 0 (holding_left r now) may

    go : (last : Option Receipt) → r.last ≡ last → now < d + p.ttr
    go None e = absurd (let h : 0 < holding_left (record r { last = None }) now = subst (λ (l : Option Receipt). 0 < holding_left (record r { last = l }) now) e left in omega (arith, h))
    go (Some x) e =
        let h : 0 < x.previous + r.ttr - now = subst (λ (l : Option Receipt). 0 < holding_left (record r { last = l }) now) e left in
        let b = subst (ReceivedBy recent d) e by in omega (arith, h, same, b.1)

-- a question for a status leaves an attempt
says-look : (p : Params) (recent d : ℕ) (s : Station) (next : Option ℕ) (now : ℕ) → now < d + p.ttr → Kept p recent d s → Says p recent d now (says_look p s next now)
says-look p recent d s None now low k h = says-token p recent d (record s { gap = round_after None now }) 0 now k h
says-look p recent d s (Some a) now low k h =
    let least = limit-least p recent d (has_used s.rotation.last) in
    let most = limit-least p recent d true in
    (record { target = k.0; received = k.1; retries = k.2; short = omega arith; spends = omega (arith, low, least) }, λ e. omega (arith, low, most))

-- the first of two tests
and-first : (a b : Bool) → (a && b) ≡ true → a ≡ true
and-first true b e = refl
and-first false b e = e

-- with no request a holder asks for a status within the target rotation time, or passes the token
says-no_request : (p : Params) (recent d : ℕ) (s : Station) (asked : Bool) (now : ℕ) → Kept p recent d s → Says p recent d now (says_no_request p s asked now)
says-no_request p recent d s asked now k =
    by_test (Says p recent d now) (looks_at_gap p s asked now) _ _
    (λ e. says-look p recent d s (next_asked s.address (next_station s) p.hsa (last_asked s.gap)) now (low-by p recent d now s.rotation k.0 k.1 (and-first (may_low s.rotation now) _ e)) k)
    (λ _. says-token p recent d s 0 now k)

-- a request, where a whole cycle is left
left-request : (t : InitiatorTable) (ts : ℕ) (r : RequestFields) → left_of (after_request t ts r).pending ≤ t.retries
left-request t ts r = by_test (λ (x : InitiatorTable). left_of x.pending ≤ t.retries) (is_answered r.service) _ _ (λ _. omega arith) (λ _. omega arith)

-- a request leaves a whole cycle
says-request : (p : Params) (recent d : ℕ) (s : Station) (asked : Bool) (r : RequestFields) (now : ℕ) → p.tid2 + p.lag ≤ p.tsl → now + cycle p ≤ limit p recent d (has_used s.rotation.last) → Kept p recent d s
    → Says p recent d now (says_request p s asked r now)
says-request p recent d s asked r now take room k h =
    let most = limit-most p recent d (has_used s.rotation.last) in
    let same = request-retries s.cycles.initiator s.address r ∙ k.2 in
    let few = left-request s.cycles.initiator s.address r in
    let less = tries-le (left_of (after_request s.cycles.initiator s.address r).pending) p.retries (attempt p) (omega (arith, few, k.2)) in
    let short = h.0 in (
      by_test (Spends p recent d) (is_answered r.service) _ _
          (λ _. record { target = k.0; received = k.1; retries = same; short = omega (arith, short); spends = (omega (arith, less, room), omega (arith, few, k.2), tt) })
          (λ _. record { target = k.0; received = k.1; retries = same; short = omega (arith, short); spends = omega (arith, room, take, short) }),
      λ e. omega (arith, room, most),
    )

-- a request of low priority is sent within the target rotation time
says-low : (p : Params) (recent d : ℕ) (s : Station) (asked : Bool) (now : ℕ) → p.tid2 + p.lag ≤ p.tsl → Kept p recent d s → Says p recent d now (says_low p s asked (low_request s now) now)
says-low p recent d s asked now take k = by_may (may_low s.rotation now) refl
  where
    by_waiting : (may : may_low s.rotation now ≡ true) (o : Option RequestFields) → Says p recent d now (says_low p s asked o now)
    by_waiting may None = says-no_request p recent d s asked now k
    by_waiting may (Some r) =
        let low = low-by p recent d now s.rotation k.0 k.1 may in
        let least = limit-least p recent d (has_used s.rotation.last) in says-request p recent d (low_taken s) asked r now take (omega (arith, low, least)) k

    by_may : (b : Bool) → may_low s.rotation now ≡ b → Says p recent d now (says_low p s asked (if b then longest_waiting s.cycles.queue.low else None) now)
    by_may true e = by_waiting e (longest_waiting s.cycles.queue.low)
    by_may false e = says-no_request p recent d s asked now k

-- a high priority cycle starts within the target rotation time too, or is the first since the receipt
high-by : (p : Params) (recent d now : ℕ) (r : Rotation) → r.ttr ≡ p.ttr → ReceivedBy recent d r.last → now ≤ limit p recent d (has_used r.last) → may_high r now ≡ true
    → now + cycle p ≤ limit p recent d (has_used (started_high r).last)
high-by p recent d now r same by time may = go (may_low r now) refl
  where
    used_then : (last : Option Receipt) → limit p recent d (has_used (option_map used last)) ≡ limit p recent d true
    used_then None = refl
    used_then (Some x) = refl

    unused : (last : Option Receipt) → is_unused last ≡ true → has_used last ≡ false
    unused None e = absurd (let wrong : false ≡ true = e in cc)
    unused (Some x) e = by_high x.high e
      where
        by_high : (b : Bool) → not b ≡ true → b ≡ false
        by_high true e = absurd (let wrong : false ≡ true = e in cc)
        by_high false e = refl

    go : (b : Bool) → may_low r now ≡ b → now + cycle p ≤ limit p recent d (has_used (started_high r).last)
    go true e = let low = low-by p recent d now r same by e in let u = used_then r.last in omega (arith, low, u)
    go false e =
        let n : is_unused r.last ≡ true = subst (λ b. (b || is_unused r.last) ≡ true) e may in
        let m : now ≤ limit p recent d false = subst (λ b. now ≤ limit p recent d b) (unused r.last n) time in
        let u = used_then r.last in omega (arith, m, u)

-- a cycle of high priority changes no receipt
received-used : (recent d : ℕ) (last : Option Receipt) → ReceivedBy recent d last → ReceivedBy recent d (option_map used last)
received-used recent d None h = tt
received-used recent d (Some r) h = h

-- what is said with the token leaves time, by what waits
says-in_use : (p : Params) (recent d : ℕ) (s : Station) (asked : Bool) (now : ℕ) → p.tid2 + p.lag ≤ p.tsl → now ≤ limit p recent d (has_used s.rotation.last) → Kept p recent d s
    → Says p recent d now (says_high p s asked (high_request s now) now)
says-in_use p recent d s asked now take time k = by_may (may_high s.rotation now) refl
  where
    by_waiting : (may : may_high s.rotation now ≡ true) (o : Option RequestFields) → Says p recent d now (says_high p s asked o now)
    by_waiting may None = says-low p recent d s asked now take k
    by_waiting may (Some r) =
        says-request p recent d (high_taken s) asked r now take (high-by p recent d now s.rotation k.0 k.1 time may) (k.0, received-used recent d s.rotation.last k.1, k.2, k.3)

    by_may : (b : Bool) → may_high s.rotation now ≡ b → Says p recent d now (says_high p s asked (if b then longest_waiting s.cycles.queue.high else None) now)
    by_may true e = by_waiting e (longest_waiting s.cycles.queue.high)
    by_may false e = says-low p recent d s asked now take k

-- the request is sent again
left-retried : (o : Option OpenRequest) → left_of (retried o) ≡ left_of o - 1
left-retried None = refl
left-retried (Some o) = refl

-- a request that is sent again leaves one attempt less
says-again : (p : Params) (recent d : ℕ) (s : Station) (asked : Bool) (m now : ℕ) (o : Option Fields) → now ≤ m + p.lag → is_some o ≡ true → retry_of s.cycles.initiator.pending ≡ o → Kept p recent d s
    → left_of s.cycles.initiator.pending ≤ p.retries → m + p.lag + tries (left_of s.cycles.initiator.pending) (attempt p) ≤ limit p recent d (has_used s.rotation.last)
    → Says p recent d now (says_again s asked o now)
says-again p recent d s asked m now None time some e k few room h = absurd (let wrong : false ≡ true = some in cc)
says-again p recent d s asked m now (Some f) time some e k few room h =
    let n = left_of s.cycles.initiator.pending in
    let more : 0 < n = retry-left s.cycles.initiator.pending (ap is_some e) in
    let step = tries-step n (attempt p) more in
    let left = left-retried s.cycles.initiator.pending in
    let most = limit-most p recent d (has_used s.rotation.last) in
    let same = ap (λ z. tries z (attempt p)) left in
    let short = h.0 in
    (record { target = k.0; received = k.1; retries = k.2; short = omega (arith, short); spends = (omega (arith, time, room, step, same), omega (arith, few, left), tt) }, λ _. omega (arith, time, room, step, most))

-- the second claim is a holder's first receipt
says-claim : (p : Params) (recent d : ℕ) (s : Station) (sent now : ℕ) → Kept p recent d s → Says p recent d now (says_claim p s sent now)
says-claim p recent d s sent now k h =
    let x = saying s now (token_octets s.address s.address) in
    let end : (now + bits 3 ≤ recent) × (recent ≤ d) = h.1 refl in (
      by_test (Spends p recent d) (sent == 0) _ (received_own p x)
          (λ _. record { target = k.0; received = k.1; retries = k.2; short = omega arith; spends = tt })
          (λ _. record { target = k.0; received = (end.0, before-own s.rotation.last k.1 end); retries = k.2; short = omega arith; spends = omega (arith, end.0) }),
      λ e. absurd (let wrong : true ≡ false = e in cc),
    )
  where
    before-own : (last : Option Receipt) → ReceivedBy recent d last → (now + bits 3 ≤ recent) × (recent ≤ d) → before last (now + bits 3) ≤ d
    before-own None r end = omega (arith, end.0, end.1)
    before-own (Some r) b end = omega (arith, b.0, end.1)

-- a reply changes nothing of the time, and only one that holds no token says it
says-reply : (p : Params) (recent d : ℕ) (s : Station) (ph : Phase) (x : Option Reply) (now : ℕ) → ((begin : ℕ) → SpendsBy p (limit p recent d (has_used s.rotation.last)) (left_of s.cycles.initiator.pending) begin ph) → may_initiate ph ≡ false
    → Spends p recent d (record s { phase = ph }) → PhaseSays p recent d now ph (says_reply (record s { phase = ph }) x now)
says-reply p recent d s ph None now any none o h = (o, λ e. absurd (let a = none in cc))
says-reply p recent d s ph (Some r) now any none o h =
    (record { target = o.target; received = o.received; retries = o.retries; short = let short = h.0 in omega (arith, short); spends = any now }, λ e. absurd (let a = none in cc))

-- nor does the reply that lets a station into the ring
says-ready : (p : Params) (recent d : ℕ) (s : Station) (doubled : Bool) (x : Option Reply) (now : ℕ) → Spends p recent d (record s { phase = Listening doubled })
    → PhaseSays p recent d now (Listening doubled) (says_ready (record s { phase = Listening doubled }) x now)
says-ready p recent d s doubled None now o h = (o, λ e. absurd (let wrong : false ≡ true = e in cc))
says-ready p recent d s doubled (Some r) now o h =
    let x = replying (record s { phase = Listening doubled }) now r in
    let short = h.0 in (
      by_test (Spends p recent d) r.joins (joining x) x
          (λ _. record { target = o.target; received = tt; retries = o.retries; short = omega (arith, short); spends = tt })
          (λ _. record { target = o.target; received = o.received; retries = o.retries; short = omega (arith, short); spends = tt }),
      λ e. absurd (let wrong : false ≡ true = e in cc),
    )

-- so in each phase that speaks
phase-says : (p : Params) (recent d : ℕ) (s : Station) (ph : Phase) (moment now : ℕ) → p.tid2 + p.lag ≤ p.tsl → now ≤ moment + p.lag → phase_speaks s.reply ph ≡ Some moment → HasOpen s.cycles.initiator.pending ph
    → Spends p recent d (record s { phase = ph }) → PhaseSays p recent d now ph (phase_says p (record s { phase = ph }) ph now)
phase-says p recent d s Offline moment now take time e has o h = (o, λ e. absurd (let wrong : false ≡ true = e in cc))
phase-says p recent d s PassiveIdle moment now take time e has o h = says-reply p recent d s PassiveIdle s.reply now (λ _. tt) refl o h
phase-says p recent d s (Listening doubled) moment now take time e has o h = says-ready p recent d s doubled s.reply now o h
phase-says p recent d s (Idle refused) moment now take time e has o h = says-reply p recent d s (Idle refused) s.reply now (λ _. tt) refl o h
phase-says p recent d s (Claim sent ready) moment now take time e has o h =
    let x = record s { phase = Claim sent ready } in let t = says-claim p recent d x sent now (kept-of p recent d x o) h in (t.0, λ _. t.1)
phase-says p recent d s (Use asked ready) moment now take time e has o h =
    let x = record s { phase = Use asked ready } in
    let at : ready ≡ moment = some-is ready moment e in
    let spends = o.spends in
    let t = says-in_use p recent d x asked now take (omega (arith, time, at, spends)) (kept-of p recent d x o) h in (t.0, λ _. t.1)
phase-says p recent d s (AwaitData asked None slot) moment now take time e has o h = absurd (let wrong : None ≡ Some moment = e in cc)
phase-says p recent d s (AwaitData asked (Some m) slot) moment now take time e has o h =
    let x = record s { phase = AwaitData asked (Some m) slot } in
    let at : m ≡ moment = some-is m moment e in
    let t = says-again p recent d x asked m now (retry_of s.cycles.initiator.pending) (omega (arith, time, at)) has.1 refl (kept-of p recent d x o) o.spends.1 o.spends.2 h in (t.0, λ _. t.1)
phase-says p recent d s (AwaitStatus of slot) moment now take time e has o h = absurd (let wrong : None ≡ Some moment = e in cc)
phase-says p recent d s (Pass tries ready) moment now take time e has o h =
    let x = record s { phase = Pass tries ready } in let t = says-token p recent d x tries now (kept-of p recent d x o) h in (t.0, λ _. t.1)
phase-says p recent d s (Checking tries) moment now take time e has o h = absurd (let wrong : None ≡ Some moment = e in cc)

-- a station that speaks in time
pub speech-spends : (p : Params) (recent d : ℕ) (s : Station) (now : ℕ) → p.tid2 + p.lag ≤ p.tsl → IfSome (speaks_at s) (λ moment. now ≤ moment + p.lag) → HasOpenRequest s → Spends p recent d s
    → PhaseSays p recent d now s.phase (speech p s (speaks_at s) now)
speech-spends p recent d s now take time has o = by (speaks_at s) refl time
  where
    by : (x : Option ℕ) → speaks_at s ≡ x → IfSome x (λ moment. now ≤ moment + p.lag) → PhaseSays p recent d now s.phase (speech p s x now)
    by None e t = λ h. (o, λ _. tt)
    by (Some moment) e t =
        by_test (PhaseSays p recent d now s.phase) (nat_le moment now) (phase_says p s s.phase now) (s, None)
        (λ _. phase-says p recent d s s.phase moment now take t e has o) (λ _. λ h. (o, λ _. tt))

-- a holder that is to send a request does so by the end of its time
pub speaks-by : (p : Params) (recent d : ℕ) (s : Station) (ph : Phase) (moment : ℕ) → phase_speaks s.reply ph ≡ Some moment → IsCycling ph → Spends p recent d (record s { phase = ph }) → moment + p.lag ≤ limit p recent d true
speaks-by p recent d s Offline moment e c o = absurd c
speaks-by p recent d s PassiveIdle moment e c o = absurd c
speaks-by p recent d s (Listening doubled) moment e c o = absurd c
speaks-by p recent d s (Idle refused) moment e c o = absurd c
speaks-by p recent d s (Claim sent ready) moment e c o = absurd c
speaks-by p recent d s (Use asked ready) moment e c o = let at = some-is ready moment e in let h = o.spends in let m = limit-most p recent d (has_used s.rotation.last) in omega (arith, at, h, m)
speaks-by p recent d s (AwaitData asked None slot) moment e c o = absurd (let wrong : None ≡ Some moment = e in cc)
speaks-by p recent d s (AwaitData asked (Some x) slot) moment e c o = let at = some-is x moment e in let h = o.spends.2 in let m = limit-most p recent d (has_used s.rotation.last) in omega (arith, at, h, m)
speaks-by p recent d s (AwaitStatus of slot) moment e c o = absurd (let wrong : None ≡ Some moment = e in cc)
speaks-by p recent d s (Pass tries ready) moment e c o = absurd c
speaks-by p recent d s (Checking tries) moment e c o = absurd c
