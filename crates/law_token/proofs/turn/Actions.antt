-- What a station does at the clock: it rests, replies, or speaks as an initiator.
use Rattle.std.proofs.Common.{◌≡◌, ℕ, ◌+◌, ◌≤◌, Bool, true, false, if◌then◌else◌, ◌==◌, List, length, refl, sym, subst, arith, Option, Some, None}
use Rattle.std.specs.Prelude.{nat_lt, nat_le, max, is_some, IfSome, IsSome}
use Rattle.std.proofs.lemmas.Bool.{ltb-true, le-leb, leb-true}
use Rattle.std.proofs.lemmas.Option.{same_Some}
use Rattle.pb_timers.specs.Timers.{Params, bits, tto}
use Rattle.pb_ring.specs.Las as las
use Rattle.pb_ring.specs.Las.{LasTable}
use Rattle.pb_cycles.specs.Fields.{Fields}
use Rattle.pb_cycles.specs.Messages.{has_bit}
use Rattle.pb_cycles.specs.Initiating.{retry_of}
use Rattle.pb_cycles.specs.declared.initiators.OpenRequest.{OpenRequest}
use Rattle.law_turn.specs.Spans.{Span}
use Rattle.law_turn.specs.Phases.{Phase, Offline, PassiveIdle, Listening, Idle, Claim, Use, AwaitData, AwaitStatus, Pass, Checking, may_initiate}
use Rattle.law_turn.specs.Stations.{Station, Reply, next_station, phase_speaks, speaks_at}
use Rattle.law_turn.specs.Laws.{HasOpen}
use Rattle.law_turn.specs.Hearing.{tries_limit, claiming, not_taken, not_answered, cycle_closed, after_timer}
use Rattle.law_turn.specs.Turns.{says_token, says_claim, says_in_use, says_again, token_octets, joining, replying, speech}
use Rattle.law_model.specs.Trace.{Record, Entry}
use Rattle.law_model.proofs.Cases.{by_test}
use Rattle.law_token.specs.Places.{LeavesTime, Place}
use Rattle.law_token.specs.Views.{Waits, ViewOf}
use Rattle.law_token.proofs.bus.Hearers.{IsChecking}
use Rattle.law_token.proofs.turn.Said.{Speech, speech_token, speech_claim, speech_again, speech_use}

-- a phase of one that does not hold the token, and does not check
abbrev pub IsWaiting : Phase → Type 0
IsWaiting PassiveIdle = Unit {0}
IsWaiting (Listening doubled) = Unit {0}
IsWaiting (Idle refused) = Unit {0}
IsWaiting _ = ⊥

-- a phase in which a long silence is a claim's
abbrev pub MayClaim : Phase → Type 0
MayClaim (Listening doubled) = Unit {0}
MayClaim (Idle refused) = Unit {0}
MayClaim _ = ⊥

-- why it may speak as an initiator
pub data Grounds (c : Place) (a quiet : ℕ) (own : Span) (ph : Phase) (octets : List ℕ) : Type 0 where
  ByToken : may_initiate ph ≡ true → Grounds c a quiet own ph octets
  BySlot : IsChecking ph → quiet ≡ own.end → own.end + c.p.tsl ≤ c.now → Grounds c a quiet own ph octets
  BySilence : MayClaim ph → quiet + tto c.p a ≤ c.now → octets ≡ token_octets a a → Grounds c a quiet own ph octets

-- a station after its reply
pub record Replied (c : Place) (quiet : ℕ) (octets : List ℕ) (s s' : Station) : Type 0 where
  pub busy_is : s'.busy ≡ false
  pub quiet_is : s'.quiet ≡ max quiet (c.now + bits (length octets))
  pub own_is : s'.own ≡ record { begin = c.now; end = c.now + bits (length octets) }
  pub phase_is : IsWaiting s'.phase
  pub reply_is : s'.reply ≡ None

pub data Acts (c : Place) (s : Station) (turn : Station × Option (List ℕ)) : Type 0 where
  Rests : turn ≡ (s, None) → Acts c s turn
  Replies : (r : Reply) → s.reply ≡ Some r → turn.1 ≡ Some r.octets → s.busy ≡ false → s.quiet ≤ c.now → IsWaiting s.phase → Replied c s.quiet r.octets s turn.0 → Acts c s turn
  Initiates : (said : Speech c s.address s.busy s.quiet turn) → s.busy ≡ false → s.quiet ≤ c.now → Grounds c s.address s.quiet s.own s.phase said.0 → Acts c s turn

-- what a station says and is, once its timer has run out
abbrev pub spoken : Params → Station → ℕ → Station × Option (List ℕ)
spoken p y now = speech p y (speaks_at y) now

-- the has request of a station is one
abbrev pub Asks : Option OpenRequest → Type 0
Asks pending = IfSome pending (λ o. has_bit o.sent.fc 6 ≡ true)

wrong : false ≡ true → ⊥
wrong e = absurd cc

-- one that is due now or was before
at_due : (c : Place) (s : Station) (turn : Station × Option (List ℕ)) (m : ℕ) → (m ≤ c.now → Acts c s turn) → Acts c s (if nat_le m c.now then turn else (s, None))
at_due c s turn m f = by_test (Acts c s) (nat_le m c.now) turn (s, None) (λ e. f (leb-true m c.now e)) (λ _. Rests refl)

-- one that has been due since its timer ran out
overdue : (c : Place) (s y : Station) (turn : Station × Option (List ℕ)) (m : ℕ) → m ≤ c.now → Acts c s turn → Acts c s (if nat_le m c.now then turn else (y, None))
overdue c s y turn m le h = subst (λ b. Acts c s (if b then turn else (y, None))) (sym (le-leb m c.now le)) h

-- ---- replies

passive_acts : (c : Place) (s : Station) (o : Option Reply) → Waits c false s.quiet o →
    let v = record s { phase = PassiveIdle; busy = false; reply = o } in Acts c v (spoken c.p v c.now)
passive_acts c s None w = Rests refl
passive_acts c s (Some r) w =
    let v = record s { phase = PassiveIdle; busy = false; reply = Some r } in
    at_due c v (replying v c.now r, Some r.octets) r.ready
    (λ le. Replies r refl refl refl (omega (arith, w, le)) tt (record { busy_is = refl; quiet_is = refl; own_is = refl; phase_is = tt; reply_is = refl }))

idle_replies : (c : Place) (s : Station) (refused : Option ℕ) (o : Option Reply) → Waits c false s.quiet o →
    let v = record s { phase = Idle refused; busy = false; reply = o } in Acts c v (spoken c.p v c.now)
idle_replies c s refused None w = Rests refl
idle_replies c s refused (Some r) w =
    let v = record s { phase = Idle refused; busy = false; reply = Some r } in
    at_due c v (replying v c.now r, Some r.octets) r.ready
    (λ le. Replies r refl refl refl (omega (arith, w, le)) tt (record { busy_is = refl; quiet_is = refl; own_is = refl; phase_is = tt; reply_is = refl }))

listening_replies : (c : Place) (s : Station) (doubled : Bool) (o : Option Reply) → Waits c false s.quiet o →
    let v = record s { phase = Listening doubled; busy = false; reply = o } in Acts c v (spoken c.p v c.now)
listening_replies c s doubled None w = Rests refl
listening_replies c s doubled (Some r) w =
    let v = record s { phase = Listening doubled; busy = false; reply = Some r } in
    at_due c v (if r.joins then joining (replying v c.now r) else replying v c.now r, Some r.octets) r.ready
    (λ le. by_test (λ (y : Station). Acts c v (y, Some r.octets)) r.joins (joining (replying v c.now r)) (replying v c.now r)
    (λ _. Replies r refl refl refl (omega (arith, w, le)) tt (record { busy_is = refl; quiet_is = refl; own_is = refl; phase_is = tt; reply_is = refl }))
    (λ _. Replies r refl refl refl (omega (arith, w, le)) tt (record { busy_is = refl; quiet_is = refl; own_is = refl; phase_is = tt; reply_is = refl })))

-- ---- claims

claims_at : (c : Place) (s : Station) (ph : Phase) (m : ℕ) → MayClaim ph → m ≤ c.now → m ≡ s.quiet + tto c.p s.address →
    let v = record s { phase = ph; busy = false } in Acts c v (spoken c.p (claiming v m) c.now)
claims_at c s ph m may le is =
    let v = record s { phase = ph; busy = false } in
    let said = speech_claim c (claiming v m) 0 in
    overdue c v (claiming v m) (says_claim c.p (claiming v m) 0 c.now) m le
    (Initiates (said.0, said.1, said.2) refl (omega (arith, le, is)) (BySilence may (omega (arith, le, is)) (sym (same_Some (token_octets s.address s.address) said.0 said.1))))

-- ---- the token is passed on, once its check is over

pass_acts : (c : Place) (s v : Station) (tries t : ℕ) → t ≤ c.now → v.address ≡ s.address → v.busy ≡ s.busy → v.quiet ≡ s.quiet → s.busy ≡ false → s.quiet ≤ c.now
    → ((octets : List ℕ) → Grounds c s.address s.quiet s.own s.phase octets) → Acts c s (spoken c.p (record v { phase = Pass tries t }) c.now)
pass_acts c s v tries t le a b q still past grounds =
    let said = speech_token c (record v { phase = Pass tries t }) tries in
    overdue c s (record v { phase = Pass tries t }) (says_token c.p (record v { phase = Pass tries t }) tries c.now) t le
    (let moved : Speech c s.address s.busy s.quiet (says_token c.p (record v { phase = Pass tries t }) tries c.now) = subst (λ z. Speech c z s.busy s.quiet (says_token c.p (record v { phase = Pass tries t }) tries c.now)) a
    (subst (λ z. Speech c v.address z s.quiet (says_token c.p (record v { phase = Pass tries t }) tries c.now)) b
    (subst (λ z. Speech c v.address v.busy z (says_token c.p (record v { phase = Pass tries t }) tries c.now)) q said)) in
    Initiates moved still past (grounds moved.0))

-- ---- a request is said again, or the token used

again_acts : (c : Place) (s : Station) (asked : Bool) (retry : Option ℕ) (slot : Bool) (y : Station) → y ≡ y → s.busy ≡ false → s.quiet ≤ c.now → may_initiate s.phase ≡ true
    → y.address ≡ s.address → y.busy ≡ s.busy → y.quiet ≡ s.quiet
    → (o : Option OpenRequest) → Asks o → IsSome (retry_of o) → Acts c s (says_again y asked (retry_of o) c.now)
again_acts c s asked retry slot y e still past may a b q None asks has = absurd (wrong has)
again_acts c s asked retry slot y e still past may a b q (Some o) asks has = by_left (retry_of (Some o)) request has
  where
    request : IfSome (retry_of (Some o)) (λ f. has_bit f.fc 6 ≡ true)
    request = by_test (λ (z : Option Fields). IfSome z (λ f. has_bit f.fc 6 ≡ true)) (o.left == 0) None (Some o.sent) (λ _. tt) (λ _. asks)

    by_left : (f : Option Fields) → IfSome f (λ f. has_bit f.fc 6 ≡ true) → IsSome f → Acts c s (says_again y asked f c.now)
    by_left None r i = absurd (wrong i)
    by_left (Some f) r i =
        let said = speech_again c y asked f r in
        Initiates (subst (λ z. Speech c z s.busy s.quiet (says_again y asked (Some f) c.now)) a
        (subst (λ z. Speech c y.address z s.quiet (says_again y asked (Some f) c.now)) b
        (subst (λ z. Speech c y.address y.busy z (says_again y asked (Some f) c.now)) q said)))
        still past (ByToken may)

slot_acts : (c : Place) (s : Station) (asked : Bool) (m : ℕ) → m ≤ c.now → s.quiet ≤ c.now → Asks s.cycles.initiator.pending →
    let v = record s { phase = AwaitData asked None true; busy = false } in Acts c v (spoken c.p (not_answered v asked false m) c.now)
slot_acts c s asked m le past asks =
    let v = record s { phase = AwaitData asked None true; busy = false } in
    let y = record v { phase = AwaitData asked (Some m) false } in
    let z = record v { phase = Use asked m; cycles = cycle_closed v.cycles None } in
    by_test (λ (x : Station). Acts c v (spoken c.p x c.now)) (is_some (retry_of s.cycles.initiator.pending)) y z
    (λ some. overdue c v y (says_again y asked (retry_of s.cycles.initiator.pending) c.now) m le
    (again_acts c v asked None true y refl refl past refl refl refl refl s.cycles.initiator.pending asks some))
    (λ _. let said = speech_use c z asked in
    overdue c v z (says_in_use c.p z asked c.now) m le (Initiates (said.0, said.1, said.2) refl past (ByToken refl)))

-- ---- the walk

acts_at : (c : Place) (trace : List Entry) (last : Option Record) (s : Station) (ph : Phase) (b : Bool) → LeavesTime c.p → HasOpen s.cycles.initiator.pending ph → Asks s.cycles.initiator.pending
    → ViewOf c trace last ph b s.quiet s.own s.reply →
    let v = record s { phase = ph; busy = b } in Acts c v (spoken c.p (after_timer c.p (c.now + 1) v) c.now)
acts_at c trace last s Offline true fits has asks v = Rests refl
acts_at c trace last s Offline false fits has asks v = Rests refl
acts_at c trace last s PassiveIdle true fits has asks v =
    let x = record s { phase = PassiveIdle; busy = true } in subst (λ o. Acts c x (speech c.p x (phase_speaks o PassiveIdle) c.now)) (sym v) (Rests refl)
acts_at c trace last s PassiveIdle false fits has asks v = passive_acts c s s.reply v
acts_at c trace last s (Listening doubled) true fits has asks v =
    let x = record s { phase = Listening doubled; busy = true } in subst (λ o. Acts c x (speech c.p x (phase_speaks o (Listening doubled)) c.now)) (sym v) (Rests refl)
acts_at c trace last s (Listening doubled) false fits has asks v =
    let x = record s { phase = Listening doubled; busy = false } in
    let m = s.quiet + tto c.p s.address in
    by_test (λ (y : Station). Acts c x (spoken c.p y c.now)) (nat_lt m (c.now + 1)) (claiming x m) x
    (λ e. claims_at c s (Listening doubled) m tt (let l = ltb-true m (c.now + 1) e in omega (arith, l)) refl) (λ _. listening_replies c s doubled s.reply v)
acts_at c trace last s (Idle refused) true fits has asks v =
    let x = record s { phase = Idle refused; busy = true } in subst (λ o. Acts c x (speech c.p x (phase_speaks o (Idle refused)) c.now)) (sym v) (Rests refl)
acts_at c trace last s (Idle refused) false fits has asks v =
    let x = record s { phase = Idle refused; busy = false } in
    let m = s.quiet + tto c.p s.address in
    by_test (λ (y : Station). Acts c x (spoken c.p y c.now)) (nat_lt m (c.now + 1)) (claiming x m) x
    (λ e. claims_at c s (Idle refused) m tt (let l = ltb-true m (c.now + 1) e in omega (arith, l)) refl) (λ _. idle_replies c s refused s.reply v)
acts_at c trace last s (Claim sent ready) true fits has asks v = absurd (wrong (sym v.0))
acts_at c trace last s (Claim sent ready) false fits has asks v =
    let x = record s { phase = Claim sent ready; busy = false } in
    let said = speech_claim c x sent in
    at_due c x (says_claim c.p x sent c.now) ready (λ le. Initiates said refl (omega (arith, le, v.1, v.2)) (ByToken refl))
acts_at c trace last s (Use asked ready) true fits has asks v = absurd (wrong (sym v.0))
acts_at c trace last s (Use asked ready) false fits has asks v =
    let x = record s { phase = Use asked ready; busy = false } in
    let said = speech_use c x asked in
    at_due c x (says_in_use c.p x asked c.now) ready (λ le. Initiates said refl (omega (arith, le, v.1)) (ByToken refl))
acts_at c trace last s (AwaitData asked retry slot) true fits has asks v =
    let x = record s { phase = AwaitData asked retry slot; busy = true } in subst (λ o. Acts c x (speech c.p x o c.now)) (sym v.0.0) (Rests refl)
acts_at c trace last s (AwaitData asked None false) false fits has asks v = absurd (wrong v.0.0)
acts_at c trace last s (AwaitData asked None true) false fits has asks v =
    let x = record s { phase = AwaitData asked None true; busy = false } in
    let m = s.own.end + c.p.tsl in
    by_test (λ (y : Station). Acts c x (spoken c.p y c.now)) (nat_lt m (c.now + 1)) (not_answered x asked false m) x
    (λ e. let l = ltb-true m (c.now + 1) e in let q = v.0.1.still in slot_acts c s asked m (omega (arith, l)) (omega (arith, l, q)) asks) (λ _. Rests refl)
acts_at c trace last s (AwaitData asked (Some m) true) false fits has asks v = absurd (wrong (sym v.0.0))
acts_at c trace last s (AwaitData asked (Some m) false) false fits has asks v =
    let x = record s { phase = AwaitData asked (Some m) false; busy = false } in
    at_due c x (says_again x asked (retry_of s.cycles.initiator.pending) c.now) m
    (λ le. again_acts c x asked (Some m) false x refl refl (omega (arith, le, v.0.1)) refl refl refl refl s.cycles.initiator.pending asks has.1)
acts_at c trace last s (AwaitStatus of slot) true fits has asks v = Rests refl
acts_at c trace last s (AwaitStatus of false) false fits has asks v = absurd (wrong v.0.0)
acts_at c trace last s (AwaitStatus of true) false fits has asks v =
    let x = record s { phase = AwaitStatus of true; busy = false } in
    let m = s.own.end + c.p.tsl in
    let y = record x { phase = Use true m } in
    by_test (λ (z : Station). Acts c x (spoken c.p z c.now)) (nat_lt m (c.now + 1)) y x
    (λ e. let l = ltb-true m (c.now + 1) e in let q = v.0.1.still in let said = speech_use c y true in
    overdue c x y (says_in_use c.p y true c.now) m (omega (arith, l)) (Initiates (said.0, said.1, said.2) refl (omega (arith, l, q)) (ByToken refl))) (λ _. Rests refl)
acts_at c trace last s (Pass tries ready) b fits has asks v = absurd v
acts_at c trace last s (Checking tries) true fits has asks v = absurd (wrong (sym v.0))
acts_at c trace last s (Checking tries) false fits has asks v =
    let x = record s { phase = Checking tries; busy = false } in
    let m = s.own.end + c.p.tsl in
    by_test (λ (y : Station). Acts c x (spoken c.p y c.now)) (nat_lt m (c.now + 1)) (not_taken x tries m) x
    (λ e. let l = ltb-true m (c.now + 1) e in let q = v.1.still in
    by_test (λ (y : Station). Acts c x (spoken c.p y c.now)) (nat_le tries_limit tries) (record x { phase = Pass 0 m; las = las.removed x.las (next_station x) }) (record x { phase = Pass tries m })
    (λ _. pass_acts c x (record x { las = las.removed x.las (next_station x) }) 0 m (omega (arith, l)) refl refl refl refl (omega (arith, l, q)) (λ _. BySlot tt q (omega (arith, l))))
    (λ _. pass_acts c x x tries m (omega (arith, l)) refl refl refl refl (omega (arith, l, q)) (λ _. BySlot tt q (omega (arith, l)))))
    (λ _. Rests refl)

-- what a station that is as it says does at the clock
pub acts : (c : Place) (trace : List Entry) (last : Option Record) (s : Station) → LeavesTime c.p → HasOpen s.cycles.initiator.pending s.phase → Asks s.cycles.initiator.pending
    → ViewOf c trace last s.phase s.busy s.quiet s.own s.reply → Acts c s (spoken c.p (after_timer c.p (c.now + 1) s) c.now)
acts c trace last s fits has asks v = acts_at c trace last s s.phase s.busy fits has asks v
