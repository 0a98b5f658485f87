-- What a station of an undisturbed ring does at the clock.
use Rattle.std.proofs.Common.{◌≡◌, ℕ, ◌+◌, ◌≤◌, Bool, true, false, if◌then◌else◌, ◌==◌, List, refl, sym, subst, arith, Option, Some, None}
use Rattle.std.specs.Prelude.{nat_lt, nat_le, is_some, IfSome, IsSome}
use Rattle.std.proofs.lemmas.Bool.{ltb-true, le-leb, leb-true}
use Rattle.pb_timers.specs.Timers.{Params, tto}
use Rattle.pb_cycles.specs.Fields.{Fields}
use Rattle.pb_cycles.specs.Messages.{has_bit}
use Rattle.pb_cycles.specs.Initiating.{retry_of}
use Rattle.pb_cycles.specs.declared.initiators.OpenRequest.{OpenRequest}
use Rattle.law_turn.specs.Phases.{Phase, Offline, PassiveIdle, Listening, Idle, Claim, Use, AwaitData, AwaitStatus, Pass, Checking, may_initiate}
use Rattle.law_turn.specs.Stations.{Station, Reply, phase_speaks}
use Rattle.law_turn.specs.Laws.{HasOpen}
use Rattle.law_turn.specs.Hearing.{claiming, not_taken, not_answered, cycle_closed, after_timer}
use Rattle.law_turn.specs.Turns.{says_in_use, says_again, says_reply, speech}
use Rattle.law_model.specs.Trace.{Record, Entry}
use Rattle.law_model.proofs.Cases.{by_test}
use Rattle.law_token.specs.Places.{Place}
use Rattle.law_token.specs.Views.{ViewOf}
use Rattle.law_token.proofs.bus.Hearers.{IsChecking}
use Rattle.law_token.proofs.turn.Actions.{IsWaiting, MayClaim, Asks, spoken}
use Rattle.law_rings.specs.Ring.{IsUndisturbed, IsArmed}
use Rattle.law_rings.proofs.HoldersSay.{Speaks, speaks_use, speaks_again, taken_out}
use Rattle.law_rings.proofs.NoTest.{no_}

-- a station after its reply
pub record HasReplied (s s' : Station) : Type 0 where
  pub las : s'.las ≡ s.las
  pub phase : s'.phase ≡ s.phase
  pub busy : s'.busy ≡ s.busy
  pub reply : s'.reply ≡ None
  pub rotation : s'.rotation ≡ s.rotation

-- what a station does at the clock; the last two ways never come to pass in an undisturbed ring
pub data Does (p : Params) (now : ℕ) (s : Station) (turn : Station × Option (List ℕ)) : Type 0 where
  DoesRest : turn ≡ (s, None) → Does p now s turn
  DoesReply : (r : Reply) → s.reply ≡ Some r → IsWaiting s.phase → turn.1 ≡ Some r.octets → r.ready ≤ now → HasReplied s turn.0 → Does p now s turn
  DoesSpeak : Speaks p now s turn → may_initiate s.phase ≡ true → s.busy ≡ false → s.quiet ≤ now → (IsArmed s.phase s.busy → s.own.end + p.tsl ≤ now) → Does p now s turn
  DoesRepeat : IsChecking s.phase → s.quiet ≡ s.own.end → s.own.end + p.tsl ≤ now → Does p now s turn
  DoesClaim : MayClaim s.phase → s.busy ≡ false → s.quiet + tto p s.address ≤ now → Does p now s turn

-- what is said at a moment that has come
at_moment : {X : Type 0} (P : X → Type 0) (m now : ℕ) (x y : X) → m ≤ now → P x → P (if nat_le m now then x else y)
at_moment {X} P m now x y le h = subst (λ b. P (if b then x else y)) (sym (le-leb m now le)) h

-- ---- the walk

-- a passive station that keeps a reply sends it once it is due
passive_does : (p : Params) (now : ℕ) (s : Station) (b : Bool) (o : Option Reply) → let x = record s { phase = PassiveIdle; busy = b; reply = o } in Does p now x (speech p x (phase_speaks o PassiveIdle) now)
passive_does p now s b None = DoesRest refl
passive_does p now s b (Some r) =
    let x = record s { phase = PassiveIdle; busy = b; reply = Some r } in
    by_test (Does p now x) (nat_le r.ready now) (says_reply x (Some r) now) (x, None)
    (λ e. DoesReply r refl tt refl (leb-true r.ready now e) (record { las = refl; phase = refl; busy = refl; reply = refl; rotation = refl })) (λ _. DoesRest refl)

-- and so does one in the ring without the token
idle_does : (p : Params) (now : ℕ) (s : Station) (refused : Option ℕ) (b : Bool) (o : Option Reply) → let x = record s { phase = Idle refused; busy = b; reply = o } in Does p now x (speech p x (phase_speaks o (Idle refused)) now)
idle_does p now s refused b None = DoesRest refl
idle_does p now s refused b (Some r) =
    let x = record s { phase = Idle refused; busy = b; reply = Some r } in
    by_test (Does p now x) (nat_le r.ready now) (says_reply x (Some r) now) (x, None)
    (λ e. DoesReply r refl tt refl (leb-true r.ready now e) (record { las = refl; phase = refl; busy = refl; reply = refl; rotation = refl })) (λ _. DoesRest refl)

-- a request is sent again
again_does : (p : Params) (now : ℕ) (s : Station) (asked : Bool) (o : Option OpenRequest) → s.busy ≡ false → Asks o → IsSome (retry_of o) → Speaks p now s (says_again s asked (retry_of o) now)
again_does p now s asked None still asks has = no_ has
again_does p now s asked (Some o) still asks has = by_left (retry_of (Some o)) bit has
  where
    bit : IfSome (retry_of (Some o)) (λ f. has_bit f.fc 6 ≡ true)
    bit = by_test (λ (z : Option Fields). IfSome z (λ f. has_bit f.fc 6 ≡ true)) (o.left == 0) None (Some o.sent) (λ _. tt) (λ _. asks)

    by_left : (f : Option Fields) → IfSome f (λ f. has_bit f.fc 6 ≡ true) → IsSome f → Speaks p now s (says_again s asked f now)
    by_left None b i = no_ i
    by_left (Some f) b i = speaks_again p s asked f now still b

-- a slot that is over: the request again, or the next
slot_does : (p : Params) (now : ℕ) (s : Station) (asked : Bool) (m : ℕ) → m ≤ now → Asks s.cycles.initiator.pending → let x = record s { phase = AwaitData asked None true; busy = false } in Speaks p now x (spoken p (not_answered x asked false m) now)
slot_does p now s asked m le asks =
    let x = record s { phase = AwaitData asked None true; busy = false } in
    let y = record x { phase = AwaitData asked (Some m) false } in
    let z = record x { phase = Use asked m; cycles = cycle_closed x.cycles None } in
    by_test (λ (u : Station). Speaks p now x (spoken p u now)) (is_some (retry_of s.cycles.initiator.pending)) y z
    (λ some. at_moment (Speaks p now x) m now (says_again y asked (retry_of s.cycles.initiator.pending) now) (y, None) le
    (taken_out p now x y (says_again y asked (retry_of s.cycles.initiator.pending) now) refl refl refl refl refl (λ _. refl) (again_does p now y asked s.cycles.initiator.pending refl asks some)))
    (λ _. at_moment (Speaks p now x) m now (says_in_use p z asked now) (z, None) le (taken_out p now x z (says_in_use p z asked now) refl refl refl refl refl (λ _. refl) (speaks_use p z asked now refl)))

-- by phase, and whether it is busy
does_at : (c : Place) (trace : List Entry) (last : Option Record) (s : Station) (ph : Phase) (b : Bool) → HasOpen s.cycles.initiator.pending ph → Asks s.cycles.initiator.pending → IsUndisturbed ph
    → ViewOf c trace last ph b s.quiet s.own s.reply →
    let x = record s { phase = ph; busy = b } in Does c.p c.now x (spoken c.p (after_timer c.p (c.now + 1) x) c.now)
does_at c trace last s Offline true has asks u v = DoesRest refl
does_at c trace last s Offline false has asks u v = DoesRest refl
does_at c trace last s PassiveIdle true has asks u v = passive_does c.p c.now s true s.reply
does_at c trace last s PassiveIdle false has asks u v = passive_does c.p c.now s false s.reply
does_at c trace last s (Listening doubled) b has asks u v = absurd u
does_at c trace last s (Idle refused) true has asks u v = idle_does c.p c.now s refused true s.reply
does_at c trace last s (Idle refused) false has asks u v =
    let x = record s { phase = Idle refused; busy = false } in
    let m = s.quiet + tto c.p s.address in
    by_test (λ (y : Station). Does c.p c.now x (spoken c.p y c.now)) (nat_lt m (c.now + 1)) (claiming x m) x
    (λ e. DoesClaim tt refl (let l = ltb-true m (c.now + 1) e in omega (arith, l))) (λ _. idle_does c.p c.now s refused false s.reply)
does_at c trace last s (Claim sent ready) b has asks u v = absurd u
does_at c trace last s (Use asked ready) true has asks u v = no_ (sym v.0)
does_at c trace last s (Use asked ready) false has asks u v =
    let x = record s { phase = Use asked ready; busy = false } in
    by_test (Does c.p c.now x) (nat_le ready c.now) (says_in_use c.p x asked c.now) (x, None)
    (λ e. DoesSpeak (speaks_use c.p x asked c.now refl) refl refl (let l = leb-true ready c.now e in omega (arith, l, v.1)) (λ armed. absurd armed)) (λ _. DoesRest refl)
does_at c trace last s (AwaitData asked retry slot) true has asks u v =
    let x = record s { phase = AwaitData asked retry slot; busy = true } in subst (λ o. Does c.p c.now x (speech c.p x o c.now)) (sym v.0.0) (DoesRest refl)
does_at c trace last s (AwaitData asked None false) false has asks u v = no_ v.0.0
does_at c trace last s (AwaitData asked None true) false has asks u v =
    let x = record s { phase = AwaitData asked None true; busy = false } in
    let m = s.own.end + c.p.tsl in
    by_test (λ (y : Station). Does c.p c.now x (spoken c.p y c.now)) (nat_lt m (c.now + 1)) (not_answered x asked false m) x
    (λ e. let l = ltb-true m (c.now + 1) e in let q = v.0.1.still in DoesSpeak (slot_does c.p c.now s asked m (omega (arith, l)) asks) refl refl (omega (arith, l, q)) (λ _. omega (arith, l))) (λ _. DoesRest refl)
does_at c trace last s (AwaitData asked (Some m) true) false has asks u v = no_ (sym v.0.0)
does_at c trace last s (AwaitData asked (Some m) false) false has asks u v =
    let x = record s { phase = AwaitData asked (Some m) false; busy = false } in
    by_test (Does c.p c.now x) (nat_le m c.now) (says_again x asked (retry_of s.cycles.initiator.pending) c.now) (x, None)
    (λ e. DoesSpeak (again_does c.p c.now x asked s.cycles.initiator.pending refl asks has.1) refl refl (let l = leb-true m c.now e in omega (arith, l, v.0.1)) (λ armed. no_ armed.1)) (λ _. DoesRest refl)
does_at c trace last s (AwaitStatus of slot) true has asks u v = DoesRest refl
does_at c trace last s (AwaitStatus of false) false has asks u v = no_ v.0.0
does_at c trace last s (AwaitStatus of true) false has asks u v =
    let x = record s { phase = AwaitStatus of true; busy = false } in
    let m = s.own.end + c.p.tsl in
    let y = record x { phase = Use true m } in
    by_test (λ (z : Station). Does c.p c.now x (spoken c.p z c.now)) (nat_lt m (c.now + 1)) y x
    (λ e. let l = ltb-true m (c.now + 1) e in
    let q = v.0.1.still in
    DoesSpeak (at_moment (Speaks c.p c.now x) m c.now (says_in_use c.p y true c.now) (y, None) (omega (arith, l)) (taken_out c.p c.now x y (says_in_use c.p y true c.now) refl refl refl refl refl (λ _. refl) (speaks_use c.p y true c.now refl))) refl refl (omega (arith, l, q)) (λ _. omega (arith, l)))
    (λ _. DoesRest refl)
does_at c trace last s (Pass tries ready) b has asks u v = absurd u
does_at c trace last s (Checking tries) true has asks u v = no_ (sym v.0)
does_at c trace last s (Checking tries) false has asks u v =
    let x = record s { phase = Checking tries; busy = false } in
    let m = s.own.end + c.p.tsl in
    by_test (λ (y : Station). Does c.p c.now x (spoken c.p y c.now)) (nat_lt m (c.now + 1)) (not_taken x tries m) x
    (λ e. let l = ltb-true m (c.now + 1) e in DoesRepeat tt v.1.still (omega (arith, l))) (λ _. DoesRest refl)

-- what a station that is as it says does at the clock
pub does : (c : Place) (trace : List Entry) (last : Option Record) (s : Station) → HasOpen s.cycles.initiator.pending s.phase → Asks s.cycles.initiator.pending → IsUndisturbed s.phase
    → ViewOf c trace last s.phase s.busy s.quiet s.own s.reply → Does c.p c.now s (spoken c.p (after_timer c.p (c.now + 1) s) c.now)
does c trace last s has asks u v = does_at c trace last s s.phase s.busy has asks u v
