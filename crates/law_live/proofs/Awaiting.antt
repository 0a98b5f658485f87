-- A station that awaits a reply as an End comes awaited it before, and sent its request before.
use Rattle.std.proofs.Common.{◌≡◌, ℕ, refl, Option, Some, None}
use Rattle.std.specs.Prelude.{nat_lt, nat_le, is_some}
use Rattle.pb_timers.specs.Timers.{Params}
use Rattle.pb_cycles.specs.Initiating.{retry_of}
use Rattle.law_turn.specs.Marks.{Begin}
use Rattle.law_turn.specs.Phases.{Phase, Offline, PassiveIdle, Listening, Idle, Claim, Use, AwaitData, AwaitStatus, Pass, Checking, is_offline}
use Rattle.law_turn.specs.Stations.{Station, timer_of}
use Rattle.law_turn.specs.Hearing.{phase_timed_out, timed_out, after_timer, tries_limit, phase_begun, heard, after_mark}
use Rattle.law_model.proofs.Cases.{by_test}
use Rattle.law_live.specs.Holding.{IfAwaited}

-- a phase that awaits a reply
abbrev pub IsAwaiting : Phase → Type 0
IsAwaiting Offline = ⊥
IsAwaiting PassiveIdle = ⊥
IsAwaiting (Listening doubled) = ⊥
IsAwaiting (Idle refused) = ⊥
IsAwaiting (Claim sent ready) = ⊥
IsAwaiting (Use asked ready) = ⊥
IsAwaiting (AwaitData asked retry slot) = Unit {0}
IsAwaiting (AwaitStatus of slot) = Unit {0}
IsAwaiting (Pass tries ready) = ⊥
IsAwaiting (Checking tries) = ⊥

-- what holds of a phase that awaits a reply
pub if_awaited : (ph : Phase) (X : Type 0) → (IsAwaiting ph → X) → IfAwaited ph X
if_awaited Offline X h = tt
if_awaited PassiveIdle X h = tt
if_awaited (Listening doubled) X h = tt
if_awaited (Idle refused) X h = tt
if_awaited (Claim sent ready) X h = tt
if_awaited (Use asked ready) X h = tt
if_awaited (AwaitData asked retry slot) X h = h tt
if_awaited (AwaitStatus of slot) X h = h tt
if_awaited (Pass tries ready) X h = tt
if_awaited (Checking tries) X h = tt

-- it awaited before, with the same own telegram
abbrev pub AwaitedBefore : Station → Station → Type 0
AwaitedBefore s y = (IsAwaiting y.phase → IsAwaiting s.phase) × (y.own ≡ s.own)

-- no timer makes a station await a reply, or changes its own telegram
was-timed_out : (s : Station) (ph : Phase) (t : ℕ) → AwaitedBefore (record s { phase = ph }) (phase_timed_out (record s { phase = ph }) ph t)
was-timed_out s Offline t = (λ a. a, refl)
was-timed_out s PassiveIdle t = (λ a. a, refl)
was-timed_out s (Listening doubled) t = (λ a. absurd a, refl)
was-timed_out s (Idle refused) t = (λ a. absurd a, refl)
was-timed_out s (Claim sent ready) t = (λ a. a, refl)
was-timed_out s (Use asked ready) t = (λ a. a, refl)
was-timed_out s (AwaitData asked retry slot) t = by_test (AwaitedBefore (record s { phase = AwaitData asked retry slot })) (is_some (retry_of s.cycles.initiator.pending)) _ _ (λ _. (λ a. tt, refl)) (λ _. (λ a. tt, refl))
was-timed_out s (AwaitStatus of slot) t = (λ a. tt, refl)
was-timed_out s (Pass tries ready) t = (λ a. a, refl)
was-timed_out s (Checking tries) t = by_test (AwaitedBefore (record s { phase = Checking tries })) (nat_le tries_limit tries) _ _ (λ _. (λ a. absurd a, refl)) (λ _. (λ a. absurd a, refl))

-- so with the timer that ends by a moment
pub was-after_timer : (p : Params) (limit : ℕ) (s : Station) → AwaitedBefore s (after_timer p limit s)
was-after_timer p limit s = by (timer_of p s)
  where
    by : (o : Option ℕ) → AwaitedBefore s (timed_out s o limit)
    by None = (λ a. a, refl)
    by (Some t) = by_test (AwaitedBefore s) (nat_lt t limit) (phase_timed_out s s.phase t) s (λ _. was-timed_out s s.phase t) (λ _. (λ a. a, refl))

-- nor does a Begin
was-begun : (ph : Phase) (own at : ℕ) → IsAwaiting (phase_begun ph own at) → IsAwaiting ph
was-begun Offline own at a = a
was-begun PassiveIdle own at a = a
was-begun (Listening doubled) own at a = a
was-begun (Idle refused) own at a = a
was-begun (Claim sent ready) own at a = absurd a
was-begun (Use asked ready) own at a = absurd a
was-begun (AwaitData asked retry slot) own at a = tt
was-begun (AwaitStatus of slot) own at a = tt
was-begun (Pass tries ready) own at a = absurd a
was-begun (Checking tries) own at a = absurd (by_test (λ ph. IsAwaiting ph → ⊥) (nat_lt at own) (Checking tries) (Idle None) (λ _ h. h) (λ _ h. h) a)

-- a station that reads a Begin awaits a reply only if it did before
pub was-begin : (p : Params) (s : Station) (at seen : ℕ) → AwaitedBefore s (after_mark p s (Begin at seen))
was-begin p s at seen = by_test (AwaitedBefore s) (is_offline s.phase) s (heard p s (Begin at seen)) (λ _. (λ a. a, refl)) (λ _. (λ a. was-begun s.phase s.own.begin at a, refl))
