-- A turn makes no station active that wasn't.
use Rattle.std.proofs.Common.{◌≡◌, ℕ, ◌⊎◌, inl, inr, ⊎_elim, List, refl, ap, ◌∙◌, subst, Option}
use Rattle.pb_timers.specs.Timers.{Params}
use Rattle.law_turn.specs.Marks.{Mark}
use Rattle.law_turn.specs.Phases.{Phase, Offline, PassiveIdle, Listening, Idle, Claim, Use, AwaitData, AwaitStatus, Pass, Checking}
use Rattle.law_turn.specs.Stations.{Station}
use Rattle.law_turn.specs.Turns.{turn_of}
use Rattle.law_turn.proofs.Moments.{turn_of-offline}
use Rattle.law_turn.proofs.Requesting.{passive-stays}
use Rattle.law_token.specs.Stations.{IsActive}

kind_of : (ph : Phase) → (ph ≡ Offline) ⊎ (ph ≡ PassiveIdle) ⊎ IsActive ph
kind_of Offline = inl refl
kind_of PassiveIdle = inr (inl refl)
kind_of (Listening doubled) = inr (inr tt)
kind_of (Idle refused) = inr (inr tt)
kind_of (Claim sent ready) = inr (inr tt)
kind_of (Use asked ready) = inr (inr tt)
kind_of (AwaitData asked retry slot) = inr (inr tt)
kind_of (AwaitStatus of slot) = inr (inr tt)
kind_of (Pass tries ready) = inr (inr tt)
kind_of (Checking tries) = inr (inr tt)

-- one that is active after a turn was it before
pub active_before : (p : Params) (s : Station) (marks : List Mark) (now : ℕ) → IsActive (turn_of p s marks now).0.phase → IsActive s.phase
active_before p s marks now a =
    ⊎_elim (λ (e : s.phase ≡ Offline). absurd (subst IsActive (ap (λ (z : Station × Option (List ℕ)). z.0.phase) (turn_of-offline p s marks now e) ∙ e) a))
    (λ (h : (s.phase ≡ PassiveIdle) ⊎ IsActive s.phase).
    ⊎_elim (λ (e : s.phase ≡ PassiveIdle). absurd (subst IsActive (passive-stays p s marks now e) a)) (λ (h : IsActive s.phase). h) h) (kind_of s.phase)
