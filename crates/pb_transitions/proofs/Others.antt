-- What a station makes of a telegram for others.
use Rattle.std.proofs.Common.{◌≡◌, refl, ℕ, Bool, true, false, not, Option}
use Rattle.pb_timers.specs.Timers.{Params}
use Rattle.law_turn.specs.Arrivals.{Arrival, Token, Framed, Acknowledgement, NoTelegram}
use Rattle.law_turn.specs.Hearing.{passive, in_ring, phase_ended}
use Rattle.law_turn.specs.Phases.{Phase, Offline, PassiveIdle, Listening, Idle, Claim, Use, AwaitData, AwaitStatus, Pass, Checking}
use Rattle.law_turn.specs.Stations.{Station}
use Rattle.pb_transitions.specs.Replies.{is_for, is_for_others}
use Rattle.pb_transitions.proofs.Responses.{not_answered}
use Rattle.pb_transitions.specs.Others.{only_answers}

denied : (b : Bool) → not b ≡ true → b ≡ false
denied true e = absurd cc
denied false e = refl

in-passive : (p : Params) (s : Station) (at : ℕ) (arrival : Arrival) → is_for_others s.address arrival ≡ true → phase_ended p s PassiveIdle at arrival ≡ s
in-passive p s at (Token da sa) others = absurd cc
in-passive p s at (Framed f) others = not_answered p s at passive f (denied (is_for s.address f.da) others)
in-passive p s at Acknowledgement others = refl
in-passive p s at NoTelegram others = refl

in-idle : (p : Params) (s : Station) (refused : Option ℕ) (at : ℕ) (arrival : Arrival) → is_for_others s.address arrival ≡ true → phase_ended p s (Idle refused) at arrival ≡ s
in-idle p s refused at (Token da sa) others = absurd cc
in-idle p s refused at (Framed f) others = not_answered p s at in_ring f (denied (is_for s.address f.da) others)
in-idle p s refused at Acknowledgement others = refl
in-idle p s refused at NoTelegram others = refl

-- nothing
pub nothing_made : (p : Params) (s : Station) (phase : Phase) (at : ℕ) (arrival : Arrival) → only_answers phase ≡ true → is_for_others s.address arrival ≡ true
    → phase_ended p s phase at arrival ≡ s
nothing_made p s PassiveIdle at arrival only others = in-passive p s at arrival others
nothing_made p s (Idle refused) at arrival only others = in-idle p s refused at arrival others
nothing_made p s Offline at arrival only others = absurd cc
nothing_made p s (Listening doubled) at arrival only others = absurd cc
nothing_made p s (Claim sent ready) at arrival only others = absurd cc
nothing_made p s (Use asked ready) at arrival only others = absurd cc
nothing_made p s (AwaitData asked retry slot) at arrival only others = absurd cc
nothing_made p s (AwaitStatus of slot) at arrival only others = absurd cc
nothing_made p s (Pass tries ready) at arrival only others = absurd cc
nothing_made p s (Checking tries) at arrival only others = absurd cc
