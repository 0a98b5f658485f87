-- A state is what is seen of it.
use Rattle.std.proofs.Common.{◌≡◌, ◌∙◌, ap, sym, refl}
use Rattle.law_turn.specs.Phases as turn
use Rattle.pb_tokenfsm.specs.Phases.{phase_of}
use Rattle.pb_tokenfsm.specs.declared.phases.Phase.{Phase}
use Rattle.pb_tokenfsm.specs.declared.phases.Phase.TheVariants as phase

-- the state that is seen as a phase
abbrev state_of : turn.Phase → Phase
state_of turn.Offline = phase.Offline (record {})
state_of turn.PassiveIdle = phase.PassiveIdle (record {})
state_of (turn.Listening doubled) = phase.Listening (record { doubled = doubled })
state_of (turn.Idle refused) = phase.Idle (record { refused = refused })
state_of (turn.Claim sent ready) = phase.Claim (record { state = record { sent = sent; ready = ready } })
state_of (turn.Use asked ready) = phase.Use (record { state = record { asked = asked; ready = ready } })
state_of (turn.AwaitData asked retry slot) = phase.AwaitData (record { state = record { asked = asked; retry = retry; slot = slot } })
state_of (turn.AwaitStatus of slot) = phase.AwaitStatus (record { state = record { of = of; slot = slot } })
state_of (turn.Pass tries ready) = phase.Pass (record { state = record { tries = tries; ready = ready } })
state_of (turn.Checking tries) = phase.Checking (record { tries = tries })

seen-again : (a : Phase) → state_of (phase_of a) ≡ a
seen-again (phase.Offline s) = refl
seen-again (phase.PassiveIdle s) = refl
seen-again (phase.Listening s) = refl
seen-again (phase.Idle s) = refl
seen-again (phase.Claim h) = refl
seen-again (phase.Use h) = refl
seen-again (phase.AwaitData h) = refl
seen-again (phase.AwaitStatus h) = refl
seen-again (phase.Pass h) = refl
seen-again (phase.Checking s) = refl

pub seen-alike : (a b : Phase) → phase_of a ≡ phase_of b → a ≡ b
seen-alike a b alike = sym (seen-again a) ∙ ap state_of alike ∙ seen-again b
