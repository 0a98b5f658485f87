use Rattle.std.proofs.Common.{rules, ◌∙◌, ap}
use Rattle.pb_transitions.specs.declared.cores.Kept.{Kept}
use Rattle.pb_transitions.specs.Cores.{station_with}
use Rattle.law_turn.specs.Arrivals.{Token}
use Rattle.law_turn.specs.Hearing.{foreign_token, token_in_idle, with_token, phase_ended}
use Rattle.pb_tokenfsm.specs.Phases.{phase_of}
use Rattle.pb_transitions.proofs.hearing.ended_with_token.Goals as goal

pub returns-in-Idle : goal.returns-in-Idle
returns-in-Idle c queue =
    let phase = phase_of c.args.phase.now in
    let heard = c.pass_by.ensures c.in-Idle.field-0.refused (search rules) queue in
    let quiet = ap (λ (k : Kept). foreign_token (with_token (station_with k queue phase) c.args.token.da c.args.token.sa)) c.fall_quiet.ensures.quiet in
    let there = c.if-token-get.true in search rules

pub returns-in_default : goal.returns-in_default
returns-in_default c queue =
    let phase = phase_of c.args.phase.now in
    c.token_elsewhere.ensures queue
    ∙ ap (λ (k : Kept). phase_ended c.args.params.now (station_with k queue phase) phase c.args.at (Token c.args.token.da c.args.token.sa)) c.fall_quiet.ensures.quiet

pub returns-in-Idle-2 : goal.returns-in-Idle-2
returns-in-Idle-2 c queue =
    let phase = phase_of c.args.phase.now in
    let refused = c.in-Idle-2.field-0.refused in
    let heard = c.take_token.ensures refused (search rules) queue in
    let quiet = ap (λ (k : Kept). token_in_idle c.args.params.now (station_with k queue phase) refused c.args.at c.args.token.da c.args.token.sa) c.fall_quiet.ensures.quiet in
    search rules
