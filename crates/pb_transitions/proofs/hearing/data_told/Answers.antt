use Rattle.std.proofs.Common.{rules, ◌∙◌, ◌≡◌, ◌+◌, ap, sym, true, false, Some}
use Rattle.pb_cycles.specs.Messages.{message_of}
use Rattle.pb_cycles.specs.Initiating.{outcome_of}
use Rattle.law_turn.specs.Phases as turn
use Rattle.pb_tokenfsm.specs.Phases.{phase_of}
use Rattle.pb_transitions.specs.Cores.{station_with}
use Rattle.pb_transitions.specs.Cycles.{cycles_of}
use Rattle.pb_transitions.proofs.Closing.{told, not_told}
use Rattle.pb_transitions.proofs.hearing.data_told.Goals as goal

pub returns-then-not-hear : goal.returns-then-not-hear
returns-then-not-hear c queue =
    let state = c.args.holder.state in
    not_told c.args.params.now (station_with c.args.kept.now queue (turn.AwaitData state.asked state.retry state.slot)) state.asked state.slot c.args.at (message_of c.args.came.now)
    (cycles_of c.hear.new.cycles queue) (station_with c.no_reply.new.kept queue (phase_of c.no_reply.result)) (c.no_reply.ensures queue) (c.hear.ensures.cycles queue)
    (sym c.hear.ensures.answered ∙ c.if-not-hear.true)

pub returns : goal.returns
returns c queue =
    let state = c.args.holder.state in
    let m = message_of c.args.came.now in
    let ready : c.after.result ≡ c.args.at + c.args.params.now.tid1 = search rules in
    let s = station_with c.args.kept.now queue (turn.AwaitData state.asked state.retry state.slot) in
    ap (λ (phase : turn.Phase). record s { phase = phase; cycles = cycles_of c.hear.new.cycles queue }) c.on_outcome.ensures
    ∙ told c.args.params.now s state.asked state.slot c.args.at c.after.result m (outcome_of s.cycles.initiator (Some m)) (cycles_of c.hear.new.cycles queue)
    (c.hear.ensures.cycles queue) ready (sym c.hear.ensures.answered ∙ c.if-not-hear.false)
