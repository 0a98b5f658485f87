use Rattle.std.proofs.Common.{◌≡◌, refl}
use Rattle.law_turn.specs.Phases as turn
use Rattle.pb_transitions.specs.Cores.{station_with}
use Rattle.pb_tokenfsm.specs.Phases.{phase_of}
use Rattle.pb_transitions.specs.Speeches.{spoken_with}
use Rattle.pb_transitions.proofs.Looking.{finds, finds_none}
use Rattle.pb_transitions.proofs.speeches.says_look.Goals as goal

pub returns-in-Some : goal.returns-in-Some
returns-in-Some c queue =
    let phase = turn.Use c.args.holder.state.asked c.args.holder.state.ready in
    finds c.args.params.now (station_with c.args.kept.now queue phase) (station_with c.next_look.new.kept queue phase) c.args.now c.in-Some.address c.next_look.result _
    (spoken_with c.asks_status.new.kept queue (phase_of c.asks_status.result) c.asks_status.new.out) (c.asks_status.ensures queue) (c.next_look.ensures.round phase queue) c.in-Some.is (c.next_look.ensures.address queue phase)

pub returns-in-None : goal.returns-in-None
returns-in-None c queue =
    let state = c.args.holder.state in
    let phase = turn.Use state.asked state.ready in
    let done = c.done.ensures state.asked state.ready refl in
    let first : c.done.result.state.tries ≡ 0 = cc done in
    finds_none c.args.params.now (station_with c.args.kept.now queue phase) (station_with c.next_look.new.kept queue phase) c.args.now c.done.result.state.tries c.next_look.result _
    (spoken_with c.says_token.new.kept queue (phase_of c.says_token.result) c.says_token.new.out) (c.says_token.ensures queue) first (c.next_look.ensures.round phase queue) c.in-None.is (c.next_look.ensures.address queue phase)
