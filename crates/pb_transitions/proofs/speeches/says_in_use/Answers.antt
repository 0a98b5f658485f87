use Rattle.std.proofs.Common.{◌≡◌, rules}
use Rattle.law_turn.specs.Phases as turn
use Rattle.law_turn.specs.Turns.{says_low, says_no_request, low_request, high_taken}
use Rattle.pb_transitions.specs.Cores.{station_with}
use Rattle.pb_tokenfsm.specs.Phases.{phase_of}
use Rattle.pb_transitions.specs.Speeches.{spoken_with}
use Rattle.pb_transitions.proofs.Taking.{received_still, high_said, high_not_said, low_said, low_not_said}
use Rattle.pb_transitions.proofs.speeches.says_in_use.Goals as goal

pub returns-in-Some : goal.returns-in-Some
returns-in-Some c =
    let phase = turn.Use c.args.holder.state.asked c.args.holder.state.ready in
    high_said c.args.params.now (station_with c.args.kept.now c.args.waiting.now phase) (station_with c.take_high.new.kept c.take_high.new.waiting phase) c.args.holder.state.asked c.args.now
    c.take_high.result c.in-Some.request (spoken_with c.says_request.new.kept c.take_high.new.waiting (phase_of c.says_request.result) c.says_request.new.out) (c.says_request.ensures c.take_high.new.waiting)
    (c.take_high.ensures.kept phase) (c.take_high.ensures.request phase) c.in-Some.is

pub take_low-requires : goal.take_low-requires
take_low-requires c =
    let phase = turn.Use c.args.holder.state.asked c.args.holder.state.ready in
    received_still high_taken (station_with c.args.kept.now c.args.waiting.now phase) (station_with c.take_high.new.kept c.take_high.new.waiting phase) c.take_high.result
    (c.take_high.ensures.kept phase) c.in_default.is c.requires.received

pub returns-in-Some-take_low : goal.returns-in-Some-take_low
returns-in-Some-take_low c =
    let phase = turn.Use c.args.holder.state.asked c.args.holder.state.ready in
    let first = station_with c.take_high.new.kept c.take_high.new.waiting phase in
    let spoken = spoken_with c.says_request-in-Some-take_low.new.kept c.take_low.new.waiting (phase_of c.says_request-in-Some-take_low.result) c.says_request-in-Some-take_low.new.out in
    let low : spoken ≡ says_low c.args.params.now first c.args.holder.state.asked (low_request first c.args.now) c.args.now =
    low_said c.args.params.now first (station_with c.take_high.new.kept c.take_low.new.waiting phase) c.args.holder.state.asked c.args.now
    c.take_low.result c.in-Some-take_low.request spoken (c.says_request-in-Some-take_low.ensures c.take_low.new.waiting)
    (c.take_low.ensures.kept phase) (c.take_low.ensures.request phase) c.in-Some-take_low.is in
    high_not_said c.args.params.now (station_with c.args.kept.now c.args.waiting.now phase) first c.args.holder.state.asked c.args.now c.take_high.result spoken low
    (c.take_high.ensures.kept phase) (c.take_high.ensures.request phase) c.in_default.is

pub looks_at_gap-requires : goal.looks_at_gap-requires
looks_at_gap-requires c =
    let phase = turn.Use c.args.holder.state.asked c.args.holder.state.ready in
    received_still high_taken (station_with c.args.kept.now c.args.waiting.now phase) (station_with c.take_high.new.kept c.take_high.new.waiting phase) c.take_high.result
    (c.take_high.ensures.kept phase) c.in_default.is c.requires.received

pub returns-then-looks_at_gap : goal.returns-then-looks_at_gap
returns-then-looks_at_gap c =
    let phase = turn.Use c.args.holder.state.asked c.args.holder.state.ready in
    let first = station_with c.take_high.new.kept c.take_high.new.waiting phase in
    let second = station_with c.take_high.new.kept c.take_low.new.waiting phase in
    let spoken = spoken_with c.says_look.new.kept c.take_low.new.waiting (phase_of c.says_look.result) c.says_look.new.out in
    let none : spoken ≡ says_no_request c.args.params.now second c.args.holder.state.asked c.args.now =
    let h = c.says_look.ensures c.take_low.new.waiting in search rules in
    let low : spoken ≡ says_low c.args.params.now first c.args.holder.state.asked (low_request first c.args.now) c.args.now =
    low_not_said c.args.params.now first second c.args.holder.state.asked c.args.now c.take_low.result spoken none
    (c.take_low.ensures.kept phase) (c.take_low.ensures.request phase) c.in_default-take_low.is in
    high_not_said c.args.params.now (station_with c.args.kept.now c.args.waiting.now phase) first c.args.holder.state.asked c.args.now c.take_high.result spoken low
    (c.take_high.ensures.kept phase) (c.take_high.ensures.request phase) c.in_default.is

pub returns : goal.returns
returns c =
    let phase = turn.Use c.args.holder.state.asked c.args.holder.state.ready in
    let first = station_with c.take_high.new.kept c.take_high.new.waiting phase in
    let second = station_with c.take_high.new.kept c.take_low.new.waiting phase in
    let spoken = spoken_with c.says_token.new.kept c.take_low.new.waiting (phase_of c.says_token.result) c.says_token.new.out in
    let none : spoken ≡ says_no_request c.args.params.now second c.args.holder.state.asked c.args.now =
    let h = c.says_token.ensures c.take_low.new.waiting in search rules in
    let low : spoken ≡ says_low c.args.params.now first c.args.holder.state.asked (low_request first c.args.now) c.args.now =
    low_not_said c.args.params.now first second c.args.holder.state.asked c.args.now c.take_low.result spoken none
    (c.take_low.ensures.kept phase) (c.take_low.ensures.request phase) c.in_default-take_low.is in
    high_not_said c.args.params.now (station_with c.args.kept.now c.args.waiting.now phase) first c.args.holder.state.asked c.args.now c.take_high.result spoken low
    (c.take_high.ensures.kept phase) (c.take_high.ensures.request phase) c.in_default.is
