use Rattle.std.proofs.Common.{◌≡◌, ◌∙◌, ap, sym, arith, ◌+◌, ◌≤◌, Ok}
use Rattle.std.specs.List.{list_any}
use Rattle.law_model.specs.World.{Reply, clock_limit}
use Rattle.law_model.specs.Step.{step, step_pass}
use Rattle.pb_world.specs.Buses.{world_of}
use Rattle.pb_taps.specs.Events.{event_of}
use Rattle.pb_world.specs.Liveness.{ends_within}
use Rattle.pb_world.proofs.Premising.{pass-ends, passes-time}
use Rattle.pb_world.proofs.Measuring.{goes-later, goes-as}
use Rattle.pb_world.proofs.stretches.follow.Goals as goal

pub returns-in_default-clause-goes : goal.returns-in_default-clause-goes
returns-in_default-clause-goes c =
    goes-as c.args.stretches.now c.args.bus.now c.apply.new.self (event_of c.args.event.now) c.apply.result c.apply.ensures.follows c.apply.ensures.kept c.apply.ensures.event
    (sym c.time_in.ensures ∙ c.in_default.is)

pub returns-clause-goes : goal.returns-clause-goes
returns-clause-goes c =
    let bus = c.args.bus.now in
    let next = c.apply-2.new.self in
    let w = world_of bus in
    let e = event_of c.args.event.now in
    let bits = c.in-Some.bits in
    let reply : Reply = record { now = next.now; spoke = next.sent } in
    let goes = c.in_ok-apply.ensures.follows in
    let is = passes-time e bits (sym c.time_in.ensures ∙ c.in-Some.is) in
    let passed : step_pass w bits ≡ Ok (world_of next, reply) = ap (step w) (sym is) ∙ goes in
    let limit : bus.now + bits ≤ clock_limit = pass-ends w (world_of next) bits reply passed in
    let to : c.saturating_add.result ≡ bus.now + bits = omega (arith, limit, c.saturating_add.ensures, c.get.ensures.value) in
    goes-later c.args.stretches.now (record { calm = c.calm_after-stretches.result; longest = c.lengthen.new.longest }) bus next e bits c.has_token_or_noise-is_heard.result reply
    c.requires.kept c.in_ok-apply.ensures.kept c.in_ok-apply.ensures.event is goes
    (c.has_token_or_noise-is_heard.ensures ∙ ap (λ n. list_any (ends_within bus.now n) w.trace) to) c.calm_after-stretches.ensures c.lengthen.ensures
