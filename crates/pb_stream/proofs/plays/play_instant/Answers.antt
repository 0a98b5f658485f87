-- What is played at a moment is an instant of the run.
use Rattle.std.proofs.Common.{◌≡◌, ◌∙◌, Option, ℕ, ap, subst}
use Rattle.law_turn.specs.Stations.{earlier}
use Rattle.law_runs.specs.Runs.{next, next_turn, onward}
use Rattle.law_runs.specs.Bus.{dues, next_change}
use Rattle.pb_world.specs.Buses.{world_of}
use Rattle.pb_world.specs.declared.buses.Bus.{Bus}
use Rattle.pb_scenario.specs.Walks.{plan_in}
use Rattle.pb_scenario.proofs.Moving.{in-err}
use Rattle.pb_stream.specs.Plays.{IsFirst}
use Rattle.pb_stream.proofs.Instants.{Then, ThenStops, ends-early, ends-late, ends-passing, ends-turns, goes-on, is-next, pass-watched}
use Rattle.pb_stream.proofs.plays.play_instant.Goals as goal

pub returns-in_err-play_deeds-clause-goes : goal.returns-in_err-play_deeds-clause-goes
returns-in_err-play_deeds-clause-goes g c =
    let walk = c.args.walk.now in
    let v0 = g.S.Stage.view c.args.stage.now in
    let new = g.S.Stage.view c.play_deeds.new.stage in
    let fault = c.in_err-play_deeds.field-0.0 in
    λ old course from. in-err _ _ c.from_residual.result fault c.from_residual.ensures.0 c.from_residual.ensures.1
    (ends-early walk old course v0 new fault from
    (subst (λ es. ThenStops walk old v0 (λ d. es) fault new) c.today.ensures.early (λ d at. c.in_err-play_deeds.ensures.plays walk.clock old d at)))

pub returns-in_err-soonest-clause-goes : goal.returns-in_err-soonest-clause-goes
returns-in_err-soonest-clause-goes g c =
    let walk = c.args.walk.now in
    let v0 = g.S.Stage.view c.args.stage.now in
    let v1 = g.S.Stage.view c.play_deeds.new.stage in
    let new = g.S.Stage.view c.play_turns.new.stage in
    let fault = c.in_err-soonest.field-0.0 in
    λ old course from. in-err _ _ c.from_residual-in_err-soonest.result fault c.from_residual-in_err-soonest.ensures.0 c.from_residual-in_err-soonest.ensures.1
    (ends-turns walk old course v0 v1 new fault from
    (subst (λ es. Then walk old v0 (λ d. es) v1) c.today.ensures.early (λ d at. c.in_ok-play_deeds.ensures.plays walk.clock old d at))
    (λ d at. c.in_err-soonest.ensures.plays old d at))

pub returns-in_err-turn-clause-goes : goal.returns-in_err-turn-clause-goes
returns-in_err-turn-clause-goes g c =
    let walk = c.args.walk.now in
    let v0 = g.S.Stage.view c.args.stage.now in
    let v1 = g.S.Stage.view c.play_deeds.new.stage in
    let v2 = g.S.Stage.view c.play_turns.new.stage in
    let new = g.S.Stage.view c.play_late.new.stage in
    let fault = c.in_err-turn.field-0.0 in
    λ old course from. in-err _ _ c.from_residual-in_err-turn.result fault c.from_residual-in_err-turn.ensures.0 c.from_residual-in_err-turn.ensures.1
    (ends-late walk old course v0 v1 v2 new fault from
    (subst (λ es. Then walk old v0 (λ d. es) v1) c.today.ensures.early (λ d at. c.in_ok-play_deeds.ensures.plays walk.clock old d at))
    (λ d at. c.in_ok-soonest.ensures.plays old d at)
    (λ d at. c.in_err-turn.ensures.plays walk.clock old d at))

pub returns-in_err-play_pass-clause-goes : goal.returns-in_err-play_pass-clause-goes
returns-in_err-play_pass-clause-goes g c =
    let walk = c.args.walk.now in
    let now = walk.clock in
    let p = plan_in walk in
    let v0 = g.S.Stage.view c.args.stage.now in
    let v1 = g.S.Stage.view c.play_deeds.new.stage in
    let v2 = g.S.Stage.view c.play_turns.new.stage in
    let v3 = g.S.Stage.view c.play_late.new.stage in
    let new = g.S.Stage.view c.play_pass.new.stage in
    let after = world_of v3.bus in
    let t = c.next_by-next.result in
    let change : c.next_change.result ≡ next_change after = c.next_change.ensures ∙ ap (λ (b : Bus). next_change (world_of b)) c.bus.ensures.bus in
    let next_is : IsFirst walk v3 c.in_ok-turn.turn → t ≡ next p now (dues after) (next_change after) =
    λ first. c.next_by-next.ensures.next
    ∙ ap (λ (o : Option ℕ). onward p now (earlier (p.later now) (earlier c.next_change.result o))) first
    ∙ ap (λ (o : Option ℕ). onward p now (earlier (p.later now) (earlier o (next_turn p now 0 (dues after))))) change in
    let fault = c.in_err-play_pass.field-0.0 in
    λ old course from.
    let one : Then walk old v0 (λ d. p.early now) v1 = subst (λ es. Then walk old v0 (λ d. es) v1) c.today.ensures.early (λ d at. c.in_ok-play_deeds.ensures.plays now old d at) in
    let (mid, at_turns, happened) = one course from in
    in-err _ _ c.from_residual-in_err-play_pass.result fault c.from_residual-in_err-play_pass.ensures.0 c.from_residual-in_err-play_pass.ensures.1
    (ends-passing walk old course v0 v1 v2 v3 from one
    (λ d at. c.in_ok-soonest.ensures.plays old d at)
    (λ d at. c.in_ok-turn.ensures.plays now old d at)
    t new fault (next_is (c.in_ok-turn.ensures.first (c.in_ok-soonest.ensures.first old mid at_turns)))
    (subst (λ es. ThenStops walk old v3 (λ d. es) fault new) (c.pass_to.ensures ∙ pass-watched walk t) (λ d at. c.in_err-play_pass.ensures.plays now old d at)))

pub returns-clause-goes : goal.returns-clause-goes
returns-clause-goes g c =
    let walk = c.args.walk.now in
    let now = walk.clock in
    let p = plan_in walk in
    let v0 = g.S.Stage.view c.args.stage.now in
    let v1 = g.S.Stage.view c.play_deeds.new.stage in
    let v2 = g.S.Stage.view c.play_turns.new.stage in
    let v3 = g.S.Stage.view c.play_late.new.stage in
    let new = g.S.Stage.view c.play_pass.new.stage in
    let after = world_of v3.bus in
    let t = c.next_by-next.result in
    let change : c.next_change.result ≡ next_change after = c.next_change.ensures ∙ ap (λ (b : Bus). next_change (world_of b)) c.bus.ensures.bus in
    let next_is : IsFirst walk v3 c.in_ok-turn.turn → t ≡ next p now (dues after) (next_change after) =
    λ first. c.next_by-next.ensures.next
    ∙ ap (λ (o : Option ℕ). onward p now (earlier (p.later now) (earlier c.next_change.result o))) first
    ∙ ap (λ (o : Option ℕ). onward p now (earlier (p.later now) (earlier o (next_turn p now 0 (dues after))))) change in
    λ old course from.
    let one : Then walk old v0 (λ d. p.early now) v1 = subst (λ es. Then walk old v0 (λ d. es) v1) c.today.ensures.early (λ d at. c.in_ok-play_deeds.ensures.plays now old d at) in
    let (mid, at_turns, happened) = one course from in
    goes-on walk old course v0 v1 v2 v3 from one
    (λ d at. c.in_ok-soonest.ensures.plays old d at)
    (λ d at. c.in_ok-turn.ensures.plays now old d at)
    t new (next_is (c.in_ok-turn.ensures.first (c.in_ok-soonest.ensures.first old mid at_turns)))
    (subst (λ es. Then walk old v3 (λ d. es) new) (c.pass_to.ensures ∙ pass-watched walk t) (λ d at. c.in_ok-play_pass.ensures.plays now old d at))

pub returns-clause-next : goal.returns-clause-next
returns-clause-next g c =
    is-next c.args.walk.now _ c.next_by-next.result c.next_by-next.ensures.next c.next_by-next.ensures.bounds
