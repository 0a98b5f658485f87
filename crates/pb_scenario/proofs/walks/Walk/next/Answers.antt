-- The table says which taps are withheld.
use Rattle.std.proofs.Common.{◌≡◌, ◌∙◌, ap, sym, subst, arith, length, Option, ℕ}
use Rattle.law_turn.specs.Stations.{earlier}
use Rattle.law_runs.specs.Runs.{next_turn, onward}
use Rattle.pb_scenario.specs.Steps.{steps_of}
use Rattle.pb_scenario.specs.Coming.{next_turn_in}
use Rattle.pb_scenario.specs.Walks.{WalkView, plan_in}
use Rattle.pb_scenario.proofs.Left.{turns-left}
use Rattle.pb_scenario.proofs.walks.Walk.next.Goals as goal

pub returns-clause-next : goal.returns-clause-next
returns-clause-next c =
    let w = c.self.inside in
    let walk = c.args.self.now in
    let dues = c.args.dues.now in
    let same : length dues ≡ length w.held.items = omega (arith, c.requires, ap (λ (v : WalkView). v.taps) c.self.view_is) in
    let turn : c.next_turn-turn.result ≡ next_turn (plan_in walk) walk.clock 0 dues =
    subst (λ (v : WalkView). c.next_turn-turn.result ≡ next_turn (plan_in v) v.clock 0 dues) c.self.view_is
    (c.next_turn-turn.ensures ∙ ap (λ held. next_turn_in held w.clock 0 dues) c.deref.ensures.value
    ∙ sym (turns-left (steps_of w.steps.now) w.until w.clock (steps_of w.today.now) (steps_of w.later.now) w.held.items 0 dues c.self.invariant.left (omega (arith, same)))) in
    c.next_by.ensures.next ∙ ap (λ (o : Option ℕ). onward (plan_in walk) walk.clock (earlier ((plan_in walk).later walk.clock) (earlier c.args.change o))) turn
