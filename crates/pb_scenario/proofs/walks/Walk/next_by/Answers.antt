-- The first of the later steps is the next one.
use Rattle.std.proofs.Common.{◌≡◌, ◌∙◌, ap, sym, subst}
use Rattle.law_turn.specs.Stations.{earlier}
use Rattle.law_runs.specs.Runs.{onward}
use Rattle.pb_scenario.specs.Steps.{steps_of}
use Rattle.pb_scenario.specs.Coming.{onward_to}
use Rattle.pb_scenario.specs.Walks.{WalkView, plan_in}
use Rattle.pb_scenario.proofs.Left.{onward-left}
use Rattle.pb_scenario.proofs.walks.Walk.next_by.Goals as goal

pub returns-clause-next : goal.returns-clause-next
returns-clause-next c =
    let w = c.self.inside in
    subst (λ (v : WalkView). c.next_instant.result ≡ onward (plan_in v) v.clock (earlier ((plan_in v).later v.clock) (earlier c.args.change c.args.turn))) c.self.view_is
    (c.next_instant.ensures.next
    ∙ sym (onward-left (steps_of w.steps.now) w.until w.clock (steps_of w.today.now) (steps_of w.later.now) w.held.items (earlier c.args.change c.args.turn) c.self.invariant.left))
