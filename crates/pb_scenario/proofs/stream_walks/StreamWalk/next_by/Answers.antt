-- The first moment of the agenda is that of the next step.
use Rattle.std.proofs.Common.{◌≡◌, ◌∙◌, ap, sym, subst, map}
use Rattle.law_turn.specs.Stations.{earlier}
use Rattle.law_runs.specs.Runs.{onward}
use Rattle.pb_scenario.specs.Coming.{onward_to}
use Rattle.pb_scenario.specs.Rounds.{blocks_of}
use Rattle.pb_scenario.specs.Steps.{deed_of}
use Rattle.pb_scenario.specs.StreamWalking.{steps_in}
use Rattle.pb_scenario.specs.Walks.{WalkView, plan_in}
use Rattle.pb_scenario.proofs.Happenings.{onward-now}
use Rattle.pb_scenario.proofs.stream_walks.StreamWalk.next_by.Goals as goal

pub returns-clause-next : goal.returns-clause-next
returns-clause-next c =
    let w = c.self.inside in
    subst (λ (v : WalkView). c.next_moment.result ≡ onward (plan_in v) v.clock (earlier ((plan_in v).later v.clock) (earlier c.args.change c.args.turn))) c.self.view_is
    (c.next_moment.ensures.next ∙ ap (λ o. onward_to w.until w.clock (earlier o (earlier c.args.change c.args.turn))) c.self.invariant.agenda.next
    ∙ sym (onward-now (steps_in w) w.until w.clock (map (λ d. deed_of d.now) w.today.items) (blocks_of w.agenda.blocks.items) w.held.items (earlier c.args.change c.args.turn) c.self.invariant.coming))
