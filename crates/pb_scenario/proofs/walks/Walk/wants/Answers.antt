-- The table says until when the tap is withheld.
use Rattle.std.proofs.Common.{◌≡◌, ◌∙◌, ap, sym, subst, arith, ◌<◌, length}
use Rattle.std.specs.Prelude.{slice_index}
use Rattle.std.proofs.lemmas.Grind.{common_steps}
use Rattle.law_runs.specs.Runs.{wants}
use Rattle.pb_scenario.specs.Steps.{steps_of}
use Rattle.pb_scenario.specs.Coming.{wants_in}
use Rattle.pb_scenario.specs.Walks.{WalkView, plan_in}
use Rattle.pb_scenario.proofs.Left.{wants-left}
use Rattle.pb_scenario.proofs.walks.Walk.wants.Goals as goal

pub returns : goal.returns
returns c =
    let w = c.self.inside in
    let there : c.args.tap < length w.held.items = omega (arith, c.requires, ap (λ (v : WalkView). v.taps) c.self.view_is) in
    let entry : c.index.result.now ≡ slice_index w.held.items c.args.tap = grind (arith, common_steps) in
    subst (λ (v : WalkView). c.takes_turn.result ≡ wants (plan_in v) v.clock c.args.tap c.args.due) c.self.view_is
    (c.takes_turn.ensures ∙ ap (λ n. wants_in n w.clock c.args.due) entry
    ∙ sym (wants-left (steps_of w.steps.now) w.until w.clock (steps_of w.today.now) (steps_of w.later.now) w.held.items c.args.tap c.args.due c.self.invariant.left there))
