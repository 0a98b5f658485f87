-- The table says until when the tap is withheld.
use Rattle.std.proofs.Common.{◌≡◌, ◌∙◌, ap, sym, subst, arith, ◌<◌, length}
use Rattle.std.specs.Prelude.{slice_index}
use Rattle.std.proofs.lemmas.Grind.{common_steps}
use Rattle.law_turn.specs.Stations.{earlier}
use Rattle.law_runs.specs.Runs.{comes}
use Rattle.pb_scenario.specs.Steps.{steps_of}
use Rattle.pb_scenario.specs.Coming.{comes_in}
use Rattle.pb_scenario.specs.Walks.{WalkView, plan_in}
use Rattle.pb_scenario.proofs.Left.{comes-left}
use Rattle.pb_scenario.proofs.walks.Walk.sooner.Goals as goal

pub returns : goal.returns
returns c =
    let w = c.self.inside in
    let there : c.args.tap < length w.held.items = omega (arith, c.requires, ap (λ (v : WalkView). v.taps) c.self.view_is) in
    let entry : c.index.result.now ≡ slice_index w.held.items c.args.tap = grind (arith, common_steps) in
    subst (λ (v : WalkView). c.earlier.result ≡ earlier c.args.first (comes (plan_in v) v.clock c.args.tap c.args.due)) c.self.view_is
    (c.earlier.ensures ∙ ap (earlier c.args.first) (c.comes.ensures ∙ ap (λ n. comes_in w.clock n c.args.due) entry
    ∙ sym (comes-left (steps_of w.steps.now) w.until w.clock (steps_of w.today.now) (steps_of w.later.now) w.held.items c.args.tap c.args.due c.self.invariant.left there)))
