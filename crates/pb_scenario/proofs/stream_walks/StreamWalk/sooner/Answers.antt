-- The table says until when the tap is withheld.
use Rattle.std.proofs.Common.{◌≡◌, ◌∙◌, ap, sym, subst, arith, ◌<◌, length, map}
use Rattle.std.specs.Prelude.{slice_index}
use Rattle.std.proofs.lemmas.Grind.{common_steps}
use Rattle.law_turn.specs.Stations.{earlier}
use Rattle.law_runs.specs.Runs.{comes}
use Rattle.pb_scenario.specs.Coming.{comes_in}
use Rattle.pb_scenario.specs.Rounds.{blocks_of}
use Rattle.pb_scenario.specs.Steps.{deed_of}
use Rattle.pb_scenario.specs.StreamWalking.{steps_in}
use Rattle.pb_scenario.specs.Walks.{WalkView, plan_in}
use Rattle.pb_scenario.proofs.Happenings.{comes-now}
use Rattle.pb_scenario.proofs.stream_walks.StreamWalk.sooner.Goals as goal

pub returns : goal.returns
returns c =
    let w = c.self.inside in
    let there : c.args.tap < length w.held.items = omega (arith, c.requires, ap (λ (v : WalkView). v.taps) c.self.view_is) in
    let entry : c.index.result.now ≡ slice_index w.held.items c.args.tap = grind (arith, common_steps) in
    subst (λ (v : WalkView). c.earlier.result ≡ earlier c.args.first (comes (plan_in v) v.clock c.args.tap c.args.due)) c.self.view_is
    (c.earlier.ensures ∙ ap (earlier c.args.first) (c.comes.ensures ∙ ap (λ n. comes_in w.clock n c.args.due) entry
    ∙ sym (comes-now (steps_in w) w.until w.clock (map (λ d. deed_of d.now) w.today.items) (blocks_of w.agenda.blocks.items) w.held.items c.args.tap c.args.due c.self.invariant.coming there)))
