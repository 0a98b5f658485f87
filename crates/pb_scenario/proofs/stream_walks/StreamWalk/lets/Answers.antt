-- The table says until when the tap is withheld.
use Rattle.std.proofs.Common.{◌≡◌, ◌∙◌, ap, sym, subst, arith, ◌<◌, length, map}
use Rattle.std.specs.Prelude.{nat_le, slice_index}
use Rattle.std.proofs.lemmas.Grind.{common_steps}
use Rattle.pb_scenario.specs.Rounds.{blocks_of}
use Rattle.pb_scenario.specs.Steps.{deed_of}
use Rattle.pb_scenario.specs.StreamWalking.{steps_in}
use Rattle.pb_scenario.specs.Walks.{WalkView, plan_in}
use Rattle.pb_scenario.proofs.Happenings.{held-now}
use Rattle.pb_scenario.proofs.stream_walks.StreamWalk.lets.Goals as goal

pub returns : goal.returns
returns c =
    let w = c.self.inside in
    let there : c.args.tap < length w.held.items = omega (arith, c.requires, ap (λ (v : WalkView). v.taps) c.self.view_is) in
    let entry : c.index.result.now ≡ slice_index w.held.items c.args.tap = grind (arith, common_steps) in
    let held = held-now (steps_in w) w.clock (map (λ d. deed_of d.now) w.today.items) (blocks_of w.agenda.blocks.items) w.held.items c.args.tap c.self.invariant.coming there in
    subst (λ (v : WalkView). nat_le c.index.result.now w.clock ≡ nat_le ((plan_in v).held_until v.clock c.args.tap) v.clock) c.self.view_is
    (ap (λ n. nat_le n w.clock) (entry ∙ sym held))
