-- What comes is cut at the new moment.
use Rattle.std.proofs.Common.{◌≡◌, ◌≤◌, ◌<◌, ◌∙◌, ◌++◌, List, ℕ, ap, arith, length, map, subst, sym}
use Rattle.std.specs.Prelude.{IfSome}
use Rattle.std.proofs.lemmas.List.{with_items_is}
use Rattle.law_runs.specs.Scenarios.{Deed, Planned}
use Rattle.pb_scenario.specs.Rounds.{AreAllFrom, IsComing, blocks_of, deeds_at, hold_deeds, others_than}
use Rattle.pb_scenario.specs.Steps.{deed_of}
use Rattle.pb_scenario.specs.StreamWalking.{steps_in}
use Rattle.pb_scenario.specs.Walks.{WalkView, plan_in}
use Rattle.pb_scenario.proofs.Happenings.{coming-next, from-soonest, length-hold_deeds, next-now}
use Rattle.pb_scenario.proofs.stream_walks.StreamWalk.go_to.Goals as goal

pub happen-requires-clause-from : goal.happen-requires-clause-from
happen-requires-clause-from c =
    let w = c.self.inside in
    let later = blocks_of w.agenda.blocks.items in
    from-soonest c.args.at later
    (subst (λ o. IfSome o (λ moment. c.args.at ≤ moment)) (next-now (steps_in w) w.clock (map (λ d. deed_of d.now) w.today.items) later w.held.items c.self.invariant.coming)
    (subst (λ (v : WalkView). IfSome ((plan_in v).later v.clock) (λ moment. c.args.at ≤ moment)) (sym c.self.view_is) c.requires.next))

pub invariant_of-self : goal.invariant_of-self
invariant_of-self c =
    let w = c.self.inside in
    let at = c.args.at in
    let steps = steps_in w in
    let later = blocks_of w.agenda.blocks.items in
    let before = map (λ d. deed_of d.now) w.today.items in
    let less : w.clock < at = omega (arith, c.requires.later, ap (λ (v : WalkView). v.clock) c.self.view_is) in
    let from : AreAllFrom at later =
    from-soonest at later
    (subst (λ o. IfSome o (λ moment. at ≤ moment)) (next-now steps w.clock before later w.held.items c.self.invariant.coming)
    (subst (λ (v : WalkView). IfSome ((plan_in v).later v.clock) (λ moment. at ≤ moment)) (sym c.self.view_is) c.requires.next)) in
    let next = coming-next steps w.clock before later w.held.items at c.self.invariant.coming less from in
    let today : map (λ d. deed_of d.now) c.happen.new.today.items ≡ deeds_at at later =
    c.happen.ensures.today ∙ ap (λ xs. map (λ d. deed_of d.now) xs ++ deeds_at at later) c.clear.ensures.items in
    let held : c.hold_deeds.new.held ≡ hold_deeds w.held.items at (deeds_at at later) =
    c.hold_deeds.ensures ∙ ap (λ (h : List ℕ). hold_deeds h at (map (λ d. deed_of d.now) c.deref.result.now)) c.deref_mut.ensures.value
    ∙ ap (λ xs. hold_deeds w.held.items at (map (λ d. deed_of d.now) xs)) c.deref.ensures.value ∙ ap (hold_deeds w.held.items at) today in
    let same = with_items_is w.held c.hold_deeds.new.held (omega (arith, w.held.ok.0, ap length held, length-hold_deeds w.held.items at (deeds_at at later))) in
    record {
      agenda = c.happen.ensures.kept;
      coming = subst (IsComing steps at (map (λ d. deed_of d.now) c.happen.new.today.items) (blocks_of c.happen.new.self.blocks.items)) (sym same)
          (subst (IsComing steps at (map (λ d. deed_of d.now) c.happen.new.today.items) (blocks_of c.happen.new.self.blocks.items)) (sym held)
          (subst (λ (ls : List Planned). IsComing steps at (map (λ d. deed_of d.now) c.happen.new.today.items) ls (hold_deeds w.held.items at (deeds_at at later))) (sym c.happen.ensures.left)
          (subst (λ (ds : List Deed). IsComing steps at ds (others_than at later) (hold_deeds w.held.items at (deeds_at at later))) (sym today) next)));
      room = omega (arith, c.happen.ensures.count, c.happen.ensures.room, c.clear.ensures.capacity, c.self.invariant.room);
      in_time = omega (arith, c.requires.end, ap (λ (v : WalkView). v.until) c.self.view_is);
      end = c.self.invariant.end;
    }
