-- What was ahead is cut at the new moment.
use Rattle.std.proofs.Common.{arith, ap, subst, sym, length}
use Rattle.std.proofs.lemmas.List.{with_items_is}
use Rattle.pb_scenario.specs.Steps.{steps_of}
use Rattle.pb_scenario.specs.Walks.{WalkView, IsLeft}
use Rattle.pb_scenario.proofs.Left.{left-advanced, length-advanced, from-earlier}
use Rattle.pb_scenario.proofs.walks.Walk.go_to.Goals as goal

pub advance-requires-clause-order : goal.advance-requires-clause-order
advance-requires-clause-order c = from-earlier _ 0 (steps_of c.self.inside.later.now) (omega arith) c.self.invariant.left.ahead.order

pub invariant_of-self : goal.invariant_of-self
invariant_of-self c =
    let w = c.self.inside in
    let left = left-advanced (steps_of w.steps.now) _ (steps_of w.later.now) _ _ c.args.at (steps_of c.advance.result.0.now) (steps_of c.advance.result.1.now) _
    c.self.invariant.left.ahead c.deref_mut.ensures.value (omega (arith, c.requires.later, ap (λ (v : WalkView). v.clock) c.self.view_is)) c.advance.ensures in
    let same = with_items_is w.held c.advance.new.held (omega (arith, w.held.ok.0, length-advanced _ _ _ _ _ _ c.advance.ensures, ap length c.deref_mut.ensures.value)) in
    record {
      left = subst (IsLeft (steps_of w.steps.now) c.args.at (steps_of c.advance.result.0.now) (steps_of c.advance.result.1.now)) (sym same) left;
      in_time = omega (arith, c.requires.end, ap (λ (v : WalkView). v.until) c.self.view_is);
      end = c.self.invariant.end;
    }
