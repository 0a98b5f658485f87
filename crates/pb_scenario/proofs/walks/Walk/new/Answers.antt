-- Everything is ahead, and cut at 0.
use Rattle.std.proofs.Common.{arith, ap, subst, sym, length, ◌∙◌, ◌≡◌, rules}
use Rattle.std.specs.Prelude.{replicate}
use Rattle.std.proofs.lemmas.List.{with_items_is}
use Rattle.pb_scenario.specs.Steps.{steps_of}
use Rattle.pb_scenario.specs.Walks.{IsLeft}
use Rattle.pb_scenario.proofs.Left.{left-advanced, length-advanced, all-ahead}
use Rattle.pb_scenario.proofs.walks.Walk.new.Goals as goal

pub invariant_of-result : goal.invariant_of-result
invariant_of-result c =
    let held = c.in_ok-held.held in
    let steps = steps_of c.args.steps.now in
    let zeros : held.items ≡ replicate c.args.taps 0 = search rules in
    let left = left-advanced steps 0 steps (replicate c.args.taps 0) _ 0 (steps_of c.advance.result.0.now) (steps_of c.advance.result.1.now) _
    (all-ahead steps c.args.taps c.requires.order) (c.deref_mut.ensures.value ∙ zeros) (omega arith) c.advance.ensures in
    let same = with_items_is held c.advance.new.held (omega (arith, held.ok.0, length-advanced _ _ _ _ _ _ c.advance.ensures, ap length c.deref_mut.ensures.value)) in
    record {
      left = subst (IsLeft steps 0 (steps_of c.advance.result.0.now) (steps_of c.advance.result.1.now)) (sym same) left;
      in_time = omega arith;
      end = c.requires.end;
    }
