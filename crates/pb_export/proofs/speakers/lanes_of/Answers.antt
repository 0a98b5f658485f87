use Rattle.std.proofs.Common.{◌≡◌, ◌≤◌, ◌∙◌, ap, sym, refl, arith, ℕ, ◌-◌, List, [], Bool, ◌++◌, ◌==◌}
use Rattle.std.specs.List.{list_any}
use Rattle.std.proofs.lemmas.List.{append-nil}
use Rattle.pb_export.specs.CaptureSvg.{lanes_from, lanes_of}
use Rattle.pb_export.specs.Rosters.{lane_if}
use Rattle.pb_export.proofs.Loops.{count-step}
use Rattle.pb_export.proofs.speakers.lanes_of.Goals as goal

-- no address is left
at_end : (F : ℕ → ℕ → List ℕ) (i end : ℕ) (text all : List ℕ) → F i 0 ≡ [] → end ≤ i → text ++ F i (end - i) ≡ all → text ≡ all
at_end F i end text all none past so_far =
    let left : end - i ≡ 0 = omega (arith, past) in
    sym (append-nil text) ∙ ap (λ (z : List ℕ). text ++ z) (sym (ap (F i) left ∙ none)) ∙ so_far

pub loop-address-preserved : goal.loop-address-preserved
loop-address-preserved c =
    let speakers = c.args.speakers.now in
    let lanes = c.loop-address.lanes.items in
    let address = c.loop-address.address in
    let lane : ℕ → List ℕ = λ (a : ℕ). lane_if (list_any (λ (s : ℕ). s == a) speakers) a in
    record {
      so_far = count-step (lanes_from speakers) lane address 127 lanes c.push_if.new.lanes.items _
          (λ k n. refl) (omega arith) (c.in_ok-push_if.ensures.lanes ∙ ap (λ (t : Bool). lanes ++ lane_if t address) c.speaks.ensures) c.loop-address.invariant.so_far;
      few = omega arith;
    }

pub returns-clause-lanes : goal.returns-clause-lanes
unfolding lanes_of
returns-clause-lanes c =
    at_end (lanes_from c.args.speakers.now) c.loop-address.address 127 c.loop-address.lanes.items _ refl (omega arith) c.loop-address.invariant.so_far
