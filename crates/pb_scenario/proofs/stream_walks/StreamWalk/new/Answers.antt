-- All happenings come, and are cut at 0.
use Rattle.std.proofs.Common.{◌≡◌, ◌∙◌, ◌++◌, List, ℕ, ap, arith, length, map, rules, subst, sym}
use Rattle.std.specs.Prelude.{replicate}
use Rattle.std.proofs.lemmas.List.{with_items_is}
use Rattle.law_runs.specs.Scenarios.{Deed, Planned}
use Rattle.pb_scenario.specs.Repeats.{happenings}
use Rattle.pb_scenario.specs.Rounds.{IsComing, blocks_of, deeds_at, hold_deeds, others_than}
use Rattle.pb_scenario.specs.Steps.{deed_of, steps_of}
use Rattle.pb_scenario.proofs.Happenings.{coming-first, from-start, length-hold_deeds}
use Rattle.pb_scenario.proofs.stream_walks.StreamWalk.new.Goals as goal

pub happen-requires-clause-from : goal.happen-requires-clause-from
happen-requires-clause-from c = from-start (blocks_of c.in_ok-agenda.agenda.blocks.items)

pub invariant_of-result : goal.invariant_of-result
invariant_of-result c =
    let held = c.in_ok-held.held in
    let steps = happenings c.args.until c.args.repeats.now (steps_of c.args.steps.now) in
    let zeros : held.items ≡ replicate {A = ℕ} c.args.taps 0 = search rules in
    let all = c.in_ok-agenda.ensures.all in
    let none : List ℕ = replicate c.args.taps 0 in
    let does = deeds_at 0 steps in
    let today : map (λ d. deed_of d.now) c.happen.new.today.items ≡ does =
    c.happen.ensures.today ∙ ap (λ xs. map (λ d. deed_of d.now) xs ++ deeds_at 0 (blocks_of c.in_ok-agenda.agenda.blocks.items)) c.in_ok-today.ensures.items ∙ ap (deeds_at 0) all in
    let left : blocks_of c.happen.new.self.blocks.items ≡ others_than 0 steps = c.happen.ensures.left ∙ ap (others_than 0) all in
    let noted : c.hold_deeds.new.held ≡ hold_deeds none 0 does =
    c.hold_deeds.ensures ∙ ap (λ (h : List ℕ). hold_deeds h 0 (map (λ d. deed_of d.now) c.deref.result.now)) (c.deref_mut.ensures.value ∙ zeros)
    ∙ ap (λ xs. hold_deeds none 0 (map (λ d. deed_of d.now) xs)) c.deref.ensures.value ∙ ap (hold_deeds none 0) today in
    let same = with_items_is held c.hold_deeds.new.held (omega (arith, held.ok.0, ap length noted, length-hold_deeds none 0 does, ap length zeros)) in
    record {
      agenda = c.happen.ensures.kept;
      coming = subst (IsComing steps 0 (map (λ d. deed_of d.now) c.happen.new.today.items) (blocks_of c.happen.new.self.blocks.items)) (sym same)
          (subst (IsComing steps 0 (map (λ d. deed_of d.now) c.happen.new.today.items) (blocks_of c.happen.new.self.blocks.items)) (sym noted)
          (subst (λ (ls : List Planned). IsComing steps 0 (map (λ d. deed_of d.now) c.happen.new.today.items) ls (hold_deeds none 0 does)) (sym left)
          (subst (λ (ds : List Deed). IsComing steps 0 ds (others_than 0 steps) (hold_deeds none 0 does)) (sym today) (coming-first steps c.args.taps))));
      room = omega (arith, c.happen.ensures.count, c.happen.ensures.room, c.in_ok-agenda.ensures.count, c.in_ok-today.ensures.exact);
      in_time = omega arith;
      end = c.requires.end;
    }
