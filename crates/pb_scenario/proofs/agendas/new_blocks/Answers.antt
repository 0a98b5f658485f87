-- One block more, of the first steps that are left.
use Rattle.std.proofs.Common.{◌≡◌, ◌∙◌, ◌+◌, ◌++◌, ◌∷◌, [], List, ap, append-nil, append_assoc, arith, drop, length, sym}
use Rattle.std.proofs.lemmas.List.{length-map, map-append, take-append-drop}
use Rattle.std.proofs.lemmas.List.Concat.{flat_map-append}
use Rattle.std.proofs.lemmas.List.Elements.{All-push, All-same}
use Rattle.law_runs.specs.Scenarios.{Planned}
use Rattle.pb_scenario.specs.declared.deeds.Step.{Step}
use Rattle.pb_scenario.specs.declared.rounds.Block.{Block}
use Rattle.pb_scenario.specs.Repeats.{happenings_from}
use Rattle.pb_scenario.specs.Rounds.{IsBlock, block_of, blocks_of, count_of, rounds_of}
use Rattle.pb_scenario.specs.Steps.{planned_of, steps_of}
use Rattle.pb_scenario.proofs.Moves.{count-push, happenings-append}
use Rattle.pb_scenario.proofs.agendas.new_blocks.Goals as goal

pub loop-left-preserved : goal.loop-left-preserved
loop-left-preserved c =
    let l = c.loop-left in
    let until = c.args.until in
    let repeats = c.args.repeats.now in
    let front = c.split_at.result.0.now in
    let back = c.split_at.result.1.now in
    let b = c.new.result in
    let blocks = l.blocks.items in
    let pushed : c.push.new.self.items ≡ blocks ++ b ∷ [] = c.in_ok-push.ensures.items in
    let whole : l.left.now ≡ front ++ back =
    sym (take-append-drop c.min.result l.left.now) ∙ ap (λ (xs : List Step). xs ++ drop c.min.result l.left.now) (sym c.split_at.ensures.front) ∙ ap (λ (ys : List Step). front ++ ys) (sym c.split_at.ensures.back) in
    let cut : steps_of l.left.now ≡ steps_of front ++ steps_of back = ap steps_of whole ∙ map-append planned_of front back in
    let made : block_of b ≡ happenings_from until repeats l.place (steps_of front) = ap (λ (v : _). rounds_of v.items) c.new.ensures.rounds ∙ c.in_ok-rounds.ensures.rounds in
    let sizes : length b.rounds.items ≡ length front = ap (λ (v : _). length v.items) c.new.ensures.rounds ∙ c.in_ok-rounds.ensures.count in
    let rest = happenings_from until repeats (l.place + length front) (steps_of back) in
    record {
      all = ap (λ (bs : List Block). blocks_of bs ++ rest) pushed
          ∙ ap (λ (xs : List Planned). xs ++ rest) (flat_map-append block_of blocks (b ∷ []) ∙ ap (λ (xs : List Planned). blocks_of blocks ++ xs) (append-nil (block_of b) ∙ made))
          ∙ append_assoc (blocks_of blocks) (happenings_from until repeats l.place (steps_of front)) rest
          ∙ ap (λ n. blocks_of blocks ++ (happenings_from until repeats l.place (steps_of front) ++ happenings_from until repeats (l.place + n) (steps_of back))) (sym (length-map front planned_of))
          ∙ ap (λ (xs : List Planned). blocks_of blocks ++ xs) (sym (happenings-append until repeats l.place (steps_of front) (steps_of back)))
          ∙ ap (λ (xs : List Planned). blocks_of blocks ++ happenings_from until repeats l.place xs) (sym cut)
          ∙ l.invariant.all;
      kept = All-same IsBlock c.push.new.self.items (blocks ++ b ∷ []) pushed (All-push IsBlock blocks b l.invariant.kept c.new.ensures.kept);
      count = ap count_of pushed ∙ count-push blocks b ∙ omega (arith, l.invariant.count, sizes);
      whole = omega (arith, l.invariant.whole, c.split_at.ensures.front_len, c.split_at.ensures.back_len);
    }
