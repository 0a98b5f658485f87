-- Where none of its steps happens at the moment, a block stays as it is.
use Rattle.std.proofs.Common.{◌≡◌, ◌≢◌, ◌∙◌, ◌++◌, ap, append-nil, map, sym, Some, true, false}
use Rattle.pb_scenario.specs.Rounds.{block_of, soonest}
use Rattle.pb_scenario.specs.Steps.{deed_of}
use Rattle.pb_scenario.proofs.Happenings.{none-at}
use Rattle.pb_scenario.proofs.rounds.Block.happen.Goals as goal

pub returns-else-is_at-clause-left : goal.returns-else-is_at-clause-left
returns-else-is_at-clause-left c =
    let b = c.args.self.now in
    let other : soonest (block_of b) ≢ Some c.args.at = λ is. (let wrong : true ≡ false = sym (c.is_at.ensures.1 (c.requires.kept.next ∙ is)) ∙ c.if-is_at.false in cc) in
    (none-at c.args.at (block_of b) c.requires.from other).0

pub returns-else-is_at-clause-today : goal.returns-else-is_at-clause-today
returns-else-is_at-clause-today c =
    let b = c.args.self.now in
    let other : soonest (block_of b) ≢ Some c.args.at = λ is. (let wrong : true ≡ false = sym (c.is_at.ensures.1 (c.requires.kept.next ∙ is)) ∙ c.if-is_at.false in cc) in
    let before = map (λ d. deed_of d.now) c.args.today.now.items in
    sym (append-nil before) ∙ ap (λ ds. before ++ ds) (sym (none-at c.args.at (block_of b) c.requires.from other).1)
