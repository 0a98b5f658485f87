-- Where no step happens at the moment, an agenda stays as it is.
use Rattle.std.proofs.Common.{◌≡◌, ◌≢◌, ◌∙◌, ◌++◌, ap, append-nil, map, sym, Some, true, false}
use Rattle.pb_scenario.specs.Rounds.{blocks_of, soonest}
use Rattle.pb_scenario.specs.Steps.{deed_of}
use Rattle.pb_scenario.proofs.Happenings.{none-at}
use Rattle.pb_scenario.proofs.agendas.Agenda.happen.Goals as goal

pub returns-else-is_at-clause-left : goal.returns-else-is_at-clause-left
returns-else-is_at-clause-left c =
    let all = blocks_of c.args.self.now.blocks.items in
    let other : soonest all ≢ Some c.args.at = λ is. (let wrong : true ≡ false = sym (c.is_at.ensures.1 (c.requires.kept.next ∙ is)) ∙ c.if-is_at.false in cc) in
    (none-at c.args.at all c.requires.from other).0

pub returns-else-is_at-clause-today : goal.returns-else-is_at-clause-today
returns-else-is_at-clause-today c =
    let all = blocks_of c.args.self.now.blocks.items in
    let other : soonest all ≢ Some c.args.at = λ is. (let wrong : true ≡ false = sym (c.is_at.ensures.1 (c.requires.kept.next ∙ is)) ∙ c.if-is_at.false in cc) in
    let before = map (λ d. deed_of d.now) c.args.today.now.items in
    sym (append-nil before) ∙ ap (λ ds. before ++ ds) (sym (none-at c.args.at all c.requires.from other).1)
