-- A round that is next at the moment is moved on, and another one has nothing there.
use Rattle.std.proofs.Common.{◌≡◌, ◌≢◌, ◌∙◌, ◌++◌, ap, append-nil, arith, map, sym, Some, true, false}
use Rattle.std.proofs.lemmas.List.{map-append}
use Rattle.pb_scenario.specs.Rounds.{series_of, soonest}
use Rattle.pb_scenario.specs.Steps.{deed_of}
use Rattle.pb_scenario.proofs.Happenings.{none-at, round-does, round-lasts, round-left, round-now}
use Rattle.pb_scenario.proofs.rounds.happen_once.Goals as goal

pub after-requires-clause-left : goal.after-requires-clause-left
after-requires-clause-left c =
    round-lasts c.args.round c.args.round c.args.at (sym c.next.ensures ∙ c.is_at.ensures.0 c.if-is_at.true) c.requires.steady

pub after-requires-clause-moment : goal.after-requires-clause-moment
after-requires-clause-moment c =
    omega (arith, c.requires.moment, round-now c.args.round c.args.round c.args.at (sym c.next.ensures ∙ c.is_at.ensures.0 c.if-is_at.true) c.requires.steady)

pub returns-then-is_at-clause-left : goal.returns-then-is_at-clause-left
returns-then-is_at-clause-left c =
    round-left c.args.round c.after.result c.args.at (sym c.next.ensures ∙ c.is_at.ensures.0 c.if-is_at.true) c.requires.steady
    c.after.ensures.deed c.after.ensures.at c.after.ensures.every c.after.ensures.left

pub returns-then-is_at-clause-today : goal.returns-then-is_at-clause-today
returns-then-is_at-clause-today c =
    let r = c.args.round in
    let before = c.args.today.now.items in
    ap (map (λ d. deed_of d.now)) c.push_reserved.ensures.items ∙ map-append (λ d. deed_of d.now) before _
    ∙ ap (λ ds. map (λ d. deed_of d.now) before ++ ds) (sym (round-does r c.after.result c.args.at (sym c.next.ensures ∙ c.is_at.ensures.0 c.if-is_at.true) c.requires.steady))

pub returns-else-is_at-clause-left : goal.returns-else-is_at-clause-left
returns-else-is_at-clause-left c =
    let other : soonest (series_of c.args.round) ≢ Some c.args.at = λ is. (let wrong : true ≡ false = sym (c.is_at.ensures.1 (c.next.ensures ∙ is)) ∙ c.if-is_at.false in cc) in
    (none-at c.args.at (series_of c.args.round) c.requires.from other).0

pub returns-else-is_at-clause-today : goal.returns-else-is_at-clause-today
returns-else-is_at-clause-today c =
    let other : soonest (series_of c.args.round) ≢ Some c.args.at = λ is. (let wrong : true ≡ false = sym (c.is_at.ensures.1 (c.next.ensures ∙ is)) ∙ c.if-is_at.false in cc) in
    let before = map (λ d. deed_of d.now) c.args.today.now.items in
    sym (append-nil before) ∙ ap (λ ds. before ++ ds) (sym (none-at c.args.at (series_of c.args.round) c.requires.from other).1)
