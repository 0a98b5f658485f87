use Rattle.std.proofs.Common.{◌∙◌, ◌<◌, ap, sym, arith, ◌==◌, Some, false}
use Rattle.std.proofs.lemmas.Bool.{eq-eqb, ne_eqb}
use Rattle.pb_medium.specs.Receptions.{holds, heard_as}
use Rattle.pb_medium.proofs.Receiving.{list-at, list-length}
use Rattle.pb_medium.proofs.receptions.Reception.at.Goals as goal

pub contains-requires : goal.contains-requires
contains-requires c = omega (arith, c.requires, c.self.invariant, list-length c.self.inside c.args.self.now c.self.view_is)

pub contains-requires-else-tap-self : goal.contains-requires-else-tap-self
contains-requires-else-tap-self c = omega (arith, c.requires, c.self.invariant, list-length c.self.inside c.args.self.now c.self.view_is)

pub contains-requires-else-contains-2 : goal.contains-requires-else-contains-2
contains-requires-else-contains-2 c = omega (arith, c.requires, c.self.invariant, list-length c.self.inside c.args.self.now c.self.view_is)

pub returns-then-contains : goal.returns-then-contains
returns-then-contains c =
    let r = c.self.inside in
    let tap = c.args.tap in
    let there : tap < r.taps = omega (arith, c.requires, list-length r c.args.self.now c.self.view_is) in
    list-at r c.args.self.now tap c.self.view_is there
    ∙ ap (λ b. Some (heard_as b (tap == r.speaker) (holds r.whole tap) (holds r.damaged tap))) (sym c.if-contains.ensures)

pub returns-then-tap-self : goal.returns-then-tap-self
returns-then-tap-self c =
    let r = c.self.inside in
    let tap = c.args.tap in
    let there : tap < r.taps = omega (arith, c.requires, list-length r c.args.self.now c.self.view_is) in
    list-at r c.args.self.now tap c.self.view_is there
    ∙ ap (λ b. Some (heard_as b (tap == r.speaker) (holds r.whole tap) (holds r.damaged tap))) (sym c.if-contains.ensures)
    ∙ ap (λ b. Some (heard_as false b (holds r.whole tap) (holds r.damaged tap))) (eq-eqb tap r.speaker c.if-tap-self.true)

pub returns-then-contains-2 : goal.returns-then-contains-2
returns-then-contains-2 c =
    let r = c.self.inside in
    let tap = c.args.tap in
    let there : tap < r.taps = omega (arith, c.requires, list-length r c.args.self.now c.self.view_is) in
    list-at r c.args.self.now tap c.self.view_is there
    ∙ ap (λ b. Some (heard_as b (tap == r.speaker) (holds r.whole tap) (holds r.damaged tap))) (sym c.if-contains.ensures)
    ∙ ap (λ b. Some (heard_as false b (holds r.whole tap) (holds r.damaged tap))) (ne_eqb tap r.speaker c.if-tap-self.false)
    ∙ ap (λ b. Some (heard_as false false b (holds r.damaged tap))) (sym c.if-contains-2.ensures)

pub returns-then-contains-3 : goal.returns-then-contains-3
returns-then-contains-3 c =
    let r = c.self.inside in
    let tap = c.args.tap in
    let there : tap < r.taps = omega (arith, c.requires, list-length r c.args.self.now c.self.view_is) in
    list-at r c.args.self.now tap c.self.view_is there
    ∙ ap (λ b. Some (heard_as b (tap == r.speaker) (holds r.whole tap) (holds r.damaged tap))) (sym c.if-contains.ensures)
    ∙ ap (λ b. Some (heard_as false b (holds r.whole tap) (holds r.damaged tap))) (ne_eqb tap r.speaker c.if-tap-self.false)
    ∙ ap (λ b. Some (heard_as false false b (holds r.damaged tap))) (sym c.if-contains-2.ensures)
    ∙ ap (λ b. Some (heard_as false false false b)) (sym c.if-contains-3.ensures)

pub returns-else-contains-3 : goal.returns-else-contains-3
returns-else-contains-3 c =
    let r = c.self.inside in
    let tap = c.args.tap in
    let there : tap < r.taps = omega (arith, c.requires, list-length r c.args.self.now c.self.view_is) in
    list-at r c.args.self.now tap c.self.view_is there
    ∙ ap (λ b. Some (heard_as b (tap == r.speaker) (holds r.whole tap) (holds r.damaged tap))) (sym c.if-contains.ensures)
    ∙ ap (λ b. Some (heard_as false b (holds r.whole tap) (holds r.damaged tap))) (ne_eqb tap r.speaker c.if-tap-self.false)
    ∙ ap (λ b. Some (heard_as false false b (holds r.damaged tap))) (sym c.if-contains-2.ensures)
    ∙ ap (λ b. Some (heard_as false false false b)) (sym c.if-contains-3.ensures)
