use Rattle.std.proofs.Common.{rules, arith, ◌≡◌, ◌<◌, ◌≤◌, All, get_or, length, take, sym, subst, refl}
use Rattle.std.proofs.lemmas.Bool.{false≢true}
use Rattle.std.proofs.lemmas.Grind.{common_steps, elements}
use Rattle.std.proofs.lemmas.List.Elements.{All-more, All-get_or}
use Rattle.pb_segment.specs.Blocks.{happened_in}
use Rattle.pb_segment.specs.Seats.{SeatView, Agrees}
use Rattle.pb_segment.proofs.closing.all_agree.Goals as goal

pub returns-then-not-seat_agrees : goal.returns-then-not-seat_agrees
returns-then-not-seat_agrees g c =
    let r = c.index.result.now in
    let seats = c.args.seats.now.items in
    let place = c.loop-place.place in
    let P = λ (s : SeatView). Agrees (happened_in c.args.history.now) s in
    let small : place < length seats = search rules in
    let here : get_or seats place r ≡ r = grind (arith, elements) in
    (λ f. absurd (false≢true f), λ all. c.if-not-seat_agrees.ensures.1 (subst P here (All-get_or P seats place r small all)))

pub loop-place-preserved : goal.loop-place-preserved
loop-place-preserved g c =
    let r = c.index.result.now in
    let seats = c.args.seats.now.items in
    let place = c.loop-place.place in
    let P = λ (s : SeatView). Agrees (happened_in c.args.history.now) s in
    let small : place < length seats = search rules in
    let here : get_or seats place r ≡ r = grind (arith, elements) in
    All-more P seats place r small c.loop-place.invariant (subst P (sym here) (c.if-not-seat_agrees.ensures.0 refl))

pub returns : goal.returns
returns g c =
    let seats = c.args.seats.now.items in
    let over : length seats ≤ c.loop-place.place = search rules in
    let whole : take c.loop-place.place seats ≡ seats = grind (arith, common_steps) in
    (λ t. subst (λ l. All (Agrees (happened_in c.args.history.now)) l) whole c.loop-place.invariant, λ all. refl)
