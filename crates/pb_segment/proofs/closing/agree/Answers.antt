use Rattle.std.proofs.Common.{rules, arith, ◌≡◌, ◌+◌, ◌≤◌, ℕ, ap, sym, subst, length, drop, Some, List, refl}
use Rattle.std.proofs.lemmas.Bool.{false≢true}
use Rattle.std.specs.Prelude.{slice_get}
use Rattle.std.proofs.lemmas.Grind.{elements}
use Rattle.pb_segment.specs.Blocks.{happened_in}
use Rattle.pb_segment.specs.Histories.{Receipt, StandsFrom, StandInOrder, is_of, told}
use Rattle.pb_segment.proofs.Standing.{told_in_order, in_order_told, next_stands, left_stand, end_stands, stands_inside}
use Rattle.pb_segment.proofs.closing.agree.Goals as goal
use Rattle.pb_segment.proofs.closing.agree.Goals.{then-receipt-events-via-then-receipt-events, then-receipt-events-via-else-receipt-events+then-not-stands}

pub loop-next-preserved : goal.loop-next-preserved
loop-next-preserved c =
    let is = is_of c.args.owner in
    let hs = happened_in c.args.history.now in
    let rs = c.args.receipts.now.items in
    let r = c.index-receipt.result.now in
    let from = c.loop-next.from in
    let next = c.loop-next.next in
    let here : slice_get rs next ≡ Some r = grind (arith, elements) in
    let place : c.receipt.inside.place ≡ r.place = ap (λ (x : Receipt). x.place) c.receipt.view_is in
    let stands : StandsFrom is hs from r = c.if-not-stands.ensures.0 refl in (
      (λ rest. c.loop-next.invariant.0 (left_stand is hs from rs next r here stands (subst (λ (n : ℕ). StandInOrder is hs (n + 1) (drop (next + 1) rs)) place rest))),
      (λ all. subst (λ (n : ℕ). StandInOrder is hs (n + 1) (drop (next + 1) rs)) (sym place) (next_stands is hs from rs next r here (c.loop-next.invariant.1 all)).1),
    )

pub returns : goal.returns
returns c =
    let is = is_of c.args.owner in
    let hs = happened_in c.args.history.now in
    let rs = c.args.receipts.now.items in
    let over : length rs ≤ c.loop-next.next = search rules in
    let many : length rs ≡ length (told is hs) = search rules in
    (λ t. in_order_told is hs rs (c.loop-next.invariant.0 (end_stands is hs c.loop-next.from rs c.loop-next.next over)) many, λ same. refl)

pub returns-then-receipt-events : goal.returns-then-receipt-events
returns-then-receipt-events c =
    let is = is_of c.args.owner in
    let hs = happened_in c.args.history.now in
    let rs = c.args.receipts.now.items in
    let r = c.index-receipt.result.now in
    let from = c.loop-next.from in
    let next = c.loop-next.next in
    let here : slice_get rs next ≡ Some r = grind (arith, elements) in
    let place : c.receipt.inside.place ≡ r.place = ap (λ (x : Receipt). x.place) c.receipt.view_is in (
      λ f. absurd (false≢true f),
      λ same.
          let all = subst (λ (l : List Receipt). StandInOrder is hs 0 l) same (told_in_order is hs) in
          let one = (next_stands is hs from rs next r here (c.loop-next.invariant.1 all)).0 in
          elim c.then-receipt-events.branch [
            | then-receipt-events-via-then-receipt-events w ↦
                let over : length hs ≤ c.receipt.inside.place = search rules in absurd (stands_inside is hs from r (subst (λ (n : ℕ). length hs ≤ n) place over) one)
            | then-receipt-events-via-else-receipt-events+then-not-stands w ↦ w.if-not-stands.ensures.1 one
          ],
    )
