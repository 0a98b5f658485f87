use Rattle.law_model.specs.World.{Turn}
use Rattle.pb_segment.proofs.Counting.{still_counted}
use Rattle.pb_segment.proofs.locked.Locked.turn.Goals as goal

pub invariant_of-seat : goal.invariant_of-seat
invariant_of-seat g c =
    let k = c.take_turn in
    let i = c.seat.inside in (
      c.seat.invariant.0,
      k.ensures.part,
      still_counted k.result _ k.new.self (Turn i.tap) i.receipts.items k.new.receipts.items i.share.amount k.new.share.amount
          k.ensures.ok k.ensures.counted k.ensures.same c.seat.invariant.2,
    )
