use Rattle.std.proofs.Common.{subst, IsTrue}
use Rattle.pb_segment.specs.Blocks.{happened_in}
use Rattle.pb_segment.specs.Seats.{SeatView, Agrees}
use Rattle.pb_segment.proofs.closing.seat_agrees.Goals as goal

pub returns : goal.returns
returns g c =
    let r = c.agree.result in
    subst (λ (s : SeatView). (IsTrue r → Agrees (happened_in c.args.history.now) s) × (Agrees (happened_in c.args.history.now) s → IsTrue r)) c.seat.view_is c.agree.ensures
