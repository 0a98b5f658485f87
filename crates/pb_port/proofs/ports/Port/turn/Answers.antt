use Rattle.std.proofs.Common.{ap, arith}
use Rattle.pb_port.proofs.Over.{over_later}
use Rattle.pb_port.proofs.ports.Port.turn.Goals as goal

pub take_turn_with-requires-clause-over : goal.take_turn_with-requires-clause-over
take_turn_with-requires-clause-over c =
    let m = c.in_ok-now.ensures.moment in
    over_later c.self.inside.clock c.in_ok-now.now c.self.inside.mail.marks (omega (arith, m.1, ap (λ v. v.clock) c.self.view_is)) c.self.invariant.0
