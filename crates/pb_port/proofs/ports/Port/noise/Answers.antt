use Rattle.std.proofs.Common.{◌≤◌, sym, subst, ap, arith}
use Rattle.pb_station.specs.Mailboxes.{MailboxView}
use Rattle.pb_station.specs.MarkViews.{AllOver}
use Rattle.pb_port.proofs.Over.{over_behind}
use Rattle.pb_port.proofs.ports.Port.noise.Goals as goal

pub invariant_of-self : goal.invariant_of-self
invariant_of-self c =
    let d = c.in_ok-delivery.delivery in
    let m = c.in_ok-delivery.ensures.moments in
    let later : c.self.inside.clock ≤ d.seen = omega (arith, m.1, m.2, ap (λ v. v.clock) c.self.view_is) in
    let not_ahead : d.at ≤ d.seen = omega (arith, m.0, m.1, m.4) in
    let over = over_behind c.self.inside.clock d.seen _ c.self.inside.mail.marks later not_ahead c.self.invariant.0 in
    (subst (λ (v : MailboxView). AllOver d.seen v.marks) (sym c.push_noise.ensures) over, omega (arith, m.1, m.3))
