use Rattle.std.proofs.Common.{◌≡◌, ◌∙◌, ◌∷◌, ap, suc, ◌+◌, arith, drop}
use Rattle.pb_medium.specs.Entries.{heard_of}
use Rattle.pb_medium.proofs.Compared.{left}
use Rattle.pb_medium.proofs.hearing.HeardByTapIterator.next.Goals as goal

pub returns-clause-steps : goal.returns-clause-steps
returns-clause-steps c =
    let heard = c.args.self.now.reception.now in
    let i = c.args.self.now.next in
    let next : suc i ≡ i + 1 = omega arith in
    left heard i (heard_of c.at-heard.result) c.at-heard.ensures ∙ ap (λ n. heard_of c.at-heard.result ∷ drop n heard) next
