use Rattle.std.proofs.Common.{rules, ◌≡◌, ◌++◌, ◌∷◌, [], subst, sym}
use Rattle.pb_telegram.specs.Receiving.{received_more, StandsFor}
use Rattle.pb_telegram.proofs.Standing.{stands_more}
use Rattle.pb_telegram.proofs.receiving.Receiver.feed.Goals as goal

pub returns-in-Good-clause-stands : goal.returns-in-Good-clause-stands
returns-in-Good-clause-stands c =
    let more : c.take.new.self ≡ received_more c.args.self.now c.args.char = search rules in
    λ chars stands. subst (λ r. StandsFor r (chars ++ c.args.char ∷ [])) (sym more) (stands_more c.args.self.now c.args.char chars stands)

pub returns-after-is_none-clause-stands : goal.returns-after-is_none-clause-stands
returns-after-is_none-clause-stands c =
    let more : c.take-in-Bad.new.self ≡ received_more c.args.self.now c.args.char = search rules in
    λ chars stands. subst (λ r. StandsFor r (chars ++ c.args.char ∷ [])) (sym more) (stands_more c.args.self.now c.args.char chars stands)
