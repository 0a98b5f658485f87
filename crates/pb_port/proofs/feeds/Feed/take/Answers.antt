use Rattle.std.proofs.Common.{◌≤◌, length, sym, subst, arith}
use Rattle.pb_telegram.specs.Receiving.{StandsFor}
use Rattle.pb_port.proofs.feeds.Feed.take.Goals as goal

pub invariant_of-self : goal.invariant_of-self
invariant_of-self c =
    let came = c.feed.ensures.stands c.self.inside.characters.items c.self.invariant.0 in
    let stands = subst (λ l. StandsFor c.feed.new.self l) (sym c.push.ensures.items) came in
    let fits : length c.push.new.self.items ≤ 255 = omega (arith, c.push.ensures.len, c.len.ensures.value, c.if-len-lt-MOST_CHARACTERS.true) in
    (stands, fits, c.is_whole-self-inside.ensures c.push.new.self.items stands, c.self.invariant.3)
