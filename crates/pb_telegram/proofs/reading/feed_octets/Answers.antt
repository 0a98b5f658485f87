use Rattle.std.proofs.Common.{◌≡◌, map, take, subst, arith}
use Rattle.std.proofs.lemmas.Grind.{common_steps}
use Rattle.pb_telegram.specs.Receiving.{StandsFor}
use Rattle.pb_telegram.specs.declared.chars.RxChar.TheVariants.{Good}
use Rattle.pb_telegram.proofs.reading.feed_octets.Goals as goal

pub loop-octet-preserved : goal.loop-octet-preserved
loop-octet-preserved c =
    let octets = c.args.octets.now in
    let i = c.loop-octet.octet-index in
    let stands = c.feed.ensures.stands (map Good (take i octets)) c.loop-octet.invariant in
    subst (λ l. StandsFor c.feed.new.self l) (grind (arith, common_steps)) stands

pub returns : goal.returns
returns c =
    let octets = c.args.octets.now in
    let whole : map Good (take c.loop-octet.octet-index octets) ≡ map Good octets = grind (arith, common_steps) in
    subst (λ l. StandsFor c.loop-octet.receiver l) whole c.loop-octet.invariant
