use Rattle.std.proofs.Common.{map}
use Rattle.pb_telegram.specs.Grammar.{spelling}
use Rattle.pb_telegram.specs.declared.chars.RxChar.TheVariants.{Good}
use Rattle.pb_telegram.proofs.Spelled.{same_octets}
use Rattle.pb_telegram.proofs.reading.received_octets.Goals as goal

pub returns-in-Ok-clause-whole : goal.returns-in-Ok-clause-whole
returns-in-Ok-clause-whole c =
    let octets = c.args.octets.now in
    same_octets octets (spelling c.in-Ok.telegram) (c.in-Ok.ensures.telegram (map Good octets) c.feed_octets.ensures)
