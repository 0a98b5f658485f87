use Rattle.std.proofs.Common.{map, take}
use Rattle.pb_telegram.specs.Receiving.{StandsFor}
use Rattle.pb_telegram.specs.declared.chars.RxChar.TheVariants.{Good}
use Rattle.pb_telegram.proofs.reading.feed_octets.Given as goal

abbrev pub invariant-loop-octet : goal.invariant-loop-octet
invariant-loop-octet l = StandsFor l.receiver (map Good (take l.octet-index l.octets))
