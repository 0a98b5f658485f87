use Rattle.std.proofs.Common.{map}
use Rattle.pb_telegram.specs.declared.chars.RxChar.TheVariants.{Good}
use Rattle.pb_telegram.proofs.Spelled.{none_spelled, spelled_ok}
use Rattle.pb_telegram.proofs.reading.read_other.Goals as goal

pub returns-in_default-fixed_in-clause-whole : goal.returns-in_default-fixed_in-clause-whole
returns-in_default-fixed_in-clause-whole c =
    let octets = c.args.octets.now in
    spelled_ok octets c.answer.result (c.answer.ensures.telegram (map Good octets) c.feed_octets.ensures)

pub returns-in_default-fixed_in-clause-none : goal.returns-in_default-fixed_in-clause-none
returns-in_default-fixed_in-clause-none c =
    let octets = c.args.octets.now in
    none_spelled octets c.answer.result (c.answer.ensures.spelled (map Good octets) c.feed_octets.ensures)
