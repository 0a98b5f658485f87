use Rattle.std.proofs.Common.{map}
use Rattle.pb_telegram.specs.declared.chars.RxChar.TheVariants.{Good}
use Rattle.pb_transitions.proofs.Arriving.{octets-token, token-arrives}
use Rattle.pb_transitions.proofs.arrivals.spelled_token.Goals as goal

pub returns : goal.returns
returns c =
    let unit = c.spelled_unit_is_the_telegrams.ensures in
    let spelled = c.what_is_spelled_has_no_fault.ensures in
    token-arrives unit.var unit.fixed spelled.no_fault spelled.octets (map Good c.args.octets.now) c.spelled_token.result
    (octets-token c.args.octets.now c.spelled_token.result c.spelled_token.ensures.whole)
