use Rattle.pb_transitions.proofs.Arriving.{token-arrives}
use Rattle.pb_transitions.proofs.arrivals.token_in.Goals as goal

pub returns : goal.returns
returns c =
    let unit = c.spelled_unit_is_the_telegrams.ensures in
    let spelled = c.what_is_spelled_has_no_fault.ensures in
    token-arrives unit.var unit.fixed spelled.no_fault spelled.octets c.args.chars.now c.token_in.result c.token_in.ensures.whole
