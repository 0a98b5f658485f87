use Rattle.pb_transitions.proofs.Arriving.{octets-arrive}
use Rattle.pb_transitions.proofs.arrivals.spelled_telegram.Goals as goal

pub returns : goal.returns
returns c =
    let unit = c.spelled_unit_is_the_telegrams.ensures in
    let spelled = c.what_is_spelled_has_no_fault.ensures in
    octets-arrive unit.var unit.fixed spelled.no_fault spelled.octets c.args.octets.now c.spelled_telegram.result c.spelled_telegram.ensures.whole
    c.spelled_telegram.ensures.none
