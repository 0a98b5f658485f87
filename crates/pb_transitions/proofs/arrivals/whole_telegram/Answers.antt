use Rattle.pb_transitions.proofs.Arriving.{read-arrives}
use Rattle.pb_transitions.proofs.arrivals.whole_telegram.Goals as goal

pub returns : goal.returns
returns c =
    let unit = c.spelled_unit_is_the_telegrams.ensures in
    let spelled = c.what_is_spelled_has_no_fault.ensures in
    read-arrives unit.var unit.fixed spelled.no_fault spelled.octets c.args.chars.now c.spelled_by.result c.spelled_by.ensures.whole c.spelled_by.ensures.none
