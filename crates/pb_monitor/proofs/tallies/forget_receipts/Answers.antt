-- One more has no receipt.
use Rattle.std.proofs.Common.{◌∙◌, List, ap, get_or, set}
use Rattle.pb_monitor.specs.declared.stations.Station.{Station}
use Rattle.pb_monitor.specs.Known.{new_station, without_receipt}
use Rattle.pb_monitor.proofs.Forgotten.{changed-more}
use Rattle.pb_monitor.proofs.tallies.forget_receipts.Goals as goal

pub loop-station-preserved : goal.loop-station-preserved
loop-station-preserved c =
    let xs = c.args.stations.now in
    let i = c.loop-station.station-index in
    let x = get_or c.loop-station.stations i new_station in
    ap (λ (ss : List Station). set ss i (without_receipt x)) c.loop-station.invariant
    ∙ changed-more without_receipt xs i x new_station c.loop-station-test.true (ap (λ (ss : List Station). get_or ss i new_station) c.loop-station.invariant)
