-- Those before the place have no receipt.
use Rattle.std.proofs.Common.{◌≡◌, ◌++◌, map, take, drop}
use Rattle.pb_monitor.specs.Known.{without_receipt}
use Rattle.pb_monitor.proofs.tallies.forget_receipts.Given as goal

abbrev pub invariant-loop-station : goal.invariant-loop-station
invariant-loop-station l =
    l.stations ≡ map without_receipt (take l.station-index l.initial.stations) ++ drop l.station-index l.initial.stations
