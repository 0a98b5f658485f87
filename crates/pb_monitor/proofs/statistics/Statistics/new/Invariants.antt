-- As many stations as were counted, none of them heard.
use Rattle.std.proofs.Common.{◌≡◌, replicate}
use Rattle.pb_monitor.specs.Known.{new_station}
use Rattle.pb_monitor.proofs.statistics.Statistics.new.Given as goal

abbrev pub invariant-loop-address : goal.invariant-loop-address
invariant-loop-address l = l.stations.items ≡ replicate l._address new_station
