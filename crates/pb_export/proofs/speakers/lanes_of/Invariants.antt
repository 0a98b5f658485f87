-- The lanes so far, and what follows; no more of them than addresses.
use Rattle.std.proofs.Common.{◌≡◌, ◌≤◌, ◌++◌, ◌-◌, length}
use Rattle.pb_export.specs.CaptureSvg.{lanes_from}
use Rattle.pb_export.proofs.speakers.lanes_of.Given as goal

abbrev pub invariant-loop-address : goal.invariant-loop-address
invariant-loop-address l =
    record {
      so_far : l.lanes.items ++ lanes_from l.speakers l.address (127 - l.address) ≡ lanes_from l.speakers 0 127;
      few : length l.lanes.items ≤ l.address;
    }
