use Rattle.std.proofs.Common.{◌≡◌, Some, refl, arith}
use Rattle.std.specs.Prelude.{slice_get, slice_index}
use Rattle.std.proofs.lemmas.Option.{slice_get-get_or}
use Rattle.pb_export.specs.CaptureSvg.{station, stations_from}
use Rattle.pb_export.proofs.Loops.{item-step}
use Rattle.pb_export.proofs.capture_svg.push_each_station.Goals as goal

pub loop-lane-preserved : goal.loop-lane-preserved
loop-lane-preserved c =
    let xs = c.args.lanes.now in
    let i = c.loop-lane.lane in
    let here : slice_get xs i ≡ Some (slice_index xs i) = slice_get-get_or xs i 0 (omega (arith, c.loop-lane-test.true)) in
    item-step (stations_from c.args.sheet c.args.strip) (station c.args.sheet c.args.strip) xs i (slice_index xs i) c.loop-lane.text.items c.push_station.new.text.items _
    (λ k y ys. refl) here c.in_ok-push_station.ensures c.loop-lane.invariant
