use Rattle.std.proofs.Common.{◌≡◌, subst, List, Some, refl, arith}
use Rattle.std.specs.Prelude.{slice_get}
use Rattle.law_model.specs.Medium.{TapSpec}
use Rattle.pb_taps.specs.Taps.{spec_of}
use Rattle.pb_taps.proofs.Items.{item-at}
use Rattle.pb_export.specs.Json.{station_text, stations_text}
use Rattle.pb_export.proofs.Loops.{pair-step}
use Rattle.pb_export.proofs.json.push_stations.Goals as goal

pub loop-tap-preserved : goal.loop-tap-preserved
loop-tap-preserved c =
    let s = c.args.scenario.now in
    let i = c.loop-tap.tap in
    let taps = c.taps-taps.result.now in
    let t = c.index-taps-tap.result in
    let at : slice_get s.scenario.taps i ≡ Some (spec_of t) =
    subst (λ (xs : List TapSpec). slice_get xs i ≡ Some (spec_of t)) c.taps-taps.ensures.specs (item-at spec_of taps i t (omega (arith, c.loop-tap-test.true)) c.index-taps-tap.is) in
    pair-step stations_text station_text s.names s.scenario.taps i c.name.result.now (spec_of t) c.loop-tap.text.items c.push_station.new.text.items _
    (λ k x xs y ys. refl) c.name.ensures at c.in_ok-push_station.ensures c.loop-tap.invariant
