use Rattle.std.proofs.Common.{◌∙◌, ◌+◌, ap, sym, map}
use Rattle.std.specs.Prelude.{drop}
use Rattle.pb_station.specs.Indications.{fields_of}
use Rattle.pb_taps.proofs.Items.{left-at}
use Rattle.pb_world.specs.Told.{with_more}
use Rattle.pb_world.proofs.told.Tray.put_all.Goals as goal

pub loop-request-preserved : goal.loop-request-preserved
loop-request-preserved c =
    let index = c.loop-request.request-index in
    let requests = c.args.requests.now in
    ap (with_more (drop (index + 1) (map fields_of requests))) c.put.ensures
    ∙ sym (ap (λ rs. with_more rs c.loop-request.self) (left-at fields_of requests index c.request-item.result c.loop-request-test.true c.request-item.is))
    ∙ c.loop-request.invariant
