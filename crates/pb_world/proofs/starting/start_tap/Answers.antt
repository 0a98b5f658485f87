use Rattle.std.proofs.Common.{ap, ◌∙◌, true}
use Rattle.law_turn.specs.Stations.{started}
use Rattle.pb_world.proofs.starting.start_tap.Goals as goal

pub returns : goal.returns
returns c =
    let t = c.args.tap.now in
    let s = t.station in
    ap (λ since. record t { running = true; since = since; amid = c.args.amid; station = c.start.new.self; marks = c.clear.new.self }) c.get-tap.ensures.value
    ∙ ap (λ after. record t { running = true; since = c.args.now; amid = c.args.amid; station = after; marks = c.clear.new.self }) c.start.ensures
    ∙ ap (λ marks. record t { running = true; since = c.args.now; amid = c.args.amid; station = record s { station = started s.params s.station s.master c.args.now }; marks = marks }) c.clear.ensures
