-- One tap more is looked at.
use Rattle.std.proofs.Common.{◌<◌, ◌∙◌, length, ap, arith, sym}
use Rattle.std.proofs.lemmas.List.{length-map}
use Rattle.law_turn.specs.Stations.{earlier}
use Rattle.law_runs.specs.Runs.{after}
use Rattle.pb_taps.specs.Taps.{tap_of}
use Rattle.pb_world.specs.Buses.{world_of}
use Rattle.pb_world.specs.RunTo.{alone_until}
use Rattle.pb_world.specs.Worlds.{due_at}
use Rattle.pb_world.proofs.Instants.{comes-alone, sooner-more}
use Rattle.pb_world.proofs.run_to.next_turn.Goals as goal

pub loop-tap-preserved : goal.loop-tap-preserved
loop-tap-preserved c =
    let w = world_of c.args.on.now in
    let now = c.args.leg.now in
    let until = c.args.leg.until in
    let tap = c.loop-tap.tap in
    let first = c.loop-tap.first in
    let there : tap < length w.taps = omega (arith, c.loop-tap-test.true, c.len-tap-end.ensures, length-map c.args.on.now.taps.items tap_of) in
    sooner-more (alone_until until) now w tap first c.earlier-first.result _ there
    (c.earlier-first.ensures
    ∙ ap (earlier first) (c.later.ensures ∙ ap (after now) c.due.ensures ∙ sym (comes-alone until now tap (due_at w tap)))) c.loop-tap.invariant
