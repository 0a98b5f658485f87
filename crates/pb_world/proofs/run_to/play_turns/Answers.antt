-- One tap more has turned, or its turn stops all.
use Rattle.std.proofs.Common.{◌<◌, length, map, arith}
use Rattle.std.proofs.lemmas.List.{length-map}
use Rattle.law_model.specs.World.{Turn}
use Rattle.pb_taps.specs.Taps.{tap_of}
use Rattle.pb_world.specs.Watched.{world_in}
use Rattle.pb_world.proofs.Alone.{none-turned, turned-all, turned-more, turned-stops}
use Rattle.pb_world.proofs.Counting.{count-all}
use Rattle.pb_world.proofs.Instants.{in-err}
use Rattle.pb_world.proofs.run_to.play_turns.Goals as goal

pub loop-tap-init : goal.loop-tap-init
loop-tap-init c = none-turned c.args.leg.until c.args.leg.now c.args.watched.now c.requires

pub returns-in_err-play_turn : goal.returns-in_err-play_turn
returns-in_err-play_turn c =
    let old = c.args.watched.now in
    let mid = c.loop-tap.watched in
    let turned = c.loop-tap.invariant in
    let same = count-all c.args.leg.now (map Turn turned.taps) (world_in old) (world_in mid) turned.happened.world in
    let there : c.loop-tap.tap < length (world_in mid).taps =
    omega (arith, c.loop-tap-test.true, c.len-tap-end.ensures, length-map old.bus.taps.items tap_of, same) in
    in-err _ _ c.from_residual.result c.in_err-play_turn.field-0.0 c.from_residual.ensures.0 c.from_residual.ensures.1
    (turned-stops c.args.leg.until c.args.leg.now c.loop-tap.tap old mid c.play_turn.new.watched c.in_err-play_turn.field-0.0 turned there c.in_err-play_turn.ensures)

pub loop-tap-preserved : goal.loop-tap-preserved
loop-tap-preserved c =
    let old = c.args.watched.now in
    let mid = c.loop-tap.watched in
    let turned = c.loop-tap.invariant in
    let same = count-all c.args.leg.now (map Turn turned.taps) (world_in old) (world_in mid) turned.happened.world in
    let there : c.loop-tap.tap < length (world_in mid).taps =
    omega (arith, c.loop-tap-test.true, c.len-tap-end.ensures, length-map old.bus.taps.items tap_of, same) in
    turned-more c.args.leg.until c.args.leg.now c.loop-tap.tap old mid c.play_turn.new.watched turned there c.in_ok-play_turn.ensures

pub returns : goal.returns
returns c =
    let old = c.args.watched.now in
    turned-all c.args.leg.until c.args.leg.now c.loop-tap.tap old c.loop-tap.watched c.loop-tap.invariant
    (omega (arith, c.loop-tap-test.false, c.len-tap-end.ensures, length-map old.bus.taps.items tap_of))
