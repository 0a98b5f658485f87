use Rattle.std.proofs.Common.{◌∙◌, sym, arith, length, ◌<◌, ◌+◌}
use Rattle.std.specs.Prelude.{drop}
use Rattle.std.proofs.lemmas.List.{length-map}
use Rattle.pb_world.specs.Buses.{world_with}
use Rattle.pb_taps.specs.Taps.{tap_of}
use Rattle.pb_taps.proofs.Items.{left-at}
use Rattle.pb_world.proofs.Premising.{waits-here, waits-later}
use Rattle.pb_world.proofs.premises.first_waiting.Goals as goal

pub returns-then-has_waited-clause-inside : goal.returns-then-has_waited-clause-inside
returns-then-has_waited-clause-inside c = omega (arith, c.loop-tap-test.true, c.len-tap-end.ensures)

pub returns-then-has_waited-clause-first : goal.returns-then-has_waited-clause-first
returns-then-has_waited-clause-first c = λ old silent.
    let taps = c.args.bus.now.taps.items in
    let w = world_with old c.args.bus.now in
    let i = c.loop-tap.tap in
    let t = c.index.result.now in
    let there : i < length taps = omega (arith, c.loop-tap-test.true, c.len-tap-end.ensures) in
    let inside : i < length w.taps = omega (arith, there, length-map taps tap_of) in
    let left = left-at tap_of taps i t there c.index.ensures in (
      c.loop-tap.invariant.behind,
      inside,
      c.loop-tap.invariant.none old silent
          ∙ waits-here w i (drop i w.taps) (drop (i + 1) w.taps) (tap_of t) left (sym (c.has_waited.ensures old (silent i inside)) ∙ c.if-has_waited.true),
    )

pub loop-tap-preserved : goal.loop-tap-preserved
loop-tap-preserved c =
    let taps = c.args.bus.now.taps.items in
    let i = c.loop-tap.tap in
    let t = c.index.result.now in
    let there : i < length taps = omega (arith, c.loop-tap-test.true, c.len-tap-end.ensures) in
    let left = left-at tap_of taps i t there c.index.ensures in
    record {
      behind = omega (arith, c.loop-tap.invariant.behind);
      none = λ old silent.
          let w = world_with old c.args.bus.now in
          let inside : i < length w.taps = omega (arith, there, length-map taps tap_of) in
          c.loop-tap.invariant.none old silent
          ∙ waits-later w i (drop i w.taps) (drop (i + 1) w.taps) (tap_of t) left (sym (c.has_waited.ensures old (silent i inside)) ∙ c.if-has_waited.false);
    }
