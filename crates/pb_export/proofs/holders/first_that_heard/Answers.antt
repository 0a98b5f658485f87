use Rattle.std.proofs.Common.{◌∙◌, ap, sym, ◌+◌, map, drop}
use Rattle.law_runs.specs.Naming.{first_that_heard}
use Rattle.pb_taps.specs.Taps.{spec_of}
use Rattle.pb_taps.proofs.Items.{left-at}
use Rattle.pb_world.proofs.Tracing.{found-here, not-here}
use Rattle.pb_export.proofs.holders.first_that_heard.Goals as goal

pub returns-then-has_heard : goal.returns-then-has_heard
returns-then-has_heard c =
    let xs = c.args.taps.now in
    let heard = c.args.telegram.now.heard in
    let i = c.loop-tap.tap in
    let x = c.index-taps-tap.result in
    let left = left-at spec_of xs i x c.loop-tap-test.true c.index-taps-tap.is in
    sym (c.loop-tap.invariant
    ∙ ap (first_that_heard heard c.args.to i) left
    ∙ found-here heard c.args.to i (spec_of x) (drop (i + 1) (map spec_of xs)) (sym c.has_heard.ensures ∙ c.if-has_heard.true))

pub loop-tap-preserved : goal.loop-tap-preserved
loop-tap-preserved c =
    let xs = c.args.taps.now in
    let heard = c.args.telegram.now.heard in
    let i = c.loop-tap.tap in
    let x = c.index-taps-tap.result in
    let left = left-at spec_of xs i x c.loop-tap-test.true c.index-taps-tap.is in
    c.loop-tap.invariant
    ∙ ap (first_that_heard heard c.args.to i) left
    ∙ not-here heard c.args.to i (spec_of x) (drop (i + 1) (map spec_of xs)) (sym c.has_heard.ensures ∙ c.if-has_heard.false)
