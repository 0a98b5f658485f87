use Rattle.std.proofs.Common.{◌∙◌, ap, sym, ◌+◌, map, drop}
use Rattle.std.specs.Option.{option_map}
use Rattle.pb_medium.specs.Entries.{entry_of}
use Rattle.pb_world.specs.Traces.{lent_entry, misplaced_from}
use Rattle.pb_taps.proofs.Items.{left-at}
use Rattle.pb_world.proofs.Tracing.{passes, stops-at}
use Rattle.pb_world.proofs.traces.first_misplaced.Goals as goal

pub returns-then-is_misplaced : goal.returns-then-is_misplaced
returns-then-is_misplaced c =
    let xs = c.args.trace.now in
    let i = c.loop-place.place in
    let x = c.index-trace-place.result in
    let before = option_map lent_entry c.loop-place.before in
    let left = left-at entry_of xs i x c.loop-place-test.true c.index-trace-place.is in
    sym (c.loop-place.invariant
    ∙ ap (misplaced_from before i) left
    ∙ stops-at before i (entry_of x) (drop (i + 1) (map entry_of xs)) (sym c.is_misplaced.ensures ∙ c.if-is_misplaced.true))

pub loop-place-preserved : goal.loop-place-preserved
loop-place-preserved c =
    let xs = c.args.trace.now in
    let i = c.loop-place.place in
    let x = c.index-trace-place.result in
    let before = option_map lent_entry c.loop-place.before in
    let left = left-at entry_of xs i x c.loop-place-test.true c.index-trace-place.is in
    c.loop-place.invariant
    ∙ ap (misplaced_from before i) left
    ∙ passes before i (entry_of x) (drop (i + 1) (map entry_of xs)) (sym c.is_misplaced.ensures ∙ c.if-is_misplaced.false)
