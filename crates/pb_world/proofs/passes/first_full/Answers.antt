-- The first full tap is the one at the position, or is among those behind it.
use Rattle.std.proofs.Common.{rules, ◌≡◌, ◌≤◌, ◌<◌, ◌+◌, ◌∙◌, ap, sym, map, List, [], length, drop, arith, length-append}
use Rattle.std.proofs.lemmas.List.{nil_from_length}
use Rattle.law_model.specs.World.{mark_limit}
use Rattle.law_model.specs.Step as step
use Rattle.pb_medium.specs.Entries.{entry_of}
use Rattle.pb_medium.specs.declared.entries.Entry.{Entry}
use Rattle.law_model.specs.Medium.{new_marks}
use Rattle.law_model.specs.Step.{told}
use Rattle.pb_world.specs.Passes.{with_news}
use Rattle.pb_taps.specs.Taps.{tap_of}
use Rattle.pb_world.proofs.Passing.{from-position, full-here, full-later, nobody-told}
use Rattle.pb_world.proofs.passes.first_full.Goals as goal

pub returns-then-overflows : goal.returns-then-overflows
returns-then-overflows c =
    let trace = map entry_of c.args.entries.now in
    let at = c.loop-position.position in
    let x = c.index-taps-position.result in
    let more = new_marks c.args.delay at (tap_of x) trace c.args.from c.args.to in
    let full : mark_limit < length (with_news c.args.delay at (tap_of x) trace c.args.from c.args.to).marks =
    omega (arith, c.overflows.ensures.full c.if-overflows.true, length-append x.marks more) in
    sym (c.loop-position.invariant
    ∙ ap (step.first_full at) (from-position tap_of c.args.delay trace c.args.from c.args.to c.args.taps.now at x c.loop-position-test.true c.index-taps-position.is)
    ∙ full-here at (with_news c.args.delay at (tap_of x) trace c.args.from c.args.to)
    (told c.args.delay trace c.args.from c.args.to (at + 1) (map tap_of (drop (at + 1) c.args.taps.now))) full)

pub loop-position-preserved : goal.loop-position-preserved
loop-position-preserved c =
    let trace = map entry_of c.args.entries.now in
    let at = c.loop-position.position in
    let x = c.index-taps-position.result in
    let more = new_marks c.args.delay at (tap_of x) trace c.args.from c.args.to in
    let fits : length (with_news c.args.delay at (tap_of x) trace c.args.from c.args.to).marks ≤ mark_limit =
    omega (arith, c.overflows.ensures.fits c.if-overflows.false, length-append x.marks more) in
    c.loop-position.invariant
    ∙ ap (step.first_full at) (from-position tap_of c.args.delay trace c.args.from c.args.to c.args.taps.now at x c.loop-position-test.true c.index-taps-position.is)
    ∙ full-later at (with_news c.args.delay at (tap_of x) trace c.args.from c.args.to)
    (told c.args.delay trace c.args.from c.args.to (at + 1) (map tap_of (drop (at + 1) c.args.taps.now))) fits

-- where nothing is recent nobody is told anything
pub returns-then-is_empty : goal.returns-then-is_empty
returns-then-is_empty c =
    let taps = map tap_of c.args.taps.now in
    let none : c.args.entries.now ≡ [] = nil_from_length c.args.entries.now (search (rules, arith)) in
    sym (
    ap (λ (es : List Entry). step.first_full 0 (told c.args.delay (map entry_of es) c.args.from c.args.to 0 taps)) none
    ∙ ap (step.first_full 0) (nobody-told c.args.delay c.args.from c.args.to 0 taps)
    ∙ c.inboxes_hold_few.ensures
    )
