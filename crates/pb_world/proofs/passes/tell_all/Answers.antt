-- The taps are told one after another.
use Rattle.std.proofs.Common.{List, ◌≤◌, ◌+◌, ◌++◌, ◌∙◌, ap, sym, subst, map, length, get_or, arith}
use Rattle.law_turn.specs.Marks.{Mark}
use Rattle.law_model.specs.World.{mark_limit}
use Rattle.pb_medium.specs.Entries.{entry_of}
use Rattle.pb_taps.specs.Taps.{tap_of}
use Rattle.pb_world.proofs.Passing.{room-at, told-more, told-all}
use Rattle.pb_world.proofs.passes.tell_all.Goals as goal

pub tell_of-requires-clause-room : goal.tell_of-requires-clause-room
tell_of-requires-clause-room c =
    let lone = c.in-Some.ensures in
    let at = c.loop-position.position in
    let t = tap_of (get_or c.loop-position.taps at c.index-taps-position.result) in
    subst (λ (news : List Mark). length t.marks + length news ≤ mark_limit) (lone.marks at t c.args.from c.args.to)
    (room-at c.args.delay (map entry_of c.args.entries.now) c.args.from c.args.to c.args.taps.now c.loop-position.taps at
    c.index-taps-position.result c.loop-position.invariant c.requires c.loop-position-test.true)

pub loop-position-preserved : goal.loop-position-preserved
loop-position-preserved c =
    let lone = c.in-Some.ensures in
    let at = c.loop-position.position in
    let t = tap_of (get_or c.loop-position.taps at c.index-taps-position.result) in
    told-more c.args.delay (map entry_of c.args.entries.now) c.args.from c.args.to c.args.taps.now c.loop-position.taps at
    c.index-taps-position.result c.tell_of.new.tap c.loop-position.invariant c.loop-position-test.true
    (c.tell_of.ensures.told ∙ ap (λ (news : List Mark). record t { marks = t.marks ++ news }) (sym (lone.marks at t c.args.from c.args.to))) c.tell_of.ensures.seat

pub returns-in-Some-clause-told : goal.returns-in-Some-clause-told
returns-in-Some-clause-told c =
    told-all c.args.delay (map entry_of c.args.entries.now) c.args.from c.args.to c.args.taps.now c.loop-position.taps c.loop-position.position c.loop-position.invariant (omega arith)

pub tell-requires : goal.tell-requires
tell-requires c =
    room-at c.args.delay (map entry_of c.args.entries.now) c.args.from c.args.to c.args.taps.now c.loop-position-2.taps c.loop-position-2.position
    c.index-taps-position-in-loop-position-2.result c.loop-position-2.invariant c.requires c.loop-position-2-test.true

pub loop-position-2-preserved : goal.loop-position-2-preserved
loop-position-2-preserved c =
    told-more c.args.delay (map entry_of c.args.entries.now) c.args.from c.args.to c.args.taps.now c.loop-position-2.taps c.loop-position-2.position
    c.index-taps-position-in-loop-position-2.result c.tell.new.tap c.loop-position-2.invariant c.loop-position-2-test.true c.tell.ensures.told c.tell.ensures.seat

pub returns-clause-told : goal.returns-clause-told
returns-clause-told c =
    told-all c.args.delay (map entry_of c.args.entries.now) c.args.from c.args.to c.args.taps.now c.loop-position-2.taps c.loop-position-2.position c.loop-position-2.invariant (omega arith)
