-- The pass goes on behind each entry, with the ends of all before the next.
use Rattle.std.proofs.Common.{sym, subst, arith, map, take}
use Rattle.std.proofs.lemmas.List.{take-map}
use Rattle.law_model.specs.Trace.{entry_begin}
use Rattle.law_runs.specs.Judging.{IsOrderedFrom}
use Rattle.pb_medium.specs.Entries.{entry_of}
use Rattle.pb_world.specs.LatestEnds.{AreEnds}
use Rattle.pb_taps.proofs.Items.{left-at, passed-at}
use Rattle.pb_world.proofs.Legal.{ends-behind}
use Rattle.pb_world.proofs.rules.illegal_at.Goals as goal

pub loop-place-init : goal.loop-place-init
loop-place-init c = (0, c.none-ends.ensures c.args.params.now.ttd 0, c.requires)

pub advance-requires : goal.advance-requires
advance-requires c =
    let place = c.loop-place.place in
    let x = c.index-trace-place.result in
    let inv = c.loop-place.invariant in
    let left = left-at entry_of c.args.trace.now place x c.loop-place-test.true c.index-trace-place.is in
    let ordered = subst (IsOrderedFrom inv.0) left inv.2 in (
      inv.0,
      omega (arith, ordered.0, c.begin.ensures),
      subst (λ d. AreEnds d inv.0 (map entry_of (take place c.args.trace.now)) c.loop-place.ends) (sym c.ttd.ensures)
          (subst (λ xs. AreEnds c.args.params.now.ttd inv.0 xs c.loop-place.ends) (take-map entry_of place c.args.trace.now) inv.1),
    )

pub last_after-last-requires-clause-lasts : goal.last_after-last-requires-clause-lasts
last_after-last-requires-clause-lasts c =
    let inv = c.loop-place.invariant in
    let left = left-at entry_of c.args.trace.now c.loop-place.place c.index-trace-place.result c.loop-place-test.true c.index-trace-place.is in
    let ordered = subst (IsOrderedFrom inv.0) left inv.2 in
    omega (arith, ordered.1)

pub loop-place-preserved : goal.loop-place-preserved
loop-place-preserved c =
    let p = c.args.params.now in
    let es = map entry_of c.args.trace.now in
    let place = c.loop-place.place in
    let x = c.index-trace-place.result in
    let front = take-map entry_of place c.args.trace.now in
    let inv = c.loop-place.invariant in
    let left = left-at entry_of c.args.trace.now place x c.loop-place-test.true c.index-trace-place.is in
    let passed = passed-at entry_of c.args.trace.now place x c.loop-place-test.true c.index-trace-place.is in
    let ordered = subst (IsOrderedFrom inv.0) left inv.2 in
    let begin = entry_begin (entry_of x) in
    let advanced : AreEnds p.ttd begin (take place es) c.advance.new.self =
    subst (λ xs. AreEnds p.ttd begin xs c.advance.new.self) (sym front)
    (subst (λ d. AreEnds d begin (map entry_of (take place c.args.trace.now)) c.advance.new.self) c.ttd.ensures
    (subst (λ m. AreEnds c.ttd.result m (map entry_of (take place c.args.trace.now)) c.advance.new.self) c.begin.ensures c.advance.ensures)) in
    (begin, subst (λ xs. AreEnds p.ttd begin xs c.advance.new.self) (sym passed) (ends-behind p.ttd begin (take place es) (entry_of x) c.advance.new.self advanced), ordered.2)
