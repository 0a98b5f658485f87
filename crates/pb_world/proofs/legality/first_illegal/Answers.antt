-- The pass stops at the first entry that may not come, or goes on behind it.
use Rattle.std.proofs.Common.{◌∙◌, ap, sym, subst, refl, arith, map, drop, take, ◌+◌}
use Rattle.std.specs.Option.{option_map}
use Rattle.std.proofs.lemmas.List.{take-map}
use Rattle.law_model.specs.Trace.{entry_begin}
use Rattle.law_runs.specs.Judging.{last_after, may_come, judged_from, IsOrderedFrom}
use Rattle.law_runs.proofs.Judged.{judged}
use Rattle.pb_medium.specs.Entries.{entry_of}
use Rattle.pb_world.specs.LatestEnds.{AreEnds}
use Rattle.pb_world.specs.Judging.{last_of, specs_in}
use Rattle.pb_taps.proofs.Items.{left-at, passed-at}
use Rattle.pb_world.proofs.Legal.{stops-here, goes-on, nothing-left, ends-behind}
use Rattle.pb_world.proofs.legality.first_illegal.Goals as goal

pub loop-place-init : goal.loop-place-init
loop-place-init c = record { judged = refl; ends = (0, c.none-ends.ensures c.args.params.now.ttd 0, c.requires) }

pub advance-requires : goal.advance-requires
advance-requires c =
    let es = map entry_of c.args.trace.now in
    let place = c.loop-place.place in
    let x = c.index-trace-place.result in
    let inv = c.loop-place.invariant.ends in
    let left = left-at entry_of c.args.trace.now place x c.loop-place-test.true c.index-trace-place.is in
    let ordered = subst (IsOrderedFrom inv.0) left inv.2 in (
      inv.0,
      omega (arith, ordered.0, c.begin.ensures),
      subst (λ d. AreEnds d inv.0 (map entry_of (take place c.args.trace.now)) c.loop-place.ends) (sym c.ttd.ensures)
          (subst (λ xs. AreEnds c.args.params.now.ttd inv.0 xs c.loop-place.ends) (take-map entry_of place c.args.trace.now) inv.1),
    )

pub returns-then-not-may_come : goal.returns-then-not-may_come
returns-then-not-may_come c =
    let p = c.args.params.now in
    let specs = specs_in c.args.taps in
    let es = map entry_of c.args.trace.now in
    let place = c.loop-place.place in
    let x = c.index-trace-place.result in
    let last = option_map last_of c.loop-place.last in
    let front = take-map entry_of place c.args.trace.now in
    sym (stops-here p specs (take place es) last place (entry_of x) (drop (place + 1) es)
    (ap (λ xs. may_come p specs xs last (entry_of x)) front ∙ sym c.may_come.ensures ∙ c.if-not-may_come.true))
    ∙ sym (ap (judged_from p specs (take place es) last place) (left-at entry_of c.args.trace.now place x c.loop-place-test.true c.index-trace-place.is))
    ∙ sym c.loop-place.invariant.judged ∙ judged p specs es c.requires

pub last_after-last-requires-clause-lasts : goal.last_after-last-requires-clause-lasts
last_after-last-requires-clause-lasts c =
    let inv = c.loop-place.invariant.ends in
    let left = left-at entry_of c.args.trace.now c.loop-place.place c.index-trace-place.result c.loop-place-test.true c.index-trace-place.is in
    let ordered = subst (IsOrderedFrom inv.0) left inv.2 in
    omega (arith, ordered.1)

pub loop-place-preserved : goal.loop-place-preserved
loop-place-preserved c =
    let p = c.args.params.now in
    let specs = specs_in c.args.taps in
    let es = map entry_of c.args.trace.now in
    let place = c.loop-place.place in
    let x = c.index-trace-place.result in
    let last = option_map last_of c.loop-place.last in
    let rest = drop (place + 1) es in
    let front = take-map entry_of place c.args.trace.now in
    let inv = c.loop-place.invariant.ends in
    let left = left-at entry_of c.args.trace.now place x c.loop-place-test.true c.index-trace-place.is in
    let passed = passed-at entry_of c.args.trace.now place x c.loop-place-test.true c.index-trace-place.is in
    let ordered = subst (IsOrderedFrom inv.0) left inv.2 in
    let begin = entry_begin (entry_of x) in
    let advanced : AreEnds p.ttd begin (take place es) c.advance.new.self =
    subst (λ xs. AreEnds p.ttd begin xs c.advance.new.self) (sym front)
    (subst (λ d. AreEnds d begin (map entry_of (take place c.args.trace.now)) c.advance.new.self) c.ttd.ensures
    (subst (λ m. AreEnds c.ttd.result m (map entry_of (take place c.args.trace.now)) c.advance.new.self) c.begin.ensures c.advance.ensures)) in
    record {
      judged = c.loop-place.invariant.judged
          ∙ ap (judged_from p specs (take place es) last place) left
          ∙ goes-on p specs (take place es) last place (entry_of x) rest (ap (λ xs. may_come p specs xs last (entry_of x)) front ∙ sym c.may_come.ensures ∙ c.if-not-may_come.false)
          ∙ ap (λ xs. judged_from p specs xs (last_after p.ttd p.tsl (take place es) last (entry_of x)) (place + 1) rest) (sym passed)
          ∙ ap (λ xs. judged_from p specs (take (place + 1) es) (last_after p.ttd p.tsl xs last (entry_of x)) (place + 1) rest) front
          ∙ ap (λ l. judged_from p specs (take (place + 1) es) l (place + 1) rest) (sym c.last_after-last.ensures);
      ends = (begin, subst (λ xs. AreEnds p.ttd begin xs c.advance.new.self) (sym passed) (ends-behind p.ttd begin (take place es) (entry_of x) c.advance.new.self advanced), ordered.2);
    }

pub returns : goal.returns
returns c =
    let p = c.args.params.now in
    let specs = specs_in c.args.taps in
    let es = map entry_of c.args.trace.now in
    let place = c.loop-place.place in
    sym (ap (judged_from p specs (take place es) (option_map last_of c.loop-place.last) place) (nothing-left entry_of c.args.trace.now place c.loop-place-test.false))
    ∙ sym c.loop-place.invariant.judged ∙ judged p specs es c.requires
