use Rattle.std.proofs.Common.{◌∙◌, ◌≤◌, ◌-◌, ◌+◌, ◌++◌, ℕ, List, ap, sym, subst, arith, map}
use Rattle.std.specs.Prelude.{drop, take}
use Rattle.std.specs.Option.{option_map}
use Rattle.pb_timers.specs.Timers.{Params}
use Rattle.std.proofs.lemmas.List.{drop-map, length-drop, length-map}
use Rattle.std.proofs.Math.Seq.{take-length}
use Rattle.law_model.specs.Trace.{Entry, entry_begin}
use Rattle.law_runs.specs.Judging.{StandsFrom}
use Rattle.pb_medium.specs.Entries.{entry_of}
use Rattle.pb_taps.proofs.Items.{item-at}
use Rattle.pb_world.specs.Traces.{lent_record}
use Rattle.pb_export.specs.Gone.{AreGone, AreGoneAround}
use Rattle.pb_export.specs.Holders.{parts_after, parts_before}
use Rattle.pb_export.proofs.Around.{GoneBefore, after_around, before_around, begin_of, first_of, gone_next, gone_step, part_of, stands_step, taken_length, text_end, text_step}
use Rattle.pb_export.proofs.holders.parts_of.Goals as goal

pub first_around-first-requires-clause-over : goal.first_around-first-requires-clause-over
first_around-first-requires-clause-over c =
    let entries = c.args.entries.now in
    let i = c.loop-place.place in
    let first = c.loop-place.first in
    let e = c.index-entries-place.result in
    let inv = c.loop-place.invariant in
    let last = option_map lent_record c.loop-place.last in
    let ttd = c.args.scenario.now.scenario.params.ttd in
    let here = item-at entry_of entries i e (omega (arith, c.loop-place-test.true)) c.index-entries-place.is in
    let delay = c.ttd.ensures ∙ ap (λ (p : Params). p.ttd) c.params.ensures in
    subst (λ (d : ℕ). AreGone d (entry_begin (entry_of e)) (take first (map entry_of (take i entries)))) (sym delay)
    (subst (AreGone ttd (entry_begin (entry_of e))) (sym (first_of first i entries inv.1))
    (gone_next ttd last i (map entry_of entries) (take first (map entry_of entries)) (entry_of e) inv.3 inv.2 here))

pub loop-place-preserved : goal.loop-place-preserved
loop-place-preserved c =
    let entries = c.args.entries.now in
    let es = map entry_of entries in
    let i = c.loop-place.place in
    let first = c.loop-place.first in
    let then = c.first_around-first.result in
    let e = c.index-entries-place.result in
    let inv = c.loop-place.invariant in
    let s = c.args.scenario.now in
    let last = option_map lent_record c.loop-place.last in
    let ttd = s.scenario.params.ttd in
    let around = take (i - first) (drop first es) in
    let here = item-at entry_of entries i e (omega (arith, c.loop-place-test.true)) c.index-entries-place.is in
    let delay = c.ttd.ensures ∙ ap (λ (p : Params). p.ttd) c.params.ensures in
    let short = taken_length i entries in
    let bound = c.first_around-first.ensures.bound in
    let under : then ≤ i = omega (arith, short, bound) in
    let over : AreGoneAround ttd (entry_of e) (take first es) (take then es) =
    subst (λ (z : List Entry). AreGoneAround ttd (entry_of e) (take first es) z) (first_of then i entries under)
    (subst (λ (z : List Entry). AreGoneAround ttd (entry_of e) z (take then (map entry_of (take i entries)))) (first_of first i entries inv.1)
    (subst (λ (d : ℕ). AreGoneAround d (entry_of e) (take first (map entry_of (take i entries))) (take then (map entry_of (take i entries)))) delay c.first_around-first.ensures.over)) in (
      text_step s es around last (option_map lent_record c.later-last.result) c.args.until i (entry_of e) c.loop-place.parts.items c.push_before.new.parts.items _ here c.later-last.ensures
          (c.in_ok-push_before.ensures ∙ ap (λ (z : List Entry). c.loop-place.parts.items ++ parts_before s z last c.args.until (entry_of e)) (part_of (i - first) first entries))
          (before_around s last c.args.until (begin_of last) first i es (entry_of e) inv.1 inv.3 inv.2 here) inv.0,
      omega (arith, under),
      subst (λ o. StandsFrom (begin_of o) (drop (i + 1) es)) (sym c.later-last.ensures) (stands_step last i es (entry_of e) inv.2 here),
      subst (λ o. GoneBefore ttd o (take then es)) (sym c.later-last.ensures) (gone_step ttd last (entry_of e) (take first es) (take then es) inv.3 over),
    )

pub returns : goal.returns
returns c =
    let entries = c.args.entries.now in
    let es = map entry_of entries in
    let first = c.loop-place.first in
    let inv = c.loop-place.invariant in
    let s = c.args.scenario.now in
    let last = option_map lent_record c.loop-place.last in
    text_end s es (drop first es) last c.args.until c.loop-place.place c.loop-place.parts.items c.push_after.new.parts.items _
    (subst (λ (n : ℕ). n ≤ c.loop-place.place) (sym (length-map entries entry_of)) (omega (arith, c.loop-place-test.false)))
    (c.in_ok-push_after.ensures ∙ ap (λ (z : List Entry). c.loop-place.parts.items ++ parts_after s z last c.args.until)
    (ap (map entry_of) (ap (λ (n : ℕ). take n (drop first entries)) (sym (length-drop first entries)) ∙ take-length (drop first entries)) ∙ sym (drop-map entry_of first entries)))
    (after_around s last c.args.until first es inv.3) inv.0
