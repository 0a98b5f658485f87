use Rattle.std.proofs.Common.{rules, refl, sym, ap, ◌∙◌, ◌≡◌, ◌+◌, ◌∷◌, List, length, map, arith}
use Rattle.std.specs.Prelude.{drop}
use Rattle.std.proofs.lemmas.List.{length-map, drop_all}
use Rattle.law_turn.specs.Marks.{Mark}
use Rattle.pb_station.specs.MarkViews.{mark_of}
use Rattle.pb_station.specs.Notes.{chars_of, octets_of, mark_with}
use Rattle.pb_station.proofs.Noted.{as-many, next-at, marks-at, of-at, none-left, heads, tails}
use Rattle.pb_station.proofs.inboxes.are_noted.Goals as goal

pub returns-then-notes-marks : goal.returns-then-notes-marks
returns-then-notes-marks c = (
  λ h. absurd cc,
  λ e. absurd (c.if-notes-marks.true (sym (as-many c.args.notes.now c.args.chars.now c.args.octets.now) ∙ sym (ap length e) ∙ length-map c.args.marks.now mark_of)),
)

pub loop-place-init : goal.loop-place-init
loop-place-init c = record {
  all = λ e. e;
  left = λ e. e;
  of = c.requires;
  long = c.if-notes-marks.false;
}

pub split_chars-requires : goal.split_chars-requires
split_chars-requires c =
    let n = c.index-notes-place.result in
    let left = c.loop-place.left.now in
    let good_left = c.loop-place.good_left.now in
    let here = next-at c.args.notes.now c.loop-place.place n c.loop-place-test.true c.index-notes-place.is in
    let first = of-at _ _ n left (drop (chars_of n) left) good_left (drop (octets_of n) good_left) here refl refl c.loop-place.invariant.of in
    first.0

pub split_octets-requires : goal.split_octets-requires
split_octets-requires c =
    let n = c.index-notes-place.result in
    let left = c.loop-place.left.now in
    let good_left = c.loop-place.good_left.now in
    let here = next-at c.args.notes.now c.loop-place.place n c.loop-place-test.true c.index-notes-place.is in
    let first = of-at _ _ n left (drop (chars_of n) left) good_left (drop (octets_of n) good_left) here refl refl c.loop-place.invariant.of in
    first.2

pub loop-place-preserved : goal.loop-place-preserved
loop-place-preserved c =
    let n = c.index-notes-place.result in
    let left = c.loop-place.left.now in
    let good_left = c.loop-place.good_left.now in
    let here = next-at c.args.notes.now c.loop-place.place n c.loop-place-test.true c.index-notes-place.is in
    let m = c.index-marks-place.result in
    let brought = c.split_chars.result.0.now in
    let behind = c.split_chars.result.1.now in
    let good = c.split_octets.result.0.now in
    let after = c.split_octets.result.1.now in
    let split = marks-at _ _ n left brought behind good_left good after here c.split_chars.ensures.brought c.split_chars.ensures.behind
    c.split_octets.ensures.brought c.split_octets.ensures.behind in
    let mark = ap (map mark_of) (next-at c.args.marks.now c.loop-place.place m (omega (arith, c.loop-place-test.true, c.loop-place.invariant.long)) c.index-marks-place.is) in
    let same : mark_of m ≡ mark_with n brought good = search rules in
    let others = map mark_of (drop (c.loop-place.place + 1) c.args.marks.now) in
    record {
      all = λ e. c.loop-place.invariant.all
          (mark ∙ ap (λ (x : Mark). x ∷ others) same ∙ ap (λ (xs : List Mark). mark_with n brought good ∷ xs) e ∙ sym split);
      left = λ e. tails (sym mark ∙ c.loop-place.invariant.left e ∙ split);
      of = (of-at _ _ n left behind good_left after here c.split_chars.ensures.behind c.split_octets.ensures.behind c.loop-place.invariant.of).4;
      long = c.loop-place.invariant.long;
    }

pub returns-then-not-is_noted : goal.returns-then-not-is_noted
returns-then-not-is_noted c =
    let n = c.index-notes-place.result in
    let left = c.loop-place.left.now in
    let good_left = c.loop-place.good_left.now in
    let here = next-at c.args.notes.now c.loop-place.place n c.loop-place-test.true c.index-notes-place.is in
    let m = c.index-marks-place.result in
    let brought = c.split_chars.result.0.now in
    let behind = c.split_chars.result.1.now in
    let good = c.split_octets.result.0.now in
    let after = c.split_octets.result.1.now in
    let split = marks-at _ _ n left brought behind good_left good after here c.split_chars.ensures.brought c.split_chars.ensures.behind
    c.split_octets.ensures.brought c.split_octets.ensures.behind in
    let mark = ap (map mark_of) (next-at c.args.marks.now c.loop-place.place m (omega (arith, c.loop-place-test.true, c.loop-place.invariant.long)) c.index-marks-place.is) in
    (λ h. absurd cc, λ e. c.if-not-is_noted.ensures.1 (heads (sym mark ∙ c.loop-place.invariant.left e ∙ split)))

pub returns : goal.returns
returns c =
    let over = c.loop-place-test.false in
    let none = ap (map mark_of) (drop_all c.loop-place.place c.args.marks.now (omega (arith, over, c.loop-place.invariant.long))) in
    (λ h. c.loop-place.invariant.all (none ∙ sym (none-left c.args.notes.now c.loop-place.place c.loop-place.left.now c.loop-place.good_left.now over)), λ e. search rules)
