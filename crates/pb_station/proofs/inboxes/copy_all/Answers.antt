use Rattle.std.proofs.Common.{refl, sym, ap, ◌∙◌, ◌++◌, ◌∷◌, [], ◌+◌, List, length, map, arith, append_assoc, length-take-le}
use Rattle.std.specs.Prelude.{drop}
use Rattle.std.proofs.lemmas.List.{append-nil}
use Rattle.law_turn.specs.Marks.{Mark}
use Rattle.pb_station.specs.MarkViews.{mark_of}
use Rattle.pb_station.specs.Notes.{chars_of, octets_of, mark_with, marks_in}
use Rattle.pb_station.proofs.Noted.{next-at, marks-at, of-at, none-left}
use Rattle.pb_station.proofs.inboxes.copy_all.Goals as goal

pub loop-note-init : goal.loop-note-init
loop-note-init c = record {
  same = ap (λ (ms : List _). map mark_of ms ++ marks_in c.args.notes.now c.args.chars.now c.args.octets.now) c.in_ok-copies.ensures.items;
  of = c.requires;
  copied = ap length c.in_ok-copies.ensures.items;
  room = omega (arith, c.in_ok-copies.ensures.capacity);
}

pub split_chars-requires : goal.split_chars-requires
split_chars-requires c =
    let n = c.note-item.result in
    let left = c.loop-note.left.now in
    let good_left = c.loop-note.good_left.now in
    let here = next-at c.args.notes.now c.loop-note.note-index n c.loop-note-test.true c.note-item.is in
    let first = of-at _ _ n left (drop (chars_of n) left) good_left (drop (octets_of n) good_left) here refl refl c.loop-note.invariant.of in
    first.0

pub split_octets-requires : goal.split_octets-requires
split_octets-requires c =
    let n = c.note-item.result in
    let left = c.loop-note.left.now in
    let good_left = c.loop-note.good_left.now in
    let here = next-at c.args.notes.now c.loop-note.note-index n c.loop-note-test.true c.note-item.is in
    let first = of-at _ _ n left (drop (chars_of n) left) good_left (drop (octets_of n) good_left) here refl refl c.loop-note.invariant.of in
    first.2

pub push_copy-requires-clause-chars : goal.push_copy-requires-clause-chars
push_copy-requires-clause-chars c =
    let n = c.note-item.result in
    let left = c.loop-note.left.now in
    let good_left = c.loop-note.good_left.now in
    let here = next-at c.args.notes.now c.loop-note.note-index n c.loop-note-test.true c.note-item.is in
    let first = of-at _ _ n left (drop (chars_of n) left) good_left (drop (octets_of n) good_left) here refl refl c.loop-note.invariant.of in
    omega (arith, first.1, ap length c.split_chars.ensures.brought, length-take-le (chars_of n) left first.0)

pub push_copy-requires-clause-octets : goal.push_copy-requires-clause-octets
push_copy-requires-clause-octets c =
    let n = c.note-item.result in
    let left = c.loop-note.left.now in
    let good_left = c.loop-note.good_left.now in
    let here = next-at c.args.notes.now c.loop-note.note-index n c.loop-note-test.true c.note-item.is in
    let first = of-at _ _ n left (drop (chars_of n) left) good_left (drop (octets_of n) good_left) here refl refl c.loop-note.invariant.of in
    omega (arith, first.3, ap length c.split_octets.ensures.brought, length-take-le (octets_of n) good_left first.2)

pub push_copy-requires-clause-room : goal.push_copy-requires-clause-room
push_copy-requires-clause-room c = omega (arith, c.loop-note.invariant.copied, c.loop-note-test.true, c.loop-note.invariant.room)

pub loop-note-preserved : goal.loop-note-preserved
loop-note-preserved c =
    let n = c.note-item.result in
    let left = c.loop-note.left.now in
    let good_left = c.loop-note.good_left.now in
    let here = next-at c.args.notes.now c.loop-note.note-index n c.loop-note-test.true c.note-item.is in
    let brought = c.split_chars.result.0.now in
    let behind = c.split_chars.result.1.now in
    let good = c.split_octets.result.0.now in
    let after = c.split_octets.result.1.now in
    let split = marks-at _ _ n left brought behind good_left good after here c.split_chars.ensures.brought c.split_chars.ensures.behind
    c.split_octets.ensures.brought c.split_octets.ensures.behind in
    let marks = map mark_of c.loop-note.copies.items in
    let rest = marks_in (drop (c.loop-note.note-index + 1) c.args.notes.now) behind after in
    record {
      same = ap (λ (ms : List Mark). ms ++ rest) c.push_copy.ensures.items
          ∙ append_assoc marks (mark_with n brought good ∷ []) rest
          ∙ ap (λ (ms : List Mark). marks ++ ms) (sym split)
          ∙ c.loop-note.invariant.same;
      of = (of-at _ _ n left behind good_left after here c.split_chars.ensures.behind c.split_octets.ensures.behind c.loop-note.invariant.of).4;
      copied = omega (arith, c.loop-note.invariant.copied, c.push_copy.ensures.count);
      room = omega (arith, c.push_copy.ensures.room, c.loop-note.invariant.room);
    }

pub returns : goal.returns
returns c =
    let marks = map mark_of c.loop-note.copies.items in
    sym (append-nil marks)
    ∙ ap (λ (ms : List Mark). marks ++ ms)
    (sym (none-left c.args.notes.now c.loop-note.note-index c.loop-note.left.now c.loop-note.good_left.now c.loop-note-test.false))
    ∙ c.loop-note.invariant.same
