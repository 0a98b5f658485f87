use Rattle.std.proofs.Common.{refl, sym, ap, ◌∙◌, arith, ◌++◌, List, length, map}
use Rattle.std.specs.Prelude.{take, []}
use Rattle.std.proofs.lemmas.List.{append-nil}
use Rattle.law_turn.specs.Marks.{Mark}
use Rattle.law_turn.specs.Turns.{after_marks}
use Rattle.pb_tokenfsm.specs.Phases.{phase_of}
use Rattle.pb_transitions.specs.Cores.{station_with}
use Rattle.pb_station.specs.Indications.{fields_of, indications_of}
use Rattle.pb_station.specs.declared.indications.Indication.{Indication}
use Rattle.pb_station.specs.Notes.{chars_of, octets_of, mark_with, marks_in}
use Rattle.pb_station.proofs.Noted.{next-at, marks-at, of-at, over-at, read-note, none-left, same-moment}
use Rattle.pb_station.proofs.Indicated.{tell-note}
use Rattle.pb_station.proofs.reading.after_notes_into.Goals as goal

pub loop-note-init : goal.loop-note-init
loop-note-init c = record {
  same = λ queue. refl;
  over = c.requires.over;
  of = c.requires.of;
  told = λ queue. ap (λ (xs : List Indication). map fields_of xs ++ indications_of c.args.params.now (station_with c.args.kept.now queue (phase_of c.args.phase.now))
      (marks_in c.args.unread.now.notes.now c.args.unread.now.chars.now c.args.unread.now.octets.now)) c.clear.ensures.items;
  few = omega (arith, ap length c.clear.ensures.items);
  room = c.clear.ensures.capacity;
}

pub after_note-behind-requires-clause-moment : goal.after_note-behind-requires-clause-moment
after_note-behind-requires-clause-moment c =
    let n = c.note-item.result in
    let chars = c.loop-note.left.chars.now in
    let octets = c.loop-note.left.octets.now in
    let here = next-at c.args.unread.now.notes.now c.loop-note.note-index n c.loop-note-test.true c.note-item.is in
    let split = marks-at _ _ n chars _ _ octets _ _ here refl refl refl refl in
    let over = over-at c.args.now _ _ _ split c.loop-note.invariant.over in
    omega (arith, over.0, c.requires.clock, same-moment n [] (take (chars_of n) chars) [] (take (octets_of n) octets))

pub after_note-behind-requires-clause-chars : goal.after_note-behind-requires-clause-chars
after_note-behind-requires-clause-chars c =
    let n = c.note-item.result in
    let here = next-at c.args.unread.now.notes.now c.loop-note.note-index n c.loop-note-test.true c.note-item.is in
    (of-at _ _ n c.loop-note.left.chars.now _ c.loop-note.left.octets.now _ here refl refl c.loop-note.invariant.of).0

pub after_note-behind-requires-clause-octets : goal.after_note-behind-requires-clause-octets
after_note-behind-requires-clause-octets c =
    let n = c.note-item.result in
    let here = next-at c.args.unread.now.notes.now c.loop-note.note-index n c.loop-note-test.true c.note-item.is in
    (of-at _ _ n c.loop-note.left.chars.now _ c.loop-note.left.octets.now _ here refl refl c.loop-note.invariant.of).2

pub tell_into-requires-clause-room : goal.tell_into-requires-clause-room
tell_into-requires-clause-room c = omega (arith, c.loop-note.invariant.few, c.loop-note.invariant.room, c.loop-note-test.true, c.requires.few)

pub tell_into-requires-clause-chars : goal.tell_into-requires-clause-chars
tell_into-requires-clause-chars c =
    let n = c.note-item.result in
    let here = next-at c.args.unread.now.notes.now c.loop-note.note-index n c.loop-note-test.true c.note-item.is in
    (of-at _ _ n c.loop-note.left.chars.now _ c.loop-note.left.octets.now _ here refl refl c.loop-note.invariant.of).0

pub tell_into-requires-clause-octets : goal.tell_into-requires-clause-octets
tell_into-requires-clause-octets c =
    let n = c.note-item.result in
    let here = next-at c.args.unread.now.notes.now c.loop-note.note-index n c.loop-note-test.true c.note-item.is in
    (of-at _ _ n c.loop-note.left.chars.now _ c.loop-note.left.octets.now _ here refl refl c.loop-note.invariant.of).2

pub loop-note-preserved : goal.loop-note-preserved
loop-note-preserved c =
    let u = c.args.unread.now in
    let n = c.note-item.result in
    let chars = c.loop-note.left.chars.now in
    let octets = c.loop-note.left.octets.now in
    let behind = c.after_note-behind.ensures.chars in
    let after = c.after_note-behind.ensures.octets in
    let here = next-at u.notes.now c.loop-note.note-index n c.loop-note-test.true c.note-item.is in
    let split = marks-at _ _ n chars _ _ octets _ _ here refl behind refl after in
    let m = mark_with n (take (chars_of n) chars) (take (octets_of n) octets) in
    let moment = c.moment.ensures ∙ same-moment n _ (take (chars_of n) chars) _ (take (octets_of n) octets) in
    record {
      same = λ queue. read-note c.args.params.now (station_with c.args.kept.now queue (phase_of c.args.phase.now))
          (station_with c.loop-note.kept queue (phase_of c.loop-note.phase)) (station_with c.after_timer.new.kept queue (phase_of c.after_timer.new.phase))
          (station_with c.after_note-behind.new.kept queue (phase_of c.after_note-behind.new.phase))
          (marks_in u.notes.now u.chars.now u.octets.now) _ _ m
          c.moment.result (c.loop-note.invariant.same queue) split
          moment (c.after_timer.ensures queue)
          (c.after_note-behind.ensures.read queue);
      over = (over-at c.args.now _ _ _ split c.loop-note.invariant.over).1;
      of = (of-at _ _ n chars _ octets _ here behind after c.loop-note.invariant.of).4;
      told = λ queue. tell-note c.args.params.now
          (station_with c.loop-note.kept queue (phase_of c.loop-note.phase)) (station_with c.after_timer.new.kept queue (phase_of c.after_timer.new.phase))
          (station_with c.after_note-behind.new.kept queue (phase_of c.after_note-behind.new.phase))
          (map fields_of c.loop-note.told.items) (map fields_of c.tell_into.new.told.items) _ _ _ m c.moment.result c.executed-before.result c.executed-after.result
          (c.loop-note.invariant.told queue) split moment (c.after_timer.ensures queue) (c.after_note-behind.ensures.read queue)
          c.executed-before.ensures.value c.executed-after.ensures.value c.tell_into.ensures.told;
      few = omega (arith, c.loop-note.invariant.few, c.tell_into.ensures.few);
      room = c.tell_into.ensures.room ∙ c.loop-note.invariant.room;
    }

pub returns-clause-read : goal.returns-clause-read
returns-clause-read c queue =
    let s = station_with c.loop-note.kept queue (phase_of c.loop-note.phase) in
    sym
    (ap (after_marks c.args.params.now s)
    (none-left c.args.unread.now.notes.now c.loop-note.note-index c.loop-note.left.chars.now c.loop-note.left.octets.now c.loop-note-test.false))
    ∙ c.loop-note.invariant.same queue

pub returns-clause-told : goal.returns-clause-told
returns-clause-told c queue =
    let s = station_with c.loop-note.kept queue (phase_of c.loop-note.phase) in
    let none = none-left c.args.unread.now.notes.now c.loop-note.note-index c.loop-note.left.chars.now c.loop-note.left.octets.now c.loop-note-test.false in
    let told = map fields_of c.loop-note.told.items in
    sym (ap (λ (ms : List Mark). told ++ indications_of c.args.params.now s ms) none ∙ append-nil told)
    ∙ c.loop-note.invariant.told queue
