use Rattle.std.proofs.Common.{refl, sym, ap, ◌∙◌, arith}
use Rattle.std.specs.Prelude.{take, []}
use Rattle.law_turn.specs.Turns.{after_marks}
use Rattle.pb_tokenfsm.specs.Phases.{phase_of}
use Rattle.pb_transitions.specs.Cores.{station_with}
use Rattle.pb_station.specs.Notes.{chars_of, octets_of, mark_with, marks_in}
use Rattle.pb_station.proofs.Noted.{next-at, marks-at, of-at, over-at, read-note, none-left, same-moment}
use Rattle.pb_station.proofs.reading.after_notes.Goals as goal

pub loop-note-init : goal.loop-note-init
loop-note-init c = record {
  same = λ queue. refl;
  over = c.requires.over;
  of = c.requires.of;
}

pub after_note-left-requires-clause-moment : goal.after_note-left-requires-clause-moment
after_note-left-requires-clause-moment c =
    let n = c.note-item.result in
    let chars = c.loop-note.left.chars.now in
    let octets = c.loop-note.left.octets.now in
    let here = next-at c.args.notes.now c.loop-note.note-index n c.loop-note-test.true c.note-item.is in
    let split = marks-at _ _ n chars _ _ octets _ _ here refl refl refl refl in
    let over = over-at c.args.now _ _ _ split c.loop-note.invariant.over in
    omega (arith, over.0, c.requires.clock, same-moment n [] (take (chars_of n) chars) [] (take (octets_of n) octets))

pub after_note-left-requires-clause-chars : goal.after_note-left-requires-clause-chars
after_note-left-requires-clause-chars c =
    let n = c.note-item.result in
    let here = next-at c.args.notes.now c.loop-note.note-index n c.loop-note-test.true c.note-item.is in
    (of-at _ _ n c.loop-note.left.chars.now _ c.loop-note.left.octets.now _ here refl refl c.loop-note.invariant.of).0

pub after_note-left-requires-clause-octets : goal.after_note-left-requires-clause-octets
after_note-left-requires-clause-octets c =
    let n = c.note-item.result in
    let here = next-at c.args.notes.now c.loop-note.note-index n c.loop-note-test.true c.note-item.is in
    (of-at _ _ n c.loop-note.left.chars.now _ c.loop-note.left.octets.now _ here refl refl c.loop-note.invariant.of).2

pub loop-note-preserved : goal.loop-note-preserved
loop-note-preserved c =
    let n = c.note-item.result in
    let chars = c.loop-note.left.chars.now in
    let octets = c.loop-note.left.octets.now in
    let behind = c.after_note-left.ensures.chars in
    let after = c.after_note-left.ensures.octets in
    let here = next-at c.args.notes.now c.loop-note.note-index n c.loop-note-test.true c.note-item.is in
    let split = marks-at _ _ n chars _ _ octets _ _ here refl behind refl after in
    record {
      same = λ queue. read-note c.args.params.now (station_with c.args.kept.now queue (phase_of c.args.phase.now))
          (station_with c.loop-note.kept queue (phase_of c.loop-note.phase)) (station_with c.after_timer.new.kept queue (phase_of c.after_timer.new.phase))
          (station_with c.after_note-left.new.kept queue (phase_of c.after_note-left.new.phase))
          (marks_in c.args.notes.now c.args.chars.now c.args.octets.now) _ _ (mark_with n (take (chars_of n) chars) (take (octets_of n) octets))
          c.moment.result (c.loop-note.invariant.same queue) split
          (c.moment.ensures ∙ same-moment n _ (take (chars_of n) chars) _ (take (octets_of n) octets)) (c.after_timer.ensures queue)
          (c.after_note-left.ensures.read queue);
      over = (over-at c.args.now _ _ _ split c.loop-note.invariant.over).1;
      of = (of-at _ _ n chars _ octets _ here behind after c.loop-note.invariant.of).4;
    }

pub returns : goal.returns
returns c queue =
    let s = station_with c.loop-note.kept queue (phase_of c.loop-note.phase) in
    sym
    (ap (after_marks c.args.params.now s)
    (none-left c.args.notes.now c.loop-note.note-index c.loop-note.left.chars.now c.loop-note.left.octets.now c.loop-note-test.false))
    ∙ c.loop-note.invariant.same queue
