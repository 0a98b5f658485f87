use Rattle.std.proofs.Common.{◌≡◌, ◌≤◌, ◌++◌, length, map}
use Rattle.std.specs.Prelude.{drop}
use Rattle.std.specs.Vec.{vec_capacity}
use Rattle.pb_cycles.specs.Queued.{Queued}
use Rattle.law_turn.specs.Turns.{after_marks}
use Rattle.pb_tokenfsm.specs.Phases.{phase_of}
use Rattle.pb_transitions.specs.Cores.{station_with}
use Rattle.pb_station.specs.Indications.{fields_of, indications_of}
use Rattle.pb_station.specs.MarkViews.{AllOver}
use Rattle.pb_station.specs.Notes.{marks_in, AreOf}
use Rattle.pb_station.proofs.reading.after_notes_into.Given as goal

-- the marks that are left make the same of the station as all of them, and tell the rest
abbrev pub invariant-loop-note : goal.invariant-loop-note
invariant-loop-note l = record {
  same : (queue : Queued) → after_marks l.params (station_with l.kept queue (phase_of l.phase)) (marks_in (drop l.note-index l.notes) l.left.chars.now l.left.octets.now)
      ≡ after_marks l.params (station_with l.fn.kept queue (phase_of l.fn.phase)) (marks_in l.fn.unread.notes.now l.fn.unread.chars.now l.fn.unread.octets.now);
  over : AllOver l.fn.now (marks_in (drop l.note-index l.notes) l.left.chars.now l.left.octets.now);
  of : AreOf (drop l.note-index l.notes) l.left.chars.now l.left.octets.now;
  told : (queue : Queued)
      → map fields_of l.told.items ++ indications_of l.params (station_with l.kept queue (phase_of l.phase)) (marks_in (drop l.note-index l.notes) l.left.chars.now l.left.octets.now)
      ≡ indications_of l.params (station_with l.fn.kept queue (phase_of l.fn.phase)) (marks_in l.fn.unread.notes.now l.fn.unread.chars.now l.fn.unread.octets.now);
  few : length l.told.items ≤ l.note-index;
  room : vec_capacity l.told ≡ vec_capacity l.fn.told;
}
