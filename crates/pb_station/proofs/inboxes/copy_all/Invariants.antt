use Rattle.std.proofs.Common.{◌≡◌, ◌≤◌, ◌++◌, length, map}
use Rattle.std.specs.Prelude.{drop}
use Rattle.std.specs.Vec.{vec_capacity}
use Rattle.pb_station.specs.MarkViews.{mark_of}
use Rattle.pb_station.specs.Notes.{marks_in, AreOf}
use Rattle.pb_station.proofs.inboxes.copy_all.Given as goal

abbrev pub invariant-loop-note : goal.invariant-loop-note
invariant-loop-note l = record {
  same : map mark_of l.copies.items ++ marks_in (drop l.note-index l.notes) l.left l.good_left ≡ marks_in l.notes l.chars l.octets;
  of : AreOf (drop l.note-index l.notes) l.left l.good_left;
  copied : length l.copies.items ≡ l.note-index;
  room : length l.notes ≤ vec_capacity l.copies;
}
