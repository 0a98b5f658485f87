use Rattle.std.proofs.Common.{◌≡◌, map, length}
use Rattle.std.specs.Prelude.{drop}
use Rattle.pb_station.specs.MarkViews.{mark_of}
use Rattle.pb_station.specs.Notes.{marks_in, AreOf}
use Rattle.pb_station.proofs.inboxes.are_noted.Given as goal

-- all are the same where those that are left are
abbrev pub invariant-loop-place : goal.invariant-loop-place
invariant-loop-place l = record {
  all : map mark_of (drop l.place l.marks) ≡ marks_in (drop l.place l.notes) l.left l.good_left → map mark_of l.marks ≡ marks_in l.notes l.chars l.octets;
  left : map mark_of l.marks ≡ marks_in l.notes l.chars l.octets → map mark_of (drop l.place l.marks) ≡ marks_in (drop l.place l.notes) l.left l.good_left;
  of : AreOf (drop l.place l.notes) l.left l.good_left;
  long : length l.notes ≡ length l.marks;
}
