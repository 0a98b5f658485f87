-- What was appended so far, and what follows; which entries are over, and which may be on the bus.
use Rattle.std.proofs.Common.{◌≡◌, ◌≤◌, ◌-◌, ◌++◌, length, map}
use Rattle.std.specs.Prelude.{take}
use Rattle.pb_medium.specs.Entries.{entry_of}
use Rattle.pb_export.specs.Vcd.{moments}
use Rattle.pb_export.specs.Waves.{AreOver, level_behind, named_behind}
use Rattle.pb_export.proofs.waves.push_moments.Given as goal

abbrev pub invariant-loop-now : goal.invariant-loop-now
invariant-loop-now l = record {
  text : l.text.items ++ moments l.dump.baud l.dump.strings l.dump.window l.fn.waves.gone (map entry_of l.entries) l.place.level l.place.named l.now (l.end - l.now)
      ≡ l.initial.text.items
      ++ moments l.dump.baud l.dump.strings l.dump.window l.fn.waves.gone (map entry_of l.entries) l.fn.waves.level l.fn.waves.named l.fn.waves.next (l.end - l.fn.waves.next);
  level : level_behind l.dump.window (map entry_of l.entries) l.place.level l.now (l.end - l.now)
      ≡ level_behind l.dump.window (map entry_of l.entries) l.fn.waves.level l.fn.waves.next (l.end - l.fn.waves.next);
  named : named_behind l.dump.window l.fn.waves.gone (map entry_of l.entries) l.place.named l.now (l.end - l.now)
      ≡ named_behind l.dump.window l.fn.waves.gone (map entry_of l.entries) l.fn.waves.named l.fn.waves.next (l.end - l.fn.waves.next);
  over : AreOver l.now (take l.place.first (map entry_of l.entries));
  first : l.place.first ≤ l.place.next;
  next : l.place.next ≤ length l.entries;
}

abbrev pub decreases-loop-now : goal.decreases-loop-now
decreases-loop-now l = l.end - l.now
