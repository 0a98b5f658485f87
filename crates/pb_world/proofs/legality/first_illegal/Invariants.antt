-- What is left to judge, behind what has come so far.
use Rattle.std.proofs.Common.{◌≡◌, ℕ, [], None, map, drop, take}
use Rattle.std.specs.Option.{option_map}
use Rattle.law_runs.specs.Judging.{judged_from, IsOrderedFrom}
use Rattle.pb_medium.specs.Entries.{entry_of}
use Rattle.pb_world.specs.LatestEnds.{AreEnds}
use Rattle.pb_world.specs.Judging.{last_of, specs_in}
use Rattle.pb_world.proofs.legality.first_illegal.Given as goal

abbrev pub invariant-loop-place : goal.invariant-loop-place
invariant-loop-place l =
    record {
      judged : judged_from l.params (specs_in l.taps) [] None 0 (map entry_of l.trace)
          ≡ judged_from l.params (specs_in l.taps) (take l.place (map entry_of l.trace)) (option_map last_of l.last) l.place (drop l.place (map entry_of l.trace));
      ends : (before : ℕ) × AreEnds l.params.ttd before (take l.place (map entry_of l.trace)) l.ends × IsOrderedFrom before (drop l.place (map entry_of l.trace));
    }
