use Rattle.std.proofs.Common.{◌≡◌, map}
use Rattle.pb_medium.specs.Entries.{entry_of}
use Rattle.pb_world.specs.LatestEnds.{AreEnds}
use Rattle.pb_world.proofs.ends.Ends.advance.Given as goal

abbrev pub invariant-loop-place : goal.invariant-loop-place
invariant-loop-place l = record {
  here : l.self.begun ≡ l.place;
  are : AreEnds l.delay l.moment (map entry_of l.earlier) l.self;
}
