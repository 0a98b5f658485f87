-- The entries so far are heard.
use Rattle.std.proofs.Common.{List, ◌++◌, map, take}
use Rattle.pb_timers.specs.Timers.{Params}
use Rattle.law_model.specs.Medium.{TapSpec}
use Rattle.law_model.specs.Trace.{Entry}
use Rattle.pb_medium.specs.Entries.{entry_of}
use Rattle.pb_world.specs.Judges.{HasHeard}
use Rattle.pb_world.proofs.judge.Judge.hear_all.Given as goal

abbrev pub invariant-loop-entry : goal.invariant-loop-entry
invariant-loop-entry l = (p : Params) (specs : List TapSpec) (before : List Entry) → HasHeard p specs before l.initial.self
    → HasHeard p specs (before ++ map entry_of (take l.entry-index l.entries)) l.self
