-- The outcome of a run: which premises it breaks, and how many stations may initiate on the way.
use Rattle.std.specs.Prelude.{ℕ, ◌+◌, Bool, true, false, if◌then◌else◌, not, ◌==◌, ◌||◌, List, [], ◌∷◌, ◌++◌, max, count_by, Option, Some, None, Result, Ok, Err, filter, nat_le}
use Rattle.pb_timers.specs.Timers.{Params}
use Rattle.law_model.specs.Scenarios.{replay_from, trace_of}
use Rattle.law_model.specs.Trace.{Entry, entry_begin}
use Rattle.law_model.specs.Medium.{TapSpec}
use Rattle.law_model.specs.World.{World, NewFault, Event, Reply, Fault, new_world}
use Rattle.law_model.specs.Step.{step}
use Rattle.law_runs.specs.Headline.{tap_may_initiate, specs_of}
use Rattle.law_runs.specs.Legality.{first_illegal}
use Rattle.law_runs.specs.Premises.{Waited, has_namesakes, loses, comes_late, waited_by, two_have_waited}
use Rattle.law_runs.specs.JudgedScenarios.{holder_is_named}

-- so far: which premises broke; after how many events some station may initiate, how many at most, and whether one that
-- the trace does not name; and whether an event was refused
pub record Tally : Type 0 where
  pub namesakes : Bool
  pub lost : Bool
  pub late : Bool
  pub together : Bool
  pub held : ℕ
  pub most : ℕ
  pub unnamed : Bool
  pub refused : Bool

abbrev pub no_tally : Tally
no_tally = record { namesakes = false; lost = false; late = false; together = false; held = 0; most = 0; unnamed = false; refused = false }

-- after the event that led from one world to the next, given how many stations may initiate then, and which taps had
-- waited out
abbrev pub tally_after : Tally → World → Event → World → ℕ → List Waited → List Waited → Tally
tally_after v w e next holders new all = record {
  namesakes = v.namesakes || has_namesakes next.taps;
  lost = v.lost || loses e;
  late = v.late || comes_late w e;
  together = v.together || two_have_waited next.params.ttd new all;
  held = v.held + (if holders == 0 then 0 else 1);
  most = max v.most holders;
  unnamed = v.unnamed || not (holder_is_named next);
  refused = v.refused;
}

-- the outcome of a run
pub record Outcome : Type 0 where
  -- the numbers of the premises that it breaks
  pub broken : List ℕ
  pub held : ℕ
  pub most : ℕ
  pub unnamed : Bool
  pub illegal : Option ℕ

abbrev pub number_if : Bool → ℕ → List ℕ
number_if true n = n ∷ []
number_if false n = []

abbrev pub outcome : Tally → World → Option Outcome
outcome v w =
    if v.refused then None
    else Some (record {
      broken = number_if v.namesakes 1 ++ number_if v.lost 2 ++ number_if v.late 3 ++ number_if v.together 4;
      held = v.held;
      most = v.most;
      unnamed = v.unnamed;
      illegal = first_illegal w.params (specs_of w) w.trace;
    })

-- a run so far
pub record Run : Type 0 where
  pub world : World
  pub waited : List Waited
  pub tally : Tally

abbrev pub run_after : Run → Event → Result (World × Reply) Fault → Run
run_after c e (Err fault) = record c { tally = record c.tally { refused = true } }
run_after c e (Ok next) =
    let new = waited_by next.0 0 next.0.taps in
    let all = new ++ c.waited in
    record { world = next.0; waited = all; tally = tally_after c.tally c.world e next.0 (count_by tap_may_initiate next.0.taps) new all }

abbrev pub run_of : Run → List Event → Run
run_of c [] = c
run_of c (e ∷ es) = run_of (run_after c e (step c.world e)) es

abbrev pub outcome_of : Run → Option Outcome
outcome_of c = outcome c.tally c.world

abbrev pub outcome_from : Result World NewFault → List Event → Option Outcome
outcome_from (Ok w) events = outcome_of (run_of (record { world = w; waited = []; tally = no_tally }) events)
outcome_from (Err fault) events = None

abbrev pub outcome_on : Params → List TapSpec → List Event → Option Outcome
outcome_on p specs events = outcome_from (new_world p specs) events

-- all premises are kept, and at most one station may initiate, after this many of the events
abbrev pub kept : ℕ → Option Outcome
kept held = Some (record { broken = []; held = held; most = if held == 0 then 0 else 1; unnamed = false; illegal = None })

-- a premise breaks
abbrev pub breaks : List ℕ → (held most : ℕ) → Bool → Option ℕ → Option Outcome
breaks broken held most unnamed illegal = Some (record { broken = broken; held = held; most = most; unnamed = unnamed; illegal = illegal })

-- the fourth premise breaks, with two holders, one of which the trace names
abbrev pub together : Option Outcome
together = breaks (4 ∷ []) 2 2 true (Some 1)

-- the third premise breaks, and no station holds the token
abbrev pub late_in_silence : Option Outcome
late_in_silence = breaks (3 ∷ []) 0 0 false None

-- ---- worlds, and the entries of their traces from a moment on

abbrev pub world_on : Params → List TapSpec → List Event → Option World
world_on p specs events = replay_from (new_world p specs) events

abbrev pub entries_from : ℕ → Option World → List Entry
entries_from m w = filter (λ e. nat_le m (entry_begin e)) (trace_of w)
