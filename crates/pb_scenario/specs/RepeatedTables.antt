-- What the code keeps of steps that repeat, as plain data.
use Rattle.std.specs.Prelude.{List, [], ◌∷◌, Option}
use Rattle.law_runs.specs.Scenarios.{Planned}
use Rattle.pb_scenario.specs.declared.repeated_steps.RepeatedStep as code
use Rattle.pb_scenario.specs.declared.repeated_steps.RepeatedSteps.{RepeatedSteps}
use Rattle.pb_scenario.specs.declared.repeats.Repeat.{Repeat}
use Rattle.pb_scenario.specs.Steps.{planned_of, steps_of}
use Rattle.pb_scenario.specs.StreamFiles.{RepeatedStep}

abbrev pub repeated_of : code.RepeatedStep → RepeatedStep
repeated_of s = record { step = planned_of s.step; repeat = s.repeat }

-- steps and as many repeats, paired
abbrev pub paired : List Planned → List (Option Repeat) → List RepeatedStep
paired [] repeats = []
paired (s ∷ steps) [] = []
paired (s ∷ steps) (r ∷ repeats) = record { step = s; repeat = r } ∷ paired steps repeats

abbrev pub all_of : RepeatedSteps → List RepeatedStep
all_of all = paired (steps_of all.steps.items) all.repeats.items
