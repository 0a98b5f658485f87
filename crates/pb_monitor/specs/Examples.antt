-- Captures written by hand, on a bus of two masters.
use Rattle.std.specs.Prelude.{ℕ, ◌+◌, true, List, [], ◌∷◌, length, map}
use Rattle.pb_telegram.specs.declared.chars.RxChar.TheVariants.{Good, Bad}
use Rattle.pb_timers.specs.Timers.{bits}
use Rattle.law_model.specs.Scenarios.{example_bus}
use Rattle.law_runs.specs.Traces.{token, question, answer}
use Rattle.pb_monitor.specs.declared.alarms.Alarm.{Alarm}
use Rattle.pb_monitor.specs.declared.alarms.Classes.{Classes}
use Rattle.pb_monitor.specs.Captures.{Burst}
use Rattle.pb_monitor.specs.Judge.{listening, alarms}

-- octets heard whole from a moment on
abbrev pub at : ℕ → List ℕ → Burst
at begin octets = record { begin = begin; end = begin + bits (length octets); chars = map Good octets }

abbrev pub disturbed : (begin end : ℕ) → Burst
disturbed begin end = record { begin = begin; end = end; chars = Bad ∷ [] }

abbrev pub all_classes : Classes
all_classes = record { legality = true; loss = true; timing = true }

abbrev pub alarms_in : List Burst → List (ℕ × Alarm)
alarms_in bs = alarms example_bus 0 all_classes 0 (listening 0) bs

-- with a slack of five slots
abbrev pub loose_alarms_in : List Burst → List (ℕ × Alarm)
loose_alarms_in bs = alarms example_bus 500 all_classes 0 (listening 0) bs

-- the first station claims the token, finds the second, and passes it on, until 1153
abbrev pub ring : List Burst → List Burst
ring bs = at 800 (token 1 1) ∷ at 870 (token 1 1) ∷ at 940 (question 2 1) ∷ at 1017 (answer 1 2) ∷ at 1120 (token 2 1) ∷ bs
