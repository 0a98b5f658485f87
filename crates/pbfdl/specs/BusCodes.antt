-- The codes that calls at a bus answer.
use Rattle.std.specs.Prelude.{ℕ, Result, Ok, Err}
use Rattle.pb_taps.specs.declared.faults.NewFault.{NewFault}
use Rattle.pb_taps.specs.declared.faults.NewFault.TheVariants as new
use Rattle.pb_taps.specs.declared.faults.WorldFault.{WorldFault}
use Rattle.pb_taps.specs.declared.faults.WorldFault.TheVariants.{NoSuchTap, Running, NotRunning, NothingInAir, ZeroTime, TooFar, ClockFull, QueueFull, InboxFull, TraceFull, NoMemory}

abbrev pub fault_code : WorldFault → ℕ
fault_code NoSuchTap = 81
fault_code Running = 82
fault_code NotRunning = 83
fault_code NothingInAir = 84
fault_code ZeroTime = 85
fault_code (TooFar furthest) = 86
fault_code ClockFull = 87
fault_code QueueFull = 46
fault_code (InboxFull tap) = 45
fault_code TraceFull = 90
fault_code NoMemory = 63

-- 0, or the code of a fault
abbrev pub result_code : Result (Unit {0}) WorldFault → ℕ
result_code (Ok done) = 0
result_code (Err fault) = fault_code fault

abbrev pub new_fault_code : NewFault → ℕ
new_fault_code new.NoTaps = 71
new_fault_code new.TooManyTaps = 72
new_fault_code (new.BadAddress tap) = 64
new_fault_code new.NoMemory = 63
