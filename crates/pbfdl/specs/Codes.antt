-- The codes that calls answer: 0, or the code of a fault.
use Rattle.std.specs.Prelude.{ℕ, ◌+◌, Option, Some, None}
use Rattle.pb_telegram.specs.declared.faults.TelegramFault.{TelegramFault}
use Rattle.pb_telegram.specs.FaultWords as telegram
use Rattle.pb_timers.specs.declared.params.ParamFault.{ParamFault}
use Rattle.pb_timers.specs.ParamWords as params
use Rattle.law_turn.specs.Phases.{Phase, Offline, PassiveIdle, Listening, Idle, Claim, Use, AwaitData, AwaitStatus, Pass, Checking}
use Rattle.pb_port.specs.declared.faults.PortFault.{PortFault}
use Rattle.pb_port.specs.declared.faults.PortFault.TheVariants.{TooLate, Backwards, Ahead, TooLong, InboxFull, QueueFull}

abbrev pub telegram_code : TelegramFault → ℕ
telegram_code fault = telegram.number_of fault

abbrev pub param_code : ParamFault → ℕ
param_code fault = 20 + params.number_of fault

abbrev pub port_code : PortFault → ℕ
port_code TooLate = 41
port_code Backwards = 42
port_code Ahead = 43
port_code TooLong = 44
port_code InboxFull = 45
port_code QueueFull = 46

-- the code of a fault, if there is one
abbrev pub code_unless : {F : Type 0} → (F → ℕ) → Option F → ℕ
code_unless code None = 0
code_unless code (Some fault) = code fault

-- the number of a phase, in the order in which a station's states stand
abbrev pub phase_number : Phase → ℕ
phase_number Offline = 0
phase_number PassiveIdle = 1
phase_number (Listening doubled) = 2
phase_number (Idle refused) = 3
phase_number (Claim sent ready) = 4
phase_number (Use asked ready) = 5
phase_number (AwaitData asked retry slot) = 6
phase_number (AwaitStatus of slot) = 7
phase_number (Pass tries ready) = 8
phase_number (Checking tries) = 9
