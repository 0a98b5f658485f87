-- A station that ignores telegrams for others.
use Rattle.std.specs.Prelude.{Bool, true, false}
use Rattle.law_turn.specs.Phases.{Phase, PassiveIdle, Idle}

-- whether the station answers requests, and ignores telegrams for others except tokens
abbrev pub only_answers : Phase → Bool
only_answers PassiveIdle = true
only_answers (Idle refused) = true
only_answers phase = false
