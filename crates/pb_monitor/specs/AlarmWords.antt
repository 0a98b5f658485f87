-- The names of alarms.
use Rattle.std.specs.Prelude.{ℕ, List, codes}
use Rattle.pb_monitor.specs.declared.alarms.Alarm.{Alarm}
use Rattle.pb_monitor.specs.declared.alarms.Alarm.TheVariants.{SpokeWithoutToken, SpokeOutOfTurn, PassedAgainTooEarly, PassedAgainThoughHeard, TookAfterSlot, ClaimedTooEarly, SpokeAfterLoss, ClaimedTooEarlyAfterLoss, TookLate, TookTooSoon}

abbrev pub name_of : Alarm → List ℕ
name_of SpokeWithoutToken = codes "SpokeWithoutToken"
name_of SpokeOutOfTurn = codes "SpokeOutOfTurn"
name_of PassedAgainTooEarly = codes "PassedAgainTooEarly"
name_of PassedAgainThoughHeard = codes "PassedAgainThoughHeard"
name_of TookAfterSlot = codes "TookAfterSlot"
name_of ClaimedTooEarly = codes "ClaimedTooEarly"
name_of SpokeAfterLoss = codes "SpokeAfterLoss"
name_of ClaimedTooEarlyAfterLoss = codes "ClaimedTooEarlyAfterLoss"
name_of TookLate = codes "TookLate"
name_of TookTooSoon = codes "TookTooSoon"
