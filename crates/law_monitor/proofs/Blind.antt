-- A burst that spells no telegram raises no alarm, and leaves no last telegram.
use Rattle.std.proofs.Common.{◌≡◌, ℕ, ◌*◌, ◌<◌, refl, arith, None}
use Rattle.pb_timers.specs.Timers.{Params}
use Rattle.law_turn.specs.Arrivals.{NoTelegram, arrival_of}
use Rattle.law_token.specs.Places.{LeavesTime}
use Rattle.pb_monitor.specs.declared.alarms.Classes.{Classes}
use Rattle.pb_monitor.specs.Captures.{Burst}
use Rattle.pb_monitor.specs.Judge.{listening, alarm_of, behind}

-- twice the cable delay is less than a slot
pub short_delay : (p : Params) → LeavesTime p → 2 * p.ttd < p.tsl
short_delay p fits = let a = fits.take in omega (arith, a)

-- where a listener begins amid it
pub blind_alarm : (p : Params) (slack : ℕ) (c : Classes) (since : ℕ) (b : Burst) → arrival_of b.chars ≡ NoTelegram → alarm_of p slack c since (listening since) b ≡ None
blind_alarm p slack c since b blind = rw blind refl

pub blind_last : (p : Params) (slack since : ℕ) (b : Burst) → arrival_of b.chars ≡ NoTelegram → (behind p slack (listening since) b).last ≡ None
blind_last p slack since b blind = rw blind refl
