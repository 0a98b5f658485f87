-- Telegrams without moments, judged by their order alone.
use Rattle.std.specs.Prelude.{ℕ, if◌then◌else◌, ◌==◌, ◌||◌, List, [], ◌∷◌, Option, Some, None}
use Rattle.pb_monitor.specs.declared.alarms.Alarm.{Alarm}
use Rattle.pb_monitor.specs.declared.alarms.Alarm.TheVariants.{SpokeWithoutToken, SpokeOutOfTurn}
use Rattle.pb_monitor.specs.declared.meanings.InitiatorTelegram.{InitiatorTelegram}
use Rattle.pb_monitor.specs.declared.meanings.Meaning.{Meaning}
use Rattle.pb_monitor.specs.declared.meanings.Meaning.TheVariants as meaning
use Rattle.pb_monitor.specs.declared.orders.Wrong.{Wrong}

-- a telegram of another source than the last one
abbrev pub alarm_of_another : (offered : Option ℕ) → InitiatorTelegram → Option Alarm
alarm_of_another None t = Some SpokeWithoutToken
alarm_of_another (Some to) t = if t.source == to then None else Some SpokeOutOfTurn

-- what is illegal about a token or a request after the last one; without moments a claim can't be judged
abbrev pub alarm_after : Option InitiatorTelegram → InitiatorTelegram → Option Alarm
alarm_after None t = None
alarm_after (Some last) t = if t.is_claim || t.source == last.source then None else alarm_of_another last.offered t

abbrev pub wrong_by : InitiatorTelegram → Option Alarm → Option Wrong
wrong_by t None = None
wrong_by t (Some alarm) = Some (record { alarm = alarm; source = t.source })

-- what is wrong about a telegram
abbrev pub wrong_in : Option InitiatorTelegram → Meaning → Option Wrong
wrong_in last (meaning.Initiator t) = wrong_by t (alarm_after last t)
wrong_in last meaning.Reply = None
wrong_in last meaning.NoTelegram = None

-- the last token or request after one more telegram, as far as it is known
abbrev pub last_in : Option InitiatorTelegram → Meaning → Option InitiatorTelegram
last_in last (meaning.Initiator t) = Some t
last_in last meaning.Reply = last
last_in last meaning.NoTelegram = None

abbrev pub with_wrong : Option Wrong → List Wrong → List Wrong
with_wrong None later = later
with_wrong (Some wrong) later = wrong ∷ later

-- all that is wrong
abbrev pub wrongs : Option InitiatorTelegram → List Meaning → List Wrong
wrongs last [] = []
wrongs last (m ∷ ms) = with_wrong (wrong_in last m) (wrongs (last_in last m) ms)
