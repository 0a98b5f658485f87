-- The lines that a monitor prints for bursts and alarms.
use Rattle.std.specs.Prelude.{ℕ, ◌+◌, ◌-◌, ◌*◌, List, [], ◌++◌, codes, decimal, Option, Some, None, Result, Ok, Err}
use Rattle.pb_decode.specs.Texts.{fault_text, telegram_text}
use Rattle.pb_telegram.specs.declared.telegrams.Telegram.{Telegram}
use Rattle.pb_telegram.specs.declared.faults.TelegramFault.{TelegramFault}
use Rattle.pb_timers.specs.Timers.{Params, tto}
use Rattle.pb_monitor.specs.AlarmWords.{name_of}
use Rattle.pb_monitor.specs.Holders.{holder_of}
use Rattle.pb_monitor.specs.Judge.{live}
use Rattle.pb_monitor.specs.Judging.{Judging}
use Rattle.pb_monitor.specs.TelegramWords.{words_of}
use Rattle.pb_monitor.specs.declared.alarms.Alarm.{Alarm}
use Rattle.pb_monitor.specs.declared.alarms.Alarm.TheVariants.{SpokeWithoutToken, SpokeOutOfTurn, PassedAgainTooEarly, PassedAgainThoughHeard, TookAfterSlot, ClaimedTooEarly, SpokeAfterLoss, ClaimedTooEarlyAfterLoss, TookLate, TookTooSoon}
use Rattle.pb_monitor.specs.declared.bursts.Burst.{Burst}
use Rattle.pb_monitor.specs.declared.formats.Form.{Form}
use Rattle.pb_monitor.specs.declared.formats.Form.TheVariants.{Lines, Pcap, Raw}
use Rattle.pb_monitor.specs.declared.holders.Holder.{Holder}
use Rattle.pb_monitor.specs.declared.holders.Holder.TheVariants.{One, OfferedTo, Nobody, Unknown}
use Rattle.pb_monitor.specs.declared.meanings.InitiatorTelegram.{InitiatorTelegram}
use Rattle.pb_monitor.specs.declared.states.LastHeard.{LastHeard}
use Rattle.pb_monitor.specs.declared.states.State.{State}

-- who may send tokens and requests
abbrev pub holder_text : Holder → List ℕ
holder_text (One address) = codes " | holder " ++ decimal address
holder_text (OfferedTo address) = codes " | offered to " ++ decimal address
holder_text Nobody = codes " | nobody"
holder_text Unknown = codes " | unknown"

-- the same at a moment, where that is judged
abbrev pub named_text : (moment : ℕ) → Option Judging → List ℕ
named_text moment None = []
named_text moment (Some j) = holder_text (holder_of j.params j.slack j.state moment)

-- ---- bursts

-- a telegram and what it says, or the fault of a burst without one
abbrev pub content_text : Result Telegram TelegramFault → List ℕ
content_text (Ok t) = telegram_text t ++ codes " | " ++ words_of t
content_text (Err fault) = fault_text fault

-- The line of a burst with moments. The judge, if there is one, has heard it.
abbrev pub burst_text : Burst → Option Judging → List ℕ
burst_text b judge =
    decimal b.begin ++ codes " " ++ decimal b.end ++ codes " " ++ content_text b.telegram ++ named_text b.end judge ++ codes "\n"

-- of a burst without moments
abbrev pub untimed_text : Burst → List ℕ
untimed_text b = content_text b.telegram ++ codes "\n"

-- of a telegram that is cut off at an offset of raw octets
abbrev pub cut_text : (offset : ℕ) → Burst → List ℕ
cut_text offset b = decimal offset ++ codes " " ++ content_text b.telegram ++ codes "\n"

-- ---- alarms

abbrev pub begin_text : Option ℕ → List ℕ
begin_text None = []
begin_text (Some begin) = codes " at " ++ decimal begin

-- what the line of an alarm begins with
abbrev pub alarm_head : Alarm → (begin : Option ℕ) → (source : ℕ) → List ℕ
alarm_head alarm begin source = codes "alarm" ++ begin_text begin ++ codes " by " ++ decimal source ++ codes ": " ++ name_of alarm ++ codes ": "

-- who had the token, or to whom it was passed
abbrev pub offered_text : (offered : Option ℕ) → List ℕ
offered_text None = codes " had the token"
offered_text (Some to) = codes " had passed the token to station " ++ decimal to

abbrev pub had_text : (source : ℕ) → (offered : Option ℕ) → List ℕ
had_text source offered = codes "station " ++ decimal source ++ offered_text offered

-- the same at the end of a sentence, if it is known
abbrev pub had_last_text : Option LastHeard → List ℕ
had_last_text None = []
had_last_text (Some l) = codes "; " ++ had_text l.source l.offered

-- a number of bit times, and what it should have been
abbrev pub measured_text : (what : List ℕ) → (found : ℕ) → (limit : List ℕ) → (bits : ℕ) → List ℕ
measured_text what found limit bits = what ++ decimal found ++ limit ++ decimal bits

-- how long after its end a token was taken, and when it should have been
abbrev pub taken_text : (after : ℕ) → (limit : List ℕ) → (bits : ℕ) → List ℕ
taken_text after limit bits = measured_text (codes "; it was taken ") after limit bits

-- how long after a token's end a station takes it at the latest
abbrev pub latest : Params → (slack : ℕ) → ℕ
latest p slack = p.tid1 + p.lag + 2 * p.ttd + slack

-- what the station did that passed the last token, or to which it was passed, so long after its end
abbrev pub deed_text : Params → (slack : ℕ) → Alarm → (after : ℕ) → List ℕ
deed_text p slack PassedAgainTooEarly after = measured_text (codes " and spoke again ") after (codes " after the end of that token; the slot is ") p.tsl
deed_text p slack PassedAgainThoughHeard after = codes " and spoke again though something was heard in the slot"
deed_text p slack TookAfterSlot after = taken_text after (codes " after its end, and the slot is ") p.tsl
deed_text p slack TookLate after = taken_text after (codes " after its end, and the latest is ") (latest p slack)
deed_text p slack TookTooSoon after = taken_text after (codes " after its end, and the earliest is ") p.tid1
deed_text p slack SpokeWithoutToken after = []
deed_text p slack SpokeOutOfTurn after = []
deed_text p slack ClaimedTooEarly after = []
deed_text p slack SpokeAfterLoss after = []
deed_text p slack ClaimedTooEarlyAfterLoss after = []

abbrev pub after_last_text : Params → (slack : ℕ) → Alarm → (begin : ℕ) → Option LastHeard → List ℕ
after_last_text p slack alarm begin None = []
after_last_text p slack alarm begin (Some l) = had_text l.source l.offered ++ deed_text p slack alarm (begin - l.end)

-- a claim, or another telegram, after so long a silence
abbrev pub claimed_text : Params → (source silence : ℕ) → Option LastHeard → List ℕ
claimed_text p source silence last =
    measured_text (codes "it claimed after a silence of ") silence (codes ", and its time-out is ") (tto p source) ++ had_last_text last

abbrev pub spoke_text : Params → (slack silence : ℕ) → Option LastHeard → List ℕ
spoke_text p slack silence last =
    measured_text (codes "it spoke without claiming after a silence of ") silence (codes ", and a token in use leaves at most ") (live p slack) ++ had_last_text last

-- why an alarm is raised of what a station sent, by what was known before it
abbrev pub why_text : Params → (slack : ℕ) → State → Alarm → (begin source : ℕ) → List ℕ
why_text p slack j SpokeAfterLoss begin source = spoke_text p slack (begin - j.quiet) j.last
why_text p slack j ClaimedTooEarlyAfterLoss begin source = claimed_text p source (begin - j.quiet) j.last
why_text p slack j ClaimedTooEarly begin source = claimed_text p source (begin - j.quiet) j.last
why_text p slack j SpokeWithoutToken begin source = after_last_text p slack SpokeWithoutToken begin j.last
why_text p slack j SpokeOutOfTurn begin source = after_last_text p slack SpokeOutOfTurn begin j.last
why_text p slack j PassedAgainTooEarly begin source = after_last_text p slack PassedAgainTooEarly begin j.last
why_text p slack j PassedAgainThoughHeard begin source = after_last_text p slack PassedAgainThoughHeard begin j.last
why_text p slack j TookAfterSlot begin source = after_last_text p slack TookAfterSlot begin j.last
why_text p slack j TookLate begin source = after_last_text p slack TookLate begin j.last
why_text p slack j TookTooSoon begin source = after_last_text p slack TookTooSoon begin j.last

-- the same by order alone
abbrev pub order_text : Option InitiatorTelegram → List ℕ
order_text None = []
order_text (Some t) = had_text t.source t.offered

-- ---- refused input

-- the begin of its line
abbrev pub refused_text : (what : List ℕ) → (place : ℕ) → List ℕ
refused_text what place = codes "refused " ++ what ++ codes " " ++ decimal place ++ codes ": "

-- in what the places of a capture are counted
abbrev pub unit_of : Form → List ℕ
unit_of Lines = codes "line"
unit_of Raw = codes "offset"
unit_of Pcap = codes "packet"

-- where moments are made of a file's times: whether the bits a second are right
abbrev pub baud_text : Form → List ℕ
baud_text Lines = []
baud_text Raw = []
baud_text Pcap = codes " (is --baud that of the bus?)"

-- a burst that begins before the last one ends
abbrev pub order_refused_text : Form → (place begin quiet : ℕ) → List ℕ
order_refused_text form place begin quiet =
    refused_text (unit_of form) place ++ codes "the burst begins at " ++ decimal begin
    ++ codes ", before the last one ends at " ++ decimal quiet ++ codes "; wanted: bursts in order" ++ baud_text form ++ codes "\n"

-- octets in a row at which no telegram begins
abbrev pub skipped_text : (offset count : ℕ) → List ℕ
skipped_text offset count =
    refused_text (codes "offset") offset ++ decimal count ++ codes " octets skipped; no telegram begins at them\n"
