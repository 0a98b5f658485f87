-- What a monitor appends for a burst.
use Rattle.std.specs.Prelude.{ℕ, ◌+◌, ◌-◌, ◌==◌, Bool, ◌&&◌, not, is_some, nat_lt, if◌then◌else◌, List, [], ◌++◌, codes, Option, Some, None}
use Rattle.pb_timers.specs.Timers.{Params}
use Rattle.pb_monitor.specs.BurstTexts.{alarm_head, burst_text, cut_text, order_refused_text, order_text, skipped_text, untimed_text, why_text}
use Rattle.pb_monitor.specs.Judge.{alarm_by, behind_by, listening}
use Rattle.pb_monitor.specs.Judging.{Judging}
use Rattle.pb_monitor.specs.Known.{Known, alarmed_if, forgotten, heard, heard_untimed, refused}
use Rattle.pb_monitor.specs.Meanings.{arrival_in, meaning_of}
use Rattle.pb_monitor.specs.Orders.{wrong_in}
use Rattle.pb_monitor.specs.declared.alarms.Alarm.{Alarm}
use Rattle.pb_monitor.specs.declared.bursts.Burst.{Burst}
use Rattle.pb_monitor.specs.declared.formats.Form.{Form}
use Rattle.pb_monitor.specs.declared.formats.Options.{Options}
use Rattle.pb_monitor.specs.declared.meanings.InitiatorTelegram.{InitiatorTelegram}
use Rattle.pb_monitor.specs.declared.meanings.Meaning.{Meaning}
use Rattle.pb_monitor.specs.declared.meanings.Meaning.TheVariants as meaning
use Rattle.pb_monitor.specs.declared.orders.Wrong.{Wrong}
use Rattle.pb_monitor.specs.declared.reports.Raised.{Raised}
use Rattle.pb_monitor.specs.declared.states.State.{State}

-- whether bursts have lines: neither a summary alone is wanted, nor that bursts are handed on
abbrev pub has_lines : Options → (handed_on : Bool) → Bool
has_lines o handed_on = not (is_some o.summary) && not handed_on

-- ---- a burst with moments

-- the judge of a burst that begins at a moment: where there is none, and the parameters are known, it listens since then
abbrev pub judge_from : Option Params → Options → (begin : ℕ) → Option Judging → Option Judging
judge_from p o begin (Some j) = Some j
judge_from None o begin None = None
judge_from (Some p) o begin None =
    Some (record { params = p; slack = o.slack; classes = o.classes; since = begin; state = listening begin })

-- what is known of the last token or request by order alone: nothing, once a judge listens
abbrev pub last_from : Option Params → Option Judging → Option InitiatorTelegram → Option InitiatorTelegram
last_from p (Some j) last = last
last_from None None last = last
last_from (Some p) None last = None

-- the judge behind a burst
abbrev pub judge_behind : Burst → Option Judging → Option Judging
judge_behind b None = None
judge_behind b (Some j) =
    Some (record j { state = behind_by j.params j.slack j.state b.begin b.end (meaning_of (arrival_in b.telegram)) })

-- an alarm of a token or a request, with what was known before it
abbrev pub raised_as : Alarm → Meaning → (before : State) → Option Raised
raised_as alarm (meaning.Initiator t) before = Some (record { alarm = alarm; telegram = t; before = before })
raised_as alarm meaning.Reply before = None
raised_as alarm meaning.NoTelegram before = None

abbrev pub raised_of : Option Alarm → Meaning → (before : State) → Option Raised
raised_of None m before = None
raised_of (Some alarm) m before = raised_as alarm m before

-- what a burst raises
abbrev pub raised_by : Burst → Option Judging → Option Raised
raised_by b None = None
raised_by b (Some j) =
    let m = meaning_of (arrival_in b.telegram) in
    raised_of (alarm_by j.params j.slack j.classes j.since j.state b.begin m) m j.state

-- the line of an alarm of a burst that begins at a moment
abbrev pub alarm_text : Option Params → (slack begin : ℕ) → Raised → List ℕ
alarm_text None slack begin r = []
alarm_text (Some p) slack begin r =
    alarm_head r.alarm (Some begin) r.telegram.source ++ why_text p slack r.before r.alarm begin r.telegram.source ++ codes "\n"

abbrev pub raised_text : Option Params → (slack begin : ℕ) → Option Raised → List ℕ
raised_text p slack begin None = []
raised_text p slack begin (Some r) = alarm_text p slack begin r

abbrev pub line_if : (has_line : Bool) → Burst → Option Judging → List ℕ
line_if has_line b judge = if has_line then burst_text b judge else []

-- A burst: its line, if bursts have lines, with the holder behind it, and what it raises. The judge has not heard it yet.
abbrev pub heard_text : Option Params → Options → (handed_on : Bool) → Burst → Option Judging → List ℕ
heard_text p o handed_on b judge =
    line_if (has_lines o handed_on) b (judge_behind b judge) ++ raised_text p o.slack b.begin (raised_by b judge)

-- what is known behind it
abbrev pub known_behind : Burst → Option Judging → Known → Known
known_behind b judge k = alarmed_if (is_some (raised_by b judge)) (heard b k)

-- the end of the last burst, if one that begins at a moment begins before it
abbrev pub overlapped : (quiet : Option ℕ) → (slack begin : ℕ) → Option ℕ
overlapped None slack begin = None
overlapped (Some quiet) slack begin = if nat_lt (begin + slack) quiet then Some quiet else None

-- the line of a burst that does
abbrev pub overlap_text : Form → (place begin : ℕ) → (over : Option ℕ) → List ℕ
overlap_text form place begin None = []
overlap_text form place begin (Some quiet) = order_refused_text form place begin quiet

-- no judge goes on behind it, and nothing is known from before it
abbrev pub judge_unless : (over : Option ℕ) → Option Judging → Option Judging
judge_unless None judge = judge
judge_unless (Some quiet) judge = None

abbrev pub last_unless : (over : Option ℕ) → Option InitiatorTelegram → Option InitiatorTelegram
last_unless None last = last
last_unless (Some quiet) last = None

abbrev pub known_unless : (over : Option ℕ) → Known → Known
known_unless None k = k
known_unless (Some quiet) k = refused (forgotten k)

-- the judge of any burst with moments
abbrev pub judge_for : Option Params → Options → (quiet : Option ℕ) → (begin : ℕ) → Option Judging → Option Judging
judge_for p o quiet begin judge = judge_from p o begin (judge_unless (overlapped quiet o.slack begin) judge)

-- the same of the last token or request
abbrev pub last_for : Option Params → Options → (quiet : Option ℕ) → (begin : ℕ) → Option Judging → Option InitiatorTelegram → Option InitiatorTelegram
last_for p o quiet begin judge last =
    let over = overlapped quiet o.slack begin in last_from p (judge_unless over judge) (last_unless over last)

-- Any burst with moments: first its line, if it overlaps the last one. Then it is heard as the first of all.
abbrev pub timed_text : Option Params → Options → (handed_on : Bool) → (place : ℕ) → (quiet : Option ℕ) → Burst → Option Judging → List ℕ
timed_text p o handed_on place quiet b judge =
    overlap_text o.form place b.begin (overlapped quiet o.slack b.begin) ++ heard_text p o handed_on b (judge_for p o quiet b.begin judge)

-- what is known behind it
abbrev pub known_timed : Option Params → Options → Burst → Option Judging → Known → Known
known_timed p o b judge k = known_behind b (judge_for p o k.quiet b.begin judge) (known_unless (overlapped k.quiet o.slack b.begin) k)

-- ---- a burst without moments

-- what is wrong by the order of telegrams alone, where that is judged
abbrev pub wrong_by_order : Option Params → Options → Option InitiatorTelegram → Meaning → Option Wrong
wrong_by_order p o last m = if is_some p && o.classes.legality then wrong_in last m else None

abbrev pub wrong_text : Option InitiatorTelegram → Option Wrong → List ℕ
wrong_text last None = []
wrong_text last (Some wrong) = alarm_head wrong.alarm None wrong.source ++ order_text last ++ codes "\n"

abbrev pub untimed_line_if : (has_line : Bool) → Burst → List ℕ
untimed_line_if has_line b = if has_line then untimed_text b else []

-- a burst, after the last token or request, if that is known
abbrev pub heard_untimed_text : Option Params → Options → (handed_on : Bool) → Burst → (last : Option InitiatorTelegram) → List ℕ
heard_untimed_text p o handed_on b last =
    untimed_line_if (has_lines o handed_on) b
    ++ wrong_text last (wrong_by_order p o last (meaning_of (arrival_in b.telegram)))

-- what is known behind it
abbrev pub known_untimed : Option Params → Options → Burst → (last : Option InitiatorTelegram) → Known → Known
known_untimed p o b last k =
    alarmed_if (is_some (wrong_by_order p o last (meaning_of (arrival_in b.telegram)))) (heard_untimed b k)

-- ---- raw octets

-- the line of octets that were skipped before an offset, if some were
abbrev pub skips_text : (offset skipped : ℕ) → List ℕ
skips_text offset skipped = if skipped == 0 then [] else skipped_text (offset - skipped) skipped

-- what is known behind them
abbrev pub known_past : (skipped : ℕ) → Known → Known
known_past skipped k = if skipped == 0 then k else refused (forgotten k)

-- the line of a telegram that is cut off at an offset
abbrev pub cut_line_if : (has_line : Bool) → (offset : ℕ) → Burst → List ℕ
cut_line_if has_line offset b = if has_line then cut_text offset b else []

-- such a telegram, behind octets that were skipped
abbrev pub cut_off_text : Options → (handed_on : Bool) → (offset skipped : ℕ) → Burst → List ℕ
cut_off_text o handed_on offset skipped b = skips_text offset skipped ++ cut_line_if (has_lines o handed_on) offset b
