-- What a monitor makes of a burst, by what it keeps of those before it.
use Rattle.std.specs.Prelude.{◌≡◌, ℕ, Bool, List, [], map, take, Option, Some, None, Result, Ok, Err}
use Rattle.pb_telegram.specs.Faults.{fault_of}
use Rattle.pb_telegram.specs.Grammar.{Spells}
use Rattle.pb_telegram.specs.Receiving.{Received, StandsFor}
use Rattle.pb_telegram.specs.declared.chars.RxChar.{RxChar}
use Rattle.pb_telegram.specs.declared.chars.RxChar.TheVariants.{Good}
use Rattle.pb_telegram.specs.declared.telegrams.Telegram.{Telegram}
use Rattle.pb_telegram.specs.declared.faults.TelegramFault.{TelegramFault}
use Rattle.pb_timers.specs.Timers.{Params}
use Rattle.pb_monitor.specs.Hearing.{heard_untimed_text, judge_behind, judge_for, known_timed, known_untimed, last_for, timed_text}
use Rattle.pb_monitor.specs.Judging.{Judging}
use Rattle.pb_monitor.specs.Known.{Known, forgotten, plus, refused}
use Rattle.pb_monitor.specs.Meanings.{arrival_in, meaning_of}
use Rattle.pb_monitor.specs.Orders.{last_in}
use Rattle.pb_monitor.specs.Times.{bits_of_characters}
use Rattle.pb_monitor.specs.declared.bursts.Burst.{Burst}
use Rattle.pb_monitor.specs.declared.formats.Options.{Options}
use Rattle.pb_monitor.specs.declared.lines.Characters.{Characters}
use Rattle.pb_monitor.specs.declared.lines.Characters.TheVariants.{Octets, Fed}
use Rattle.pb_monitor.specs.declared.lines.Told.{Told}
use Rattle.pb_monitor.specs.declared.lines.Told.TheVariants as line
use Rattle.pb_monitor.specs.declared.lines.When.{When}
use Rattle.pb_monitor.specs.declared.lines.When.TheVariants.{Within, From, Unknown}
use Rattle.pb_monitor.specs.declared.meanings.InitiatorTelegram.{InitiatorTelegram}
use Rattle.pb_monitor.specs.declared.monitors.Monitor.{Monitor}

-- what a monitor is asked for, and whether bursts are handed on
pub record Setting : Type 0 where
  pub params : Option Params
  pub options : Options
  pub handed_on : Bool

-- What it keeps of a capture: how many lines or packets came, the judge, the last token or request by order alone, and what
-- is known of the bus.
pub record Heard : Type 0 where
  pub place : ℕ
  pub judge : Option Judging
  pub last : Option InitiatorTelegram
  pub known : Known

abbrev pub setting_of : Monitor → Setting
setting_of m = record { params = m.params; options = m.options; handed_on = m.kept.is_wanted }

abbrev pub heard_of : Monitor → Heard
heard_of m = record { place = m.place; judge = m.judge; last = m.order.last; known = m.statistics }

-- characters are read as the telegram that they spell, or as their first fault
abbrev pub IsReadAs : List RxChar → Result Telegram TelegramFault → Type 0
IsReadAs chars (Ok t) = Spells chars t
IsReadAs chars (Err fault) = fault_of chars ≡ Some fault

-- a burst of so many characters, with the moments that the capture gives; 0 where it gives none
abbrev pub burst_of : When → (count : ℕ) → Result Telegram TelegramFault → Burst
burst_of (Within begin end) count r = record { begin = begin; end = end; telegram = r }
burst_of (From begin) count r = record { begin = begin; end = plus begin (bits_of_characters count); telegram = r }
burst_of Unknown count r = record { begin = 0; end = 0; telegram = r }

abbrev pub told_timed : Setting → Heard → Burst → List ℕ
told_timed s h b = timed_text s.params s.options s.handed_on h.place h.known.quiet b h.judge

-- what a burst appends
abbrev pub told : Setting → Heard → When → Burst → List ℕ
told s h (Within begin end) b = told_timed s h b
told s h (From begin) b = told_timed s h b
told s h Unknown b = heard_untimed_text s.params s.options s.handed_on b h.last

abbrev pub behind_timed : Setting → Burst → Heard → Heard
behind_timed s b h = record h {
  judge = judge_behind b (judge_for s.params s.options h.known.quiet b.begin h.judge);
  last = last_for s.params s.options h.known.quiet b.begin h.judge h.last;
  known = known_timed s.params s.options b h.judge h.known;
}

abbrev pub behind_untimed : Setting → Burst → Heard → Heard
behind_untimed s b h = record h {
  judge = None;
  last = last_in h.last (meaning_of (arrival_in b.telegram));
  known = known_untimed s.params s.options b h.last h.known;
}

-- what is kept behind it
abbrev pub behind : Setting → When → Burst → Heard → Heard
behind s (Within begin end) b h = behind_timed s b h
behind s (From begin) b h = behind_timed s b h
behind s Unknown b h = behind_untimed s b h

-- ---- a line

-- one more line has come
abbrev pub one_line_more : Heard → Heard
one_line_more h = record h { place = plus h.place 1 }

-- the characters of its burst: undamaged octets in a room, or those that a receiver was fed
abbrev pub AreCharacters : Characters → (room : List ℕ) → Received → List RxChar → Type 0
AreCharacters (Octets count) room receiver chars = chars ≡ map Good (take count room)
AreCharacters Fed room receiver chars = StandsFor receiver chars

abbrev pub AreSaid : Told → (room : List ℕ) → Received → List RxChar → Type 0
AreSaid (line.Burst when characters) room receiver chars = AreCharacters characters room receiver chars
AreSaid line.Nothing room receiver chars = Unit {0}
AreSaid line.Gap room receiver chars = Unit {0}
AreSaid line.Refused room receiver chars = Unit {0}

-- what a line appends, of a burst of so many characters that are read so, if it gives one; why it is refused is told before
abbrev pub line_told : Setting → Heard → Told → (count : ℕ) → Result Telegram TelegramFault → List ℕ
line_told s h (line.Burst when characters) count r = told s h when (burst_of when count r)
line_told s h line.Nothing count r = []
line_told s h line.Gap count r = []
line_told s h line.Refused count r = []

-- the judge begins anew
abbrev pub anew : Known → Heard → Heard
anew k h = record h { judge = None; last = None; known = k }

-- what is kept behind a line
abbrev pub behind_line : Setting → Told → (count : ℕ) → Result Telegram TelegramFault → Heard → Heard
behind_line s (line.Burst when characters) count r h = behind s when (burst_of when count r) h
behind_line s line.Nothing count r h = h
behind_line s line.Gap count r h = anew (forgotten h.known) h
behind_line s line.Refused count r h = anew (refused (forgotten h.known)) h
