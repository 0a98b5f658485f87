-- A monitor as C keeps it, and what calls at it answer and leave.
use Rattle.std.specs.Prelude.{◌≡◌, ℕ, min, Bool, true, false, not, ◌&&◌, ◌||◌, nat_lt, ◌==◌, List, [], ◌∷◌, ◌++◌, length, take, drop, Option, Some, None, is_some, ◌⊎◌, if◌then◌else◌}
use Rattle.pb_monitor.specs.declared.formats.Form.{Form}
use Rattle.pb_monitor.specs.declared.formats.Form.TheVariants.{Lines, Raw, Pcap}
use Rattle.pb_monitor.specs.declared.formats.Options.{Options}
use Rattle.pb_monitor.specs.declared.formats.SummaryForm.{SummaryForm}
use Rattle.pb_monitor.specs.declared.formats.SummaryForm.TheVariants.{Text, Json, Csv}
use Rattle.pb_monitor.specs.declared.monitors.Monitor.{Monitor}
use Rattle.pb_timers.specs.Timers.{Params}
use Rattle.pbfdl.specs.Calls.{params_code}
use Rattle.pbfdl.specs.declared.monitor_options.FdlMonitorOptions.{FdlMonitorOptions}

pub record Listened : Type 0 where
  pub monitor : Monitor
  pub owed : List ℕ  -- the text that it has appended and nobody has taken
  pub is_over : Bool  -- whether it hears nothing more

abbrev pub form_number : Form → ℕ
form_number Lines = 0
form_number Raw = 1
form_number Pcap = 2

-- 0: a line for each burst and a summary
abbrev pub summary_number : Option SummaryForm → ℕ
summary_number None = 0
summary_number (Some Text) = 1
summary_number (Some Json) = 2
summary_number (Some Csv) = 3

abbrev pub unless_zero : ℕ → Option ℕ
unless_zero n = if n == 0 then None else Some n

-- there is no such form of a capture or of a summary
abbrev pub is_bad_form : FdlMonitorOptions → Bool
is_bad_form options = nat_lt 2 options.form || nat_lt 3 options.summary

-- what C asks for
abbrev pub Asks : FdlMonitorOptions → Options → Type 0
Asks options wanted =
    (form_number wanted.form ≡ options.form)
    × (summary_number wanted.summary ≡ options.summary)
    × (wanted.classes ≡ record { legality = options.legality; loss = options.loss; timing = options.timing })
    × (wanted.every ≡ unless_zero options.every)
    × (wanted.baud ≡ unless_zero options.baud)
    × (wanted.slack ≡ options.slack)

-- why there is no new monitor, memory apart: the codes in their order
abbrev pub monitor_codes : Option Listened → FdlMonitorOptions → Params → List (Bool × ℕ)
monitor_codes there options p =
    (is_some there, 92)
    ∷ (is_bad_form options, 93)
    ∷ (options.judges && not (params_code p == 0), params_code p)
    ∷ []

-- a new monitor owes nothing and hears; or there is none, since memory was refused
abbrev pub MakesMonitor : ℕ → Option Listened → Type 0
MakesMonitor code None = code ≡ 63
MakesMonitor code (Some m) = (code ≡ 0) × (m.owed ≡ []) × (m.is_over ≡ false)

-- a call that finds no monitor
abbrev pub FindsNoMonitor : ℕ → Option Listened → Type 0
FindsNoMonitor code new = (code ≡ 91) × (new ≡ None)

-- text is appended to what is owed; or memory is refused, and it hears nothing more
abbrev pub Appends : Listened → Bool → ℕ → Listened → Type 0
Appends m ends code next =
    ((code ≡ 0) × ((said : List ℕ) × (next.owed ≡ m.owed ++ said)) × (next.is_over ≡ ends))
    ⊎ ((code ≡ 63) × (next.owed ≡ m.owed) × (next.is_over ≡ true))

-- it hears more of the capture, or its end; where it hears nothing more, the call is refused
abbrev pub Hears : Listened → Bool → ℕ → Listened → Type 0
Hears m ends code next = (m.is_over ≡ true → (code ≡ 94) × (next ≡ m)) × (m.is_over ≡ false → Appends m ends code next)

-- how many octets of what is owed go into some room
abbrev pub taken_of : Listened → ℕ → ℕ
taken_of m room = min room (length m.owed)

-- what is left once so many octets of it are taken
abbrev pub without : Listened → ℕ → Listened
without m count = record m { owed = drop count m.owed }

-- the room after it: the first octets that are owed, and behind them what was there
abbrev pub filled : Listened → List ℕ → List ℕ
filled m room = take (taken_of m (length room)) m.owed ++ drop (taken_of m (length room)) room
