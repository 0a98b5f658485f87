-- Which requests are valid, and the function codes of their control octets.
use Rattle.std.specs.Prelude.{ℕ, ◌+◌, ◌≤◌, ◌==◌, nat_lt, Bool, true, false, ◌&&◌, ◌||◌, not, if◌then◌else◌, List, [], ◌∷◌}
use Rattle.pb_cycles.specs.Fields.{Fields}
use Rattle.pb_cycles.specs.RequestFields.{RequestFields}
use Rattle.pb_cycles.specs.declared.services.Service.{Service}
use Rattle.pb_cycles.specs.declared.services.Service.TheVariants.{Sda, Sdn, Srd}
use Rattle.pb_cycles.specs.declared.services.Priority.{Priority}
use Rattle.pb_cycles.specs.declared.services.Priority.TheVariants.{Low, High}
use Rattle.pb_cycles.specs.declared.services.Asked.{Asked}
use Rattle.pb_cycles.specs.declared.services.Asked.TheVariants.{Send, Status, Unknown}
use Rattle.pb_cycles.specs.declared.requests.RequestFault.{RequestFault}
use Rattle.pb_cycles.specs.declared.requests.RequestFault.TheVariants.{BadAddress}

-- the service is answered, by an acknowledgement or by data
abbrev pub is_answered : Service → Bool
is_answered Sda = true
is_answered Sdn = false
is_answered Srd = true

-- a request of the service may go to an address: a station's, or 127 (all stations) if the service is not answered
abbrev pub may_go_to : Service → ℕ → Bool
may_go_to service address = nat_lt address 127 || (address == 127 && not (is_answered service))

-- the faults of a new request
abbrev pub request_faults : ℕ → Service → List (Bool × RequestFault)
request_faults da service = (not (may_go_to service da), BadAddress) ∷ []

-- the invariant of a request: a service that is answered goes to a station
abbrev pub IsAddressed : ℕ → Service → Type 0
IsAddressed da Sda = da ≤ 126
IsAddressed da Sdn = da ≤ 127
IsAddressed da Srd = da ≤ 126

abbrev pub is_high : Priority → Bool
is_high Low = false
is_high High = true

abbrev pub priority_of : Bool → Priority
priority_of high = if high then High else Low

-- the function code of a service with a priority
abbrev pub code_of : Service → Priority → ℕ
code_of Sda priority = if is_high priority then 5 else 3
code_of Sdn priority = if is_high priority then 6 else 4
code_of Srd priority = if is_high priority then 13 else 12

-- what the function code of a request asks for
abbrev pub asked_by : ℕ → Asked
asked_by code =
    if code == 3 then Send Sda Low
    else if code == 4 then Send Sdn Low
    else if code == 5 then Send Sda High
    else if code == 6 then Send Sdn High
    else if code == 9 then Status
    else if code == 12 then Send Srd Low
    else if code == 13 then Send Srd High
    else Unknown

-- the telegram of a request from the station ts, with the frame count bits as bits 5 and 4
abbrev pub request_frame : ℕ → RequestFields → ℕ → Fields
request_frame ts r bits = record { da = r.da; sa = ts; fc = 0x40 + bits + code_of r.service (priority_of r.high); unit = r.unit }
