-- What a call at a port answers and leaves.
use Rattle.std.specs.Prelude.{◌≡◌, ℕ, Bool, true, not, ◌||◌, if◌then◌else◌, nat_lt, ◌==◌, List, [], ◌∷◌, Option, Some, None, is_some}
use Rattle.pb_faults.specs.FirstFault.{first_fault}
use Rattle.pb_telegram.specs.declared.chars.RxChar.{RxChar}
use Rattle.pb_telegram.specs.declared.chars.RxChar.TheVariants.{Good, Bad}
use Rattle.pb_cycles.specs.RequestFields.{RequestFields}
use Rattle.pb_cycles.specs.Requests.{may_go_to}
use Rattle.pb_cycles.specs.declared.services.Service.{Service}
use Rattle.pb_cycles.specs.declared.services.Service.TheVariants.{Sda, Sdn, Srd}
use Rattle.pb_timers.specs.Timers.{Params}
use Rattle.pb_timers.specs.ParamRules.{param_faults}
use Rattle.pb_port.specs.declared.faults.PortFault.{PortFault}
use Rattle.pb_port.specs.Ports.{PortView}
use Rattle.pbfdl.specs.Codes.{code_unless, param_code, port_code}
use Rattle.pbfdl.specs.declared.params.FdlParams.{FdlParams}

-- the parameters that C gives
abbrev pub params_of : FdlParams → Params
params_of p = record {
  tsl = p.tsl;
  tid1 = p.tid1;
  tid2 = p.tid2;
  tsdr = p.tsdr;
  lag = p.lag;
  ttr = p.ttr;
  gap = p.gap;
  hsa = p.hsa;
  retries = p.retries;
  ttd = p.ttd;
}

-- the code of parameters
abbrev pub params_code : Params → ℕ
params_code p = code_unless param_code (first_fault (param_faults p))

-- a port after a call with a fault, if it has one
abbrev pub port_unless : Option PortFault → PortView → PortView → PortView
port_unless None old does = does
port_unless (Some fault) old does = old

-- a call answers the code of the first of some faults, and changes nothing then; where none applies, it does what it does
abbrev pub Answers : PortView → List (Bool × PortFault) → PortView → ℕ → Option PortView → Type 0
Answers old faults does code new =
    (code ≡ code_unless port_code (first_fault faults))
    × (new ≡ Some (port_unless (first_fault faults) old does))

-- a call that finds no port
abbrev pub FindsNone : ℕ → Option PortView → Type 0
FindsNone code new = (code ≡ 61) × (new ≡ None)

-- the address of a new station: a master's is at most the highest of the bus
abbrev pub is_bad_station : Params → Bool → ℕ → Bool
is_bad_station p master address = nat_lt (if master then p.hsa else 126) address

-- the character that C gives as a word: below 256 a good octet, and else damaged
abbrev pub character_of : ℕ → RxChar
character_of word = if nat_lt word 256 then Good word else Bad

-- the services by number
abbrev pub service_of : ℕ → Option Service
service_of number = if number == 0 then Some Sda else if number == 1 then Some Sdn else if number == 2 then Some Srd else None

-- the room of a new port: 2 to 64 unread marks
abbrev pub is_bad_room : ℕ → Bool
is_bad_room room = nat_lt room 2 || nat_lt 64 room

-- why a new station is refused: the codes in their order, of parameters, an address and data of some length
abbrev pub station_codes : Params → Bool → ℕ → ℕ → List (Bool × ℕ)
station_codes p master address octets =
    (not (params_code p == 0), params_code p)
    ∷ (is_bad_station p master address, 64)
    ∷ (nat_lt 246 octets, 66)
    ∷ []

-- why a new port is refused, memory apart: of its handle, and its station; where it has a room, of that too
abbrev pub new_codes : Option PortView → Params → Bool → ℕ → ℕ → List (Bool × ℕ)
new_codes there p master address octets = (is_some there, 62) ∷ station_codes p master address octets

abbrev pub room_codes : Option PortView → ℕ → Params → Bool → ℕ → ℕ → List (Bool × ℕ)
room_codes there room p master address octets =
    (is_some there, 62) ∷ (is_bad_room room, 70) ∷ station_codes p master address octets

-- why a request is refused, of an address, a service and data of some length
abbrev pub request_codes : ℕ → Option Service → ℕ → List (Bool × ℕ)
request_codes da None octets = (true, 65) ∷ []
request_codes da (Some service) octets = (nat_lt 246 octets, 66) ∷ (not (may_go_to service da), 64) ∷ []

abbrev pub request_fields : ℕ → Service → Bool → List ℕ → RequestFields
request_fields da service high unit = record { da = da; service = service; high = high; unit = unit }
