-- The meaning of replies for the station that asked.
use Rattle.std.specs.Prelude.{ℕ, ◌%◌, ◌==◌, Bool, not, ◌&&◌, if◌then◌else◌, List, Option, Some, None}
use Rattle.pb_cycles.specs.Fields.{Fields}
use Rattle.pb_cycles.specs.Messages.{has_bit, address_in}
use Rattle.pb_cycles.specs.declared.messages.Message.{Message}
use Rattle.pb_cycles.specs.declared.messages.Message.TheVariants.{Framed, Acknowledgement, TokenPass}
use Rattle.pb_cycles.specs.declared.outcomes.Outcome.{Outcome}
use Rattle.pb_cycles.specs.declared.outcomes.Outcome.TheVariants.{Acked, Data, NoResource}

-- the meaning of a reply's function code, with the data of the reply; none for an unknown code
abbrev pub code_outcome : ℕ → List ℕ → Option Outcome
code_outcome code unit =
    if code == 0 then Some Acked
    else if code == 1 then Some NoResource
    else if code == 2 then Some NoResource
    else if code == 3 then Some NoResource
    else if code == 8 then Some (Data (record { items = unit }))
    else if code == 9 then Some Acked
    else if code == 10 then Some (Data (record { items = unit }))
    else if code == 12 then Some (Data (record { items = unit }))
    else if code == 13 then Some (Data (record { items = unit }))
    else None

-- a reply telegram from the station d to the station ts
abbrev pub is_reply_between : ℕ → ℕ → Fields → Bool
is_reply_between ts d f = not (has_bit f.fc 6) && (address_in f.da == ts && address_in f.sa == d)

-- the outcome of an SDA or SRD from ts to d, if the message is a reply to it
abbrev pub reply_outcome : ℕ → ℕ → Message → Option Outcome
reply_outcome ts d (Framed f) = if is_reply_between ts d f then code_outcome (f.fc % 16) f.unit else None
reply_outcome ts d Acknowledgement = Some Acked
reply_outcome ts d TokenPass = None

-- the control octet of a reply with a known code
abbrev pub known_control : ℕ → Option Outcome → Option ℕ
known_control fc (Some outcome) = Some fc
known_control fc None = None

-- the control octet of the reply to a status request from ts to d; an acknowledgement is no reply to it
abbrev pub status_reply : ℕ → ℕ → Message → Option ℕ
status_reply ts d (Framed f) = if is_reply_between ts d f then known_control f.fc (code_outcome (f.fc % 16) f.unit) else None
status_reply ts d Acknowledgement = None
status_reply ts d TokenPass = None
