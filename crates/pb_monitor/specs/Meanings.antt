-- What a whole telegram says of the token.
use Rattle.std.specs.Prelude.{ℕ, ◌%◌, Bool, true, false, if◌then◌else◌, ◌==◌, [], Result, Ok, Err}
use Rattle.pb_telegram.specs.declared.telegrams.Telegram.{Telegram}
use Rattle.pb_telegram.specs.declared.telegrams.Telegram.TheVariants as telegram
use Rattle.pb_telegram.specs.declared.faults.TelegramFault.{TelegramFault}
use Rattle.law_turn.specs.Arrivals.{Arrival, Token, Framed, Acknowledgement, NoTelegram}
use Rattle.law_runs.specs.Initiators.{initiates, offered_by}
use Rattle.pb_monitor.specs.declared.meanings.InitiatorTelegram.{InitiatorTelegram}
use Rattle.pb_monitor.specs.declared.meanings.Meaning.{Meaning}
use Rattle.pb_monitor.specs.declared.meanings.Meaning.TheVariants as meaning

-- the arrival of a telegram, or of none
abbrev pub arrival_in : Result Telegram TelegramFault → Arrival
arrival_in (Ok (telegram.Short t)) = Framed (record { da = t.da; sa = t.sa; fc = t.fc; unit = [] })
arrival_in (Ok (telegram.Var t)) = Framed (record { da = t.da; sa = t.sa; fc = t.fc; unit = t.unit.items })
arrival_in (Ok (telegram.Fixed8 t)) = Framed (record { da = t.da; sa = t.sa; fc = t.fc; unit = t.unit })
arrival_in (Ok (telegram.Token t)) = Token t.da t.sa
arrival_in (Ok telegram.Ack) = Acknowledgement
arrival_in (Err fault) = NoTelegram

-- the address of its source
abbrev pub source_of : Arrival → ℕ
source_of (Token da sa) = sa
source_of (Framed f) = f.sa % 128
source_of Acknowledgement = 0
source_of NoTelegram = 0

-- a token from a station to itself
abbrev pub is_claim_like : Arrival → Bool
is_claim_like (Token da sa) = da == sa
is_claim_like (Framed f) = false
is_claim_like Acknowledgement = false
is_claim_like NoTelegram = false

abbrev pub is_none : Arrival → Bool
is_none (Token da sa) = false
is_none (Framed f) = false
is_none Acknowledgement = false
is_none NoTelegram = true

-- what a token or request says of the token
abbrev pub initiator_of : Arrival → InitiatorTelegram
initiator_of a = record { source = source_of a; offered = offered_by a; is_claim = is_claim_like a }

abbrev pub meaning_of : Arrival → Meaning
meaning_of a = if initiates a then meaning.Initiator (initiator_of a) else if is_none a then meaning.NoTelegram else meaning.Reply
