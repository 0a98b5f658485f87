-- The text of a telegram and of a fault.
use Rattle.std.specs.Prelude.{ℕ, ◌%◌, nat_le, if◌then◌else◌, List, [], ◌∷◌, ◌++◌, codes, decimal}
use Rattle.hex.specs.Hex.{encode_lower}
use Rattle.pb_telegram.specs.FaultWords.{number_of, name_of}
use Rattle.pb_telegram.specs.declared.telegrams.Telegram.{Telegram}
use Rattle.pb_telegram.specs.declared.telegrams.Telegram.TheVariants.{Short, Var, Fixed8, Token, Ack}
use Rattle.pb_telegram.specs.declared.faults.TelegramFault.{TelegramFault}
use Rattle.pb_telegram.specs.declared.faults.TelegramFault.TheVariants.{Faulty}

-- an address, with a plus sign if bit 7 of its octet is set
abbrev pub address_text : ℕ → List ℕ
address_text octet = decimal (octet % 128) ++ (if nat_le 128 octet then codes "+" else [])

abbrev pub addresses_text : ℕ → ℕ → List ℕ
addresses_text da sa = codes " da=" ++ address_text da ++ codes " sa=" ++ address_text sa

abbrev pub token_text : ℕ → ℕ → List ℕ
token_text da sa = codes "token" ++ addresses_text da sa

abbrev pub head_text : ℕ → ℕ → ℕ → List ℕ
head_text da sa fc = addresses_text da sa ++ codes " fc=" ++ encode_lower (fc ∷ [])

abbrev pub data_text : ℕ → ℕ → ℕ → List ℕ → List ℕ
data_text da sa fc unit = head_text da sa fc ++ codes " unit=" ++ encode_lower unit

abbrev pub short_text : ℕ → ℕ → ℕ → List ℕ
short_text da sa fc = codes "short" ++ head_text da sa fc

abbrev pub var_text : ℕ → ℕ → ℕ → List ℕ → List ℕ
var_text da sa fc unit = codes "var" ++ data_text da sa fc unit

abbrev pub fixed_text : ℕ → ℕ → ℕ → List ℕ → List ℕ
fixed_text da sa fc unit = codes "fixed" ++ data_text da sa fc unit

abbrev pub telegram_text : Telegram → List ℕ
telegram_text (Short t) = short_text t.da t.sa t.fc
telegram_text (Var t) = var_text t.da t.sa t.fc t.unit.items
telegram_text (Fixed8 t) = fixed_text t.da t.sa t.fc t.unit
telegram_text (Token t) = token_text t.da t.sa
telegram_text Ack = codes "ack"

-- the index of the damaged character, after the fault's name
abbrev pub place_text : TelegramFault → List ℕ
place_text (Faulty place) = codes " " ++ decimal place
place_text fault = []

abbrev pub fault_text : TelegramFault → List ℕ
fault_text fault = codes "fault " ++ decimal (number_of fault) ++ codes " " ++ name_of fault ++ place_text fault
