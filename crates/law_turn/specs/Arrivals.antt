-- What the characters of a burst bring to a station.
use Rattle.std.specs.Prelude.{ℕ, ◌+◌, if◌then◌else◌, List, slice_index, Option, Some, None}
use Rattle.pb_telegram.specs.Faults.{octets, is_token, has_control, da_place, unit_of, fault_of}
use Rattle.pb_telegram.specs.declared.chars.RxChar.{RxChar}
use Rattle.pb_telegram.specs.declared.faults.TelegramFault.{TelegramFault}
use Rattle.pb_cycles.specs.Fields.{Fields}

-- a token telegram, a request or a reply with a control octet, the acknowledgement, or no whole telegram
pub data Arrival : Type 0 where
  Token : (da sa : ℕ) → Arrival
  Framed : Fields → Arrival
  Acknowledgement : Arrival
  NoTelegram : Arrival

-- the fields of octets that have a control octet
abbrev pub fields_of : List ℕ → Fields
fields_of xs = record {
  da = slice_index xs (da_place xs);
  sa = slice_index xs (da_place xs + 1);
  fc = slice_index xs (da_place xs + 2);
  unit = unit_of xs;
}

-- the arrival of octets without a fault
abbrev pub telegram_arrival : List ℕ → Arrival
telegram_arrival xs =
    if is_token xs then Token (slice_index xs 1) (slice_index xs 2)
    else if has_control xs then Framed (fields_of xs)
    else Acknowledgement

abbrev pub arrival_unless : Option TelegramFault → List ℕ → Arrival
arrival_unless (Some fault) xs = NoTelegram
arrival_unless None xs = telegram_arrival xs

abbrev pub arrival_of : List RxChar → Arrival
arrival_of chars = arrival_unless (fault_of chars) (octets chars)
