-- Which telegrams only the station with the token may send.
use Rattle.std.specs.Prelude.{IsBitSet}
use Rattle.pb_telegram.specs.declared.telegrams.Telegram.{Telegram}
use Rattle.pb_telegram.specs.declared.telegrams.Telegram.TheVariants.{Short, Var, Fixed8, Token, Ack}

-- a token, or a request: bit 6 of its frame control octet is set
abbrev pub IsInitiator : Telegram → Type 0
IsInitiator (Short t) = IsBitSet t.fc 6
IsInitiator (Var t) = IsBitSet t.fc 6
IsInitiator (Fixed8 t) = IsBitSet t.fc 6
IsInitiator (Token t) = Unit {0}
IsInitiator Ack = ⊥
