-- The arrival of a whole telegram, or of none.
use Rattle.std.specs.Prelude.{Bool, true, false, [], Option, Some, None}
use Rattle.pb_cycles.specs.Messages.{has_bit}
use Rattle.pb_telegram.specs.declared.telegrams.Telegram.{Telegram}
use Rattle.pb_telegram.specs.declared.telegrams.Telegram.TheVariants as telegram
use Rattle.law_turn.specs.Arrivals.{Arrival, Token, Framed, Acknowledgement, NoTelegram}

abbrev pub telegram_brings : Telegram → Arrival
telegram_brings (telegram.Short t) = Framed (record { da = t.da; sa = t.sa; fc = t.fc; unit = [] })
telegram_brings (telegram.Var t) = Framed (record { da = t.da; sa = t.sa; fc = t.fc; unit = t.unit.items })
telegram_brings (telegram.Fixed8 t) = Framed (record { da = t.da; sa = t.sa; fc = t.fc; unit = t.unit })
telegram_brings (telegram.Token t) = Token t.da t.sa
telegram_brings telegram.Ack = Acknowledgement

abbrev pub brings : Option Telegram → Arrival
brings None = NoTelegram
brings (Some t) = telegram_brings t

-- it has a control octet
abbrev pub is_framed : Telegram → Bool
is_framed (telegram.Short t) = true
is_framed (telegram.Var t) = true
is_framed (telegram.Fixed8 t) = true
is_framed (telegram.Token t) = false
is_framed telegram.Ack = false

-- a request: bit 6 of the control octet is set
abbrev pub is_request : Telegram → Bool
is_request (telegram.Short t) = has_bit t.fc 6
is_request (telegram.Var t) = has_bit t.fc 6
is_request (telegram.Fixed8 t) = has_bit t.fc 6
is_request (telegram.Token t) = false
is_request telegram.Ack = false

abbrev pub is_token : Telegram → Bool
is_token (telegram.Short t) = false
is_token (telegram.Var t) = false
is_token (telegram.Fixed8 t) = false
is_token (telegram.Token t) = true
is_token telegram.Ack = false
