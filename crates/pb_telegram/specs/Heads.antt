-- What the telegrams with a control octet have in common, whatever their form.
use Rattle.std.specs.Prelude.{ℕ, List, [], Option, Some, None}
use Rattle.pb_telegram.specs.declared.heads.Head.{Head}
use Rattle.pb_telegram.specs.declared.telegrams.Telegram.{Telegram}
use Rattle.pb_telegram.specs.declared.telegrams.Telegram.TheVariants as telegram

-- the addresses and the control octet; a token and the short acknowledgement have no control octet
abbrev pub head_of : Telegram → Option Head
head_of (telegram.Short t) = Some (record { da = t.da; sa = t.sa; fc = t.fc })
head_of (telegram.Var t) = Some (record { da = t.da; sa = t.sa; fc = t.fc })
head_of (telegram.Fixed8 t) = Some (record { da = t.da; sa = t.sa; fc = t.fc })
head_of (telegram.Token t) = None
head_of telegram.Ack = None

-- the data, if there is any
abbrev pub unit_of : Telegram → List ℕ
unit_of (telegram.Short t) = []
unit_of (telegram.Var t) = t.unit.items
unit_of (telegram.Fixed8 t) = t.unit
unit_of (telegram.Token t) = []
unit_of telegram.Ack = []
