-- The contents of telegrams, apart from their form.
use Rattle.std.specs.Prelude.{ℕ, ◌+◌, slice_index, ◌==◌, ◌%◌, ◌^◌, Bool, not, if◌then◌else◌, List, [], ◌∷◌, ◌++◌, length, bit_and}
use Rattle.pb_telegram.specs.Grammar.{sd1, sd2, sd3, sc, ed, fcs_of, length_of}
use Rattle.pb_telegram.specs.Faults.{is_ack, is_token, da_place, unit_of}
use Rattle.pb_telegram.specs.declared.telegrams.Telegram.{Telegram}
use Rattle.pb_telegram.specs.declared.telegrams.Telegram.TheVariants.{Short, Var, Fixed8, Token, Ack}
use Rattle.pb_cycles.specs.Fields.{Fields}
use Rattle.pb_cycles.specs.declared.messages.Message.{Message}
use Rattle.pb_cycles.specs.declared.messages.Message.TheVariants.{Framed, Acknowledgement, TokenPass}
use Rattle.pb_cycles.specs.declared.messages.Reply.{Reply}
use Rattle.pb_cycles.specs.declared.messages.Reply.TheVariants.{Answer, Acknowledge}

-- the content of a telegram
abbrev pub message_of : Telegram → Message
message_of (Short t) = Framed (record { da = t.da; sa = t.sa; fc = t.fc; unit = [] })
message_of (Var t) = Framed (record { da = t.da; sa = t.sa; fc = t.fc; unit = t.unit.items })
message_of (Fixed8 t) = Framed (record { da = t.da; sa = t.sa; fc = t.fc; unit = t.unit })
message_of (Token t) = TokenPass
message_of Ack = Acknowledgement

-- the content of the octets of a telegram
abbrev pub message_in : List ℕ → Message
message_in xs =
    if is_ack xs then Acknowledgement
    else if is_token xs then TokenPass
    else Framed (record { da = slice_index xs (da_place xs); sa = slice_index xs (da_place xs + 1); fc = slice_index xs (da_place xs + 2); unit = unit_of xs })

-- the octets of a telegram with a control octet; the number of octets of data decides its form
abbrev pub frame_octets : Fields → List ℕ
frame_octets f =
    if length f.unit == 0 then sd1 ∷ f.da ∷ f.sa ∷ f.fc ∷ fcs_of f.da f.sa f.fc [] ∷ ed ∷ []
    else if length f.unit == 8 then sd3 ∷ f.da ∷ f.sa ∷ f.fc ∷ (f.unit ++ fcs_of f.da f.sa f.fc f.unit ∷ ed ∷ [])
    else sd2 ∷ length_of f.unit ∷ length_of f.unit ∷ sd2 ∷ f.da ∷ f.sa ∷ f.fc ∷ (f.unit ++ fcs_of f.da f.sa f.fc f.unit ∷ ed ∷ [])

-- the octets of a reply
abbrev pub reply_octets : Reply → List ℕ
reply_octets (Answer f) = frame_octets f
reply_octets Acknowledge = sc ∷ []

-- the content of a reply
abbrev pub heard_as : Reply → Message
heard_as (Answer f) = Framed f
heard_as Acknowledge = Acknowledgement

-- bit k of an octet is 1
abbrev pub has_bit : ℕ → ℕ → Bool
has_bit octet k = not (bit_and octet (2 ^ k) == 0)

-- the address in an address octet; bit 7 announces an address extension at the front of the unit
abbrev pub address_in : ℕ → ℕ
address_in octet = octet % 128
