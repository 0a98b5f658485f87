-- Which octets spell which telegram.
use Rattle.std.specs.Prelude.{◌≡◌, ℕ, ◌+◌, ◌%◌, List, [], ◌∷◌, ◌++◌, length, map, sum}
use Rattle.pb_telegram.specs.declared.chars.RxChar.{RxChar}
use Rattle.pb_telegram.specs.declared.chars.RxChar.TheVariants.{Good}
use Rattle.pb_telegram.specs.declared.telegrams.Telegram.{Telegram}
use Rattle.pb_telegram.specs.declared.telegrams.Telegram.TheVariants.{Short, Var, Fixed8, Token, Ack}

-- the start delimiters: of a telegram without data, with data of variable length, with data of fixed length, and of a
-- token; the short acknowledgement; and the end delimiter
abbrev pub sd1 : ℕ
sd1 = 0x10

abbrev pub sd2 : ℕ
sd2 = 0x68

abbrev pub sd3 : ℕ
sd3 = 0xa2

abbrev pub sd4 : ℕ
sd4 = 0xdc

abbrev pub sc : ℕ
sc = 0xe5

abbrev pub ed : ℕ
ed = 0x16

-- the check octet: the sum modulo 256 of the octets from the destination address to the last of the unit
abbrev pub fcs_of : ℕ → ℕ → ℕ → List ℕ → ℕ
fcs_of da sa fc unit = (da + sa + fc + sum unit) % 256

-- the length octet: how many octets there are from the destination address to the last of the unit
abbrev pub length_of : List ℕ → ℕ
length_of unit = length unit + 3

-- the octets of a telegram
abbrev pub spelling : Telegram → List ℕ
spelling (Short t) = sd1 ∷ t.da ∷ t.sa ∷ t.fc ∷ fcs_of t.da t.sa t.fc [] ∷ ed ∷ []
spelling (Var t) = sd2 ∷ length_of t.unit.items ∷ length_of t.unit.items ∷ sd2 ∷ t.da ∷ t.sa ∷ t.fc
    ∷ (t.unit.items ++ fcs_of t.da t.sa t.fc t.unit.items ∷ ed ∷ [])
spelling (Fixed8 t) = sd3 ∷ t.da ∷ t.sa ∷ t.fc ∷ (t.unit ++ fcs_of t.da t.sa t.fc t.unit ∷ ed ∷ [])
spelling (Token t) = sd4 ∷ t.da ∷ t.sa ∷ []
spelling Ack = sc ∷ []

-- every character is good, and the octets are those of the telegram
abbrev pub Spells : List RxChar → Telegram → Type 0
Spells chars t = chars ≡ map Good (spelling t)
