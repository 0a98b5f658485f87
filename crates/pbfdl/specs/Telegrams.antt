-- The telegram that C gives or gets, and its octets.
use Rattle.std.specs.Prelude.{◌≡◌, ℕ, Bool, nat_lt, ◌==◌, ◌||◌, if◌then◌else◌, List, [], ◌∷◌, ◌++◌, length, take}
use Rattle.pb_telegram.specs.declared.chars.RxChar.{RxChar}
use Rattle.pb_telegram.specs.declared.telegrams.Telegram.{Telegram}
use Rattle.pb_telegram.specs.declared.telegrams.Telegram.TheVariants.{Short, Var, Fixed8, Token, Ack}
use Rattle.pb_telegram.specs.Grammar.{sd1, sd2, sd3, sd4, sc, ed, fcs_of, length_of, Spells}
use Rattle.pbfdl.specs.declared.telegrams.FdlTelegram.{FdlTelegram}

-- the data of a telegram
abbrev pub unit_of : FdlTelegram → List ℕ
unit_of t = take t.count t.unit

-- there is no such kind, or more data than there is room for
abbrev pub is_no_kind : FdlTelegram → Bool
is_no_kind t = t.kind == 0 || nat_lt 5 t.kind || nat_lt 246 t.count

-- its octets; where they spell no telegram, it is none
abbrev pub octets_of : FdlTelegram → List ℕ
octets_of t =
    if t.kind == 1 then sd1 ∷ t.da ∷ t.sa ∷ t.fc ∷ fcs_of t.da t.sa t.fc [] ∷ ed ∷ []
    else if t.kind == 2 then sd2 ∷ length_of (unit_of t) ∷ length_of (unit_of t) ∷ sd2 ∷ t.da ∷ t.sa ∷ t.fc
    ∷ (unit_of t ++ fcs_of t.da t.sa t.fc (unit_of t) ∷ ed ∷ [])
    else if t.kind == 3 then sd3 ∷ t.da ∷ t.sa ∷ t.fc ∷ (unit_of t ++ fcs_of t.da t.sa t.fc (unit_of t) ∷ ed ∷ [])
    else if t.kind == 4 then sd4 ∷ t.da ∷ t.sa ∷ []
    else sc ∷ []

-- what is told of a telegram: the number of its kind, and its fields; 0 and no data where its kind has none
abbrev pub TellsFields : FdlTelegram → (kind da sa fc : ℕ) (unit : List ℕ) → Type 0
TellsFields told kind da sa fc unit = (told.kind ≡ kind) × (told.da ≡ da) × (told.sa ≡ sa) × (told.fc ≡ fc)
    × (told.count ≡ length unit) × (unit_of told ≡ unit)

abbrev pub TellsTelegram : FdlTelegram → Telegram → Type 0
TellsTelegram told (Short t) = TellsFields told 1 t.da t.sa t.fc []
TellsTelegram told (Var t) = TellsFields told 2 t.da t.sa t.fc t.unit.items
TellsTelegram told (Fixed8 t) = TellsFields told 3 t.da t.sa t.fc t.unit
TellsTelegram told (Token t) = TellsFields told 4 t.da t.sa 0 []
TellsTelegram told Ack = TellsFields told 5 0 0 0 []

-- the telegram that characters spell
abbrev pub TellsSpelled : FdlTelegram → List RxChar → Type 0
TellsSpelled told chars = (t : Telegram) × Spells chars t × TellsTelegram told t
