-- What exports say of a burst of a capture, whatever their form.
use Rattle.std.specs.Prelude.{ℕ, Bool, List, [], ◌∷◌, ◌++◌, codes, decimal, Option, Some, None}
use Rattle.pb_telegram.specs.declared.chars.RxChar.{RxChar}
use Rattle.pb_telegram.specs.declared.chars.RxChar.TheVariants.{Good, Bad}
use Rattle.law_turn.specs.Arrivals.{arrival_of}
use Rattle.pb_monitor.specs.declared.heard_bursts.HeardBurst.{HeardBurst}
use Rattle.pb_monitor.specs.Meanings.{is_none}

-- its characters spell no telegram
abbrev pub is_damaged : HeardBurst → Bool
is_damaged b = is_none (arrival_of b.chars.items)

-- the octets before the first damaged character
abbrev pub known_octets : List RxChar → List ℕ
known_octets [] = []
known_octets (Good octet ∷ chars) = octet ∷ known_octets chars
known_octets (Bad ∷ chars) = []
