-- Characters are read in one way.
use Rattle.std.proofs.Common.{◌≡◌, ℕ, List, map, ap, Some, Result, Ok, Err}
use Rattle.std.specs.Prelude.{IfOk, IfErr}
use Rattle.pb_telegram.specs.Faults.{fault_of}
use Rattle.pb_telegram.specs.Grammar.{spelling, Spells}
use Rattle.pb_telegram.specs.declared.chars.RxChar.{RxChar}
use Rattle.pb_telegram.specs.declared.chars.RxChar.TheVariants.{Good}
use Rattle.pb_telegram.specs.declared.telegrams.Telegram.{Telegram}
use Rattle.pb_telegram.specs.declared.faults.TelegramFault.{TelegramFault}
use Rattle.pb_telegram.proofs.OneTelegram.{one_telegram, spelled_is_fault_free}
use Rattle.pb_monitor.specs.Listening.{IsReadAs}

one_way : (chars : List RxChar) (s r : Result Telegram TelegramFault) → IsReadAs chars s → IsReadAs chars r → s ≡ r
one_way chars (Ok t) (Ok u) s r = ap Ok (one_telegram chars t u s r)
one_way chars (Ok t) (Err f) s r = let none = spelled_is_fault_free chars t s in let some : fault_of chars ≡ Some f = r in cc
one_way chars (Err f) (Ok u) s r = let none = spelled_is_fault_free chars u r in let some : fault_of chars ≡ Some f = s in cc
one_way chars (Err f) (Err g) s r = let a : fault_of chars ≡ Some f = s in let b : fault_of chars ≡ Some g = r in cc

-- what a receiver answers
pub answered_so : (chars : List RxChar) (s r : Result Telegram TelegramFault) → IfOk s (Spells chars) → IfErr s (λ fault. fault_of chars ≡ Some fault)
    → IsReadAs chars r → s ≡ r
answered_so chars (Ok t) r whole fault is = one_way chars (Ok t) r whole is
answered_so chars (Err f) r whole fault is = one_way chars (Err f) r fault is

-- what undamaged octets are read as
pub read_so : (octets : List ℕ) (s r : Result Telegram TelegramFault) → IfOk s (λ t. octets ≡ spelling t)
    → IfErr s (λ fault. fault_of (map Good octets) ≡ Some fault) → IsReadAs (map Good octets) r → s ≡ r
read_so octets (Ok t) r whole fault is = one_way (map Good octets) (Ok t) r (ap (map Good) whole) is
read_so octets (Err f) r whole fault is = one_way (map Good octets) (Err f) r fault is
