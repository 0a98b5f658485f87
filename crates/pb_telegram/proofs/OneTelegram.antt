-- Octets spell at most one telegram, and what spells a telegram has no fault.
use Rattle.std.proofs.Common.{◌≡◌, ℕ, ◌%◌, ◌<◌, ◌≤◌, List, length, drop, refl, ap, sym, ◌∙◌, arith, Some, None, Result, Ok, Err}
use Rattle.std.specs.Prelude.{IfOk, IfErr, slice_index}
use Rattle.std.specs.List.{All}
use Rattle.std.proofs.Math.Bridge.{le_prop}
use Rattle.std.proofs.Math.Nat.{ℕ_set}
use Rattle.std.proofs.lemmas.Option.{none-some}
use mathlib.Core.HLevel.{is_prop→PathP}
use Rattle.pb_telegram.specs.Grammar.{spelling, Spells}
use Rattle.pb_telegram.specs.Faults.{octets, fault_of}
use Rattle.pb_telegram.specs.declared.chars.RxChar.{RxChar}
use Rattle.pb_telegram.specs.declared.telegrams.Telegram.{Telegram}
use Rattle.pb_telegram.specs.declared.telegrams.Telegram.TheVariants.{Short, Var, Fixed8, Token, Ack}
use Rattle.pb_telegram.specs.declared.telegrams.ShortTelegram.{ShortTelegram}
use Rattle.pb_telegram.specs.declared.telegrams.VarTelegram.{VarTelegram}
use Rattle.pb_telegram.specs.declared.telegrams.Fixed8Telegram.{Fixed8Telegram}
use Rattle.pb_telegram.specs.declared.telegrams.TokenTelegram.{TokenTelegram}
use Rattle.pb_telegram.specs.declared.faults.TelegramFault.{TelegramFault}
use Rattle.pb_telegram.proofs.Frames.{same_front}
use Rattle.pb_telegram.proofs.Spelled.{octets-map, one_fault_free}

-- telegrams with equal octets are equal: the rules that their types keep add nothing
same_short : (t u : ShortTelegram) → t.da ≡ u.da → t.sa ≡ u.sa → t.fc ≡ u.fc → t ≡ u
same_short t u da sa fc = λ i. record {
  da = da i;
  sa = sa i;
  fc = fc i;
  da_octet = is_prop→PathP (λ j. da j < 256) (λ j. le_prop) t.da_octet u.da_octet i;
  sa_octet = is_prop→PathP (λ j. sa j < 256) (λ j. le_prop) t.sa_octet u.sa_octet i;
  sa_station = is_prop→PathP (λ j. sa j % 128 < 127) (λ j. le_prop) t.sa_station u.sa_station i;
  fc_bit_7_clear = is_prop→PathP (λ j. fc j < 128) (λ j. le_prop) t.fc_bit_7_clear u.fc_bit_7_clear i;
}

-- a rule about each octet of a list adds nothing either
same_octets : (xs : List ℕ) (f g : All (λ octet. octet < 256) xs) → f ≡ g
same_octets xs f g = λ i k d within. le_prop (f k d within) (g k d within) i

same_var : (t u : VarTelegram) → t.da ≡ u.da → t.sa ≡ u.sa → t.fc ≡ u.fc → t.unit.items ≡ u.unit.items → t ≡ u
same_var t u da sa fc unit = λ i. record {
  da = da i;
  sa = sa i;
  fc = fc i;
  unit = record { items = unit i };
  da_octet = is_prop→PathP (λ j. da j < 256) (λ j. le_prop) t.da_octet u.da_octet i;
  sa_octet = is_prop→PathP (λ j. sa j < 256) (λ j. le_prop) t.sa_octet u.sa_octet i;
  sa_station = is_prop→PathP (λ j. sa j % 128 < 127) (λ j. le_prop) t.sa_station u.sa_station i;
  fc_bit_7_clear = is_prop→PathP (λ j. fc j < 128) (λ j. le_prop) t.fc_bit_7_clear u.fc_bit_7_clear i;
  some_unit = is_prop→PathP (λ j. 0 < length (unit j)) (λ j. le_prop) t.some_unit u.some_unit i;
  unit_fits = is_prop→PathP (λ j. length (unit j) ≤ 246) (λ j. le_prop) t.unit_fits u.unit_fits i;
  unit_octets = is_prop→PathP (λ j. All (λ octet. octet < 256) (unit j)) (λ j. same_octets (unit j)) t.unit_octets u.unit_octets i;
}

same_fixed : (t u : Fixed8Telegram) → t.da ≡ u.da → t.sa ≡ u.sa → t.fc ≡ u.fc → t.unit ≡ u.unit → t ≡ u
same_fixed t u da sa fc unit = λ i. record {
  da = da i;
  sa = sa i;
  fc = fc i;
  unit = unit i;
  da_octet = is_prop→PathP (λ j. da j < 256) (λ j. le_prop) t.da_octet u.da_octet i;
  sa_octet = is_prop→PathP (λ j. sa j < 256) (λ j. le_prop) t.sa_octet u.sa_octet i;
  sa_station = is_prop→PathP (λ j. sa j % 128 < 127) (λ j. le_prop) t.sa_station u.sa_station i;
  fc_bit_7_clear = is_prop→PathP (λ j. fc j < 128) (λ j. le_prop) t.fc_bit_7_clear u.fc_bit_7_clear i;
  eight_octets = is_prop→PathP (λ j. length (unit j) ≡ 8) (λ j. ℕ_set (length (unit j)) 8) t.eight_octets u.eight_octets i;
  unit_octets = is_prop→PathP (λ j. All (λ octet. octet < 256) (unit j)) (λ j. same_octets (unit j)) t.unit_octets u.unit_octets i;
}

same_token : (t u : TokenTelegram) → t.da ≡ u.da → t.sa ≡ u.sa → t ≡ u
same_token t u da sa = λ i. record {
  da = da i;
  sa = sa i;
  da_station = is_prop→PathP (λ j. da j ≤ 126) (λ j. le_prop) t.da_station u.da_station i;
  sa_station = is_prop→PathP (λ j. sa j ≤ 126) (λ j. le_prop) t.sa_station u.sa_station i;
}

-- the octet at a place of two equal spellings
at : (i : ℕ) {xs ys : List ℕ} → xs ≡ ys → slice_index xs i ≡ slice_index ys i
at i e = ap (λ (xs : List ℕ). slice_index xs i) e

same_telegram : (t u : Telegram) → spelling t ≡ spelling u → t ≡ u
same_telegram (Short t) (Short u) e = ap Short (same_short t u (at 1 e) (at 2 e) (at 3 e))
same_telegram (Var t) (Var u) e =
    ap Var (same_var t u (at 4 e) (at 5 e) (at 6 e)
    (same_front t.unit.items u.unit.items _ _ (omega (arith, at 1 e)) (ap (drop 7) e)))
same_telegram (Fixed8 t) (Fixed8 u) e =
    ap Fixed8 (same_fixed t u (at 1 e) (at 2 e) (at 3 e) (same_front t.unit u.unit _ _ (t.eight_octets ∙ sym u.eight_octets) (ap (drop 4) e)))
same_telegram (Token t) (Token u) e = ap Token (same_token t u (at 1 e) (at 2 e))
same_telegram Ack Ack e = refl
same_telegram t u e = absurd (omega (arith, at 0 e))

pub one_telegram : (chars : List RxChar) (t u : Telegram) → Spells chars t → Spells chars u → t ≡ u
one_telegram chars t u s r =
    same_telegram t u (sym (octets-map (spelling t)) ∙ ap octets (sym s ∙ r) ∙ octets-map (spelling u))

pub octets-spelled : (chars : List RxChar) (t : Telegram) → Spells chars t → octets chars ≡ spelling t
octets-spelled chars t s = ap octets s ∙ octets-map (spelling t)

pub spelled_is_fault_free : (chars : List RxChar) (t : Telegram) → Spells chars t → fault_of chars ≡ None
spelled_is_fault_free chars t s = ap fault_of s ∙ one_fault_free t

-- an answer that is right at Ok, and a fault of the characters at Err, finds each telegram that is spelled
pub finds_what_is_spelled : (chars : List RxChar) (answer : Result Telegram TelegramFault) → IfOk answer (Spells chars)
    → IfErr answer (λ fault. fault_of chars ≡ Some fault) → (t : Telegram) → Spells chars t → answer ≡ Ok t
finds_what_is_spelled chars (Ok u) right wrong t s = ap Ok (one_telegram chars u t right s)
finds_what_is_spelled chars (Err fault) right wrong t s =
    absurd (none-some fault (sym (spelled_is_fault_free chars t s) ∙ wrong))
