-- The text of octets that spell a telegram.
use Rattle.std.proofs.Common.{◌≡◌, ℕ, List, refl, ap, ◌∙◌, Option, None}
use Rattle.pb_telegram.specs.Grammar.{spelling}
use Rattle.pb_telegram.specs.declared.faults.TelegramFault.{TelegramFault}
use Rattle.pb_telegram.specs.Faults.{unit_of}
use Rattle.pb_telegram.specs.declared.telegrams.Telegram.{Telegram}
use Rattle.pb_telegram.specs.declared.telegrams.VarTelegram.{VarTelegram}
use Rattle.pb_telegram.specs.declared.telegrams.Fixed8Telegram.{Fixed8Telegram}
use Rattle.pb_telegram.specs.declared.telegrams.Telegram.TheVariants.{Short, Var, Fixed8, Token, Ack}
use Rattle.pb_decode.specs.Decoding.{spelled_text, text_unless_fault}
use Rattle.pb_decode.specs.Texts.{var_text, fixed_text, telegram_text}

-- what `spelled_unit_is_the_telegrams` says
abbrev pub ReadsVar : Type 0
ReadsVar = (t : VarTelegram) → unit_of (spelling (Var t)) ≡ t.unit.items

abbrev pub ReadsFixed : Type 0
ReadsFixed = (t : Fixed8Telegram) → unit_of (spelling (Fixed8 t)) ≡ t.unit

spelled_text-spelling : ReadsVar → ReadsFixed → (t : Telegram) → spelled_text (spelling t) ≡ telegram_text t
spelled_text-spelling var fixed (Short t) = refl
spelled_text-spelling var fixed (Var t) = ap (var_text t.da t.sa t.fc) (var t)
spelled_text-spelling var fixed (Fixed8 t) = ap (fixed_text t.da t.sa t.fc) (fixed t)
spelled_text-spelling var fixed (Token t) = refl
spelled_text-spelling var fixed Ack = refl

pub text_unless_fault-spelling : ReadsVar → ReadsFixed → (fault : Option TelegramFault) (octets : List ℕ) (t : Telegram)
    → fault ≡ None → octets ≡ spelling t → text_unless_fault fault octets ≡ telegram_text t
text_unless_fault-spelling var fixed fault octets t none spelled =
    ap (λ (f : Option TelegramFault). text_unless_fault f octets) none ∙ ap spelled_text spelled ∙ spelled_text-spelling var fixed t
