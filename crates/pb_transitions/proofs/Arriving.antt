-- What a telegram brings is what its octets bring.
use Rattle.std.proofs.Common.{◌≡◌, ◌≢◌, ◌∙◌, ◌<◌, ap, sym, refl, arith, ℕ, Bool, true, false, not, if◌then◌else◌, List, [], ◌∷◌, map, Option, Some, None}
use Rattle.std.specs.Prelude.{slice_index, IfSome, IfNone}
use Rattle.pb_telegram.specs.Faults.{octets, unit_of, fault_of, is_token, has_control, da_place}
use Rattle.pb_telegram.specs.Grammar.{spelling, Spells}
use Rattle.pb_telegram.specs.declared.chars.RxChar.{RxChar}
use Rattle.pb_telegram.specs.declared.chars.RxChar.TheVariants.{Good}
use Rattle.pb_telegram.specs.declared.telegrams.Fixed8Telegram.{Fixed8Telegram}
use Rattle.pb_telegram.specs.declared.telegrams.Telegram.{Telegram}
use Rattle.pb_telegram.specs.declared.telegrams.Telegram.TheVariants.{Short, Var, Fixed8, Token, Ack}
use Rattle.pb_telegram.specs.declared.telegrams.TokenTelegram.{TokenTelegram}
use Rattle.pb_telegram.specs.declared.telegrams.VarTelegram.{VarTelegram}
use Rattle.law_turn.specs.Arrivals as arrival
use Rattle.law_turn.specs.Arrivals.{Framed, fields_of, telegram_arrival, arrival_unless, arrival_of}
use Rattle.pb_telegram.specs.declared.faults.TelegramFault.{TelegramFault}
use Rattle.pb_transitions.specs.Arrivals.{brings, telegram_brings}
use Rattle.pb_transitions.specs.Replies.{is_for, is_for_others}

octets-bring : ((t : VarTelegram) → unit_of (spelling (Var t)) ≡ t.unit.items) → ((t : Fixed8Telegram) → unit_of (spelling (Fixed8 t)) ≡ t.unit)
    → (t : Telegram) → telegram_arrival (spelling t) ≡ telegram_brings t
octets-bring var fixed (Short t) = refl
octets-bring var fixed (Var t) = ap (λ unit. Framed (record { da = t.da; sa = t.sa; fc = t.fc; unit = unit })) (var t)
octets-bring var fixed (Fixed8 t) = ap (λ unit. Framed (record { da = t.da; sa = t.sa; fc = t.fc; unit = unit })) (fixed t)
octets-bring var fixed (Token t) = refl
octets-bring var fixed Ack = refl

pub telegram-brought : ((t : VarTelegram) → unit_of (spelling (Var t)) ≡ t.unit.items) → ((t : Fixed8Telegram) → unit_of (spelling (Fixed8 t)) ≡ t.unit)
    → (chars : List RxChar) (t : Telegram) → fault_of chars ≡ None → octets chars ≡ spelling t → telegram_brings t ≡ arrival_of chars
telegram-brought var fixed chars t free spelled =
    sym (ap (λ fault. arrival_unless fault (octets chars)) free ∙ ap telegram_arrival spelled ∙ octets-bring var fixed t)

-- characters that spell a telegram bring it
pub spelled-arrives : ((t : VarTelegram) → unit_of (spelling (Var t)) ≡ t.unit.items) → ((t : Fixed8Telegram) → unit_of (spelling (Fixed8 t)) ≡ t.unit)
    → ((chars : List RxChar) (t : Telegram) → Spells chars t → fault_of chars ≡ None)
    → ((chars : List RxChar) (t : Telegram) → Spells chars t → octets chars ≡ spelling t)
    → (chars : List RxChar) (t : Telegram) → Spells chars t → telegram_brings t ≡ arrival_of chars
spelled-arrives var fixed free read chars t spells = telegram-brought var fixed chars t (free chars t spells) (read chars t spells)

-- characters that have a fault bring no telegram
none-arrives : (fault : Option TelegramFault) (xs : List ℕ) → fault ≢ None → arrival.NoTelegram ≡ arrival_unless fault xs
none-arrives (Some fault) xs some = refl
none-arrives None xs some = absurd (some refl)

-- what is read of characters, a telegram or none
pub read-arrives : ((t : VarTelegram) → unit_of (spelling (Var t)) ≡ t.unit.items) → ((t : Fixed8Telegram) → unit_of (spelling (Fixed8 t)) ≡ t.unit)
    → ((chars : List RxChar) (t : Telegram) → Spells chars t → fault_of chars ≡ None)
    → ((chars : List RxChar) (t : Telegram) → Spells chars t → octets chars ≡ spelling t)
    → (chars : List RxChar) (r : Option Telegram) → IfSome r (Spells chars) → IfNone r (fault_of chars ≢ None) → brings r ≡ arrival_of chars
read-arrives var fixed free read chars (Some t) whole none = spelled-arrives var fixed free read chars t whole
read-arrives var fixed free read chars None whole none = none-arrives (fault_of chars) (octets chars) none

-- what is read of undamaged octets
pub octets-arrive : ((t : VarTelegram) → unit_of (spelling (Var t)) ≡ t.unit.items) → ((t : Fixed8Telegram) → unit_of (spelling (Fixed8 t)) ≡ t.unit)
    → ((chars : List RxChar) (t : Telegram) → Spells chars t → fault_of chars ≡ None)
    → ((chars : List RxChar) (t : Telegram) → Spells chars t → octets chars ≡ spelling t)
    → (xs : List ℕ) (r : Option Telegram) → IfSome r (λ t. xs ≡ spelling t) → IfNone r (fault_of (map Good xs) ≢ None) → brings r ≡ arrival_of (map Good xs)
octets-arrive var fixed free read xs (Some t) whole none = spelled-arrives var fixed free read (map Good xs) t (ap (map Good) whole)
octets-arrive var fixed free read xs None whole none = none-arrives (fault_of (map Good xs)) (octets (map Good xs)) none

-- a token that is read of characters
pub token-arrives : ((t : VarTelegram) → unit_of (spelling (Var t)) ≡ t.unit.items) → ((t : Fixed8Telegram) → unit_of (spelling (Fixed8 t)) ≡ t.unit)
    → ((chars : List RxChar) (t : Telegram) → Spells chars t → fault_of chars ≡ None)
    → ((chars : List RxChar) (t : Telegram) → Spells chars t → octets chars ≡ spelling t)
    → (chars : List RxChar) (r : Option TokenTelegram) → IfSome r (λ t. Spells chars (Token t)) → IfSome r (λ t. arrival.Token t.da t.sa ≡ arrival_of chars)
token-arrives var fixed free read chars (Some t) whole = spelled-arrives var fixed free read chars (Token t) whole
token-arrives var fixed free read chars None whole = tt

-- a token that is read of undamaged octets
pub octets-token : (xs : List ℕ) (r : Option TokenTelegram) → IfSome r (λ t. xs ≡ spelling (Token t)) → IfSome r (λ t. Spells (map Good xs) (Token t))
octets-token xs (Some t) whole = ap (map Good) whole
octets-token xs None whole = tt

-- ---- what is for others

octets-good : (xs : List ℕ) → octets (map Good xs) ≡ xs
octets-good [] = refl
octets-good (x ∷ xs) = ap (λ (ys : List ℕ). x ∷ ys) (octets-good xs)

framed-for-others : (ts : ℕ) (xs : List ℕ) (controlled : Bool) → is_for ts (slice_index xs (da_place xs)) ≡ false
    → is_for_others ts (if controlled then Framed (fields_of xs) else arrival.Acknowledgement) ≡ true
framed-for-others ts xs true away = ap not away
framed-for-others ts xs false away = refl

octets-for-others : (ts : ℕ) (xs : List ℕ) (fault : Option TelegramFault) → is_token xs ≡ false → is_for ts (slice_index xs (da_place xs)) ≡ false
    → is_for_others ts (arrival_unless fault xs) ≡ true
octets-for-others ts xs (Some fault) none away = refl
octets-for-others ts xs None none away =
    ap (λ (b : Bool). is_for_others ts (if b then arrival.Token (slice_index xs 1) (slice_index xs 2) else if has_control xs then Framed (fields_of xs) else arrival.Acknowledgement)) none
    ∙ framed-for-others ts xs (has_control xs) away

pub arrives_for_others : (ts : ℕ) (xs : List ℕ) → is_token xs ≡ false → is_for ts (slice_index xs (da_place xs)) ≡ false → is_for_others ts (arrival_of (map Good xs)) ≡ true
arrives_for_others ts xs none away =
    ap (λ (ys : List ℕ). is_for_others ts (arrival_unless (fault_of (map Good xs)) ys)) (octets-good xs) ∙ octets-for-others ts xs (fault_of (map Good xs)) none away
