-- What a responder replies means what was meant.
use Rattle.std.proofs.Common.{◌≡◌, ◌∙◌, refl, ap, ℕ, ◌+◌, ◌*◌, ◌≤◌, ◌%◌, ◌==◌, zero, suc, Bool, true, false, not, ◌&&◌, if◌then◌else◌, List, [], ◌∷◌, length, Option, Some, None, arith}
use Rattle.std.proofs.lemmas.Bool.{eq-eqb, ne_eqb}
use Rattle.pb_cycles.specs.Fields.{Fields}
use Rattle.pb_cycles.specs.Messages.{has_bit, address_in, heard_as}
use Rattle.pb_cycles.specs.Requests.{is_answered, is_high}
use Rattle.pb_cycles.specs.declared.messages.Reply.{Reply}
use Rattle.pb_cycles.specs.declared.messages.Reply.TheVariants.{Acknowledge}
use Rattle.pb_cycles.specs.declared.services.Priority.{Priority}
use Rattle.pb_cycles.specs.declared.services.Priority.TheVariants.{Low, High}
use Rattle.pb_cycles.specs.declared.services.Service.{Service}
use Rattle.pb_cycles.specs.declared.services.Service.TheVariants.{Sda, Sdn, Srd}
use Rattle.pb_cycles.specs.Outcomes.{code_outcome, reply_outcome}
use Rattle.pb_cycles.specs.Responding.{reply_frame, data_reply, service_reply}
use Rattle.pb_cycles.specs.declared.outcomes.Outcome.{Outcome}
use Rattle.pb_cycles.specs.declared.outcomes.Outcome.TheVariants.{Acked, Data, NoResource}

-- a control octet of a station type and the codes that a responder replies is no request's
abbrev IsReplied : ℕ → Type 0
IsReplied code = (station_type : ℕ) → station_type ≤ 3 → (has_bit (16 * station_type + code) 6 ≡ false) × ((16 * station_type + code) % 16 ≡ code)

replied_3 : IsReplied 3
replied_3 zero h = (refl, refl)
replied_3 (suc zero) h = (refl, refl)
replied_3 (suc (suc zero)) h = (refl, refl)
replied_3 (suc (suc (suc zero))) h = (refl, refl)
replied_3 (suc (suc (suc (suc n)))) h = absurd (omega arith)

replied_8 : IsReplied 8
replied_8 zero h = (refl, refl)
replied_8 (suc zero) h = (refl, refl)
replied_8 (suc (suc zero)) h = (refl, refl)
replied_8 (suc (suc (suc zero))) h = (refl, refl)
replied_8 (suc (suc (suc (suc n)))) h = absurd (omega arith)

replied_9 : IsReplied 9
replied_9 zero h = (refl, refl)
replied_9 (suc zero) h = (refl, refl)
replied_9 (suc (suc zero)) h = (refl, refl)
replied_9 (suc (suc (suc zero))) h = (refl, refl)
replied_9 (suc (suc (suc (suc n)))) h = absurd (omega arith)

replied_10 : IsReplied 10
replied_10 zero h = (refl, refl)
replied_10 (suc zero) h = (refl, refl)
replied_10 (suc (suc zero)) h = (refl, refl)
replied_10 (suc (suc (suc zero))) h = (refl, refl)
replied_10 (suc (suc (suc (suc n)))) h = absurd (omega arith)

taken : (request to from : Bool) (outcome : Option Outcome) → request ≡ false → to ≡ true → from ≡ true → (if not request && (to && from) then outcome else None) ≡ outcome
taken true to from outcome e f g = absurd cc
taken false true true outcome e f g = refl
taken false true false outcome e f g = absurd cc
taken false false from outcome e f g = absurd cc

-- a reply telegram has the outcome of its code
understood : (ts d station_type : ℕ) (f : Fields) (code : ℕ) (unit : List ℕ) → ts ≤ 126 → d ≤ 126 → station_type ≤ 3 → f.sa ≡ ts → IsReplied code
    → reply_outcome ts d (heard_as (reply_frame d station_type f code unit)) ≡ code_outcome code unit
understood ts d station_type f code unit t b h e r =
    let parts = r station_type h in
    taken (has_bit (16 * station_type + code) 6) (address_in (address_in f.sa) == ts) (address_in d == d) (code_outcome ((16 * station_type + code) % 16) unit)
    parts.0 (eq-eqb _ _ (omega arith)) (eq-eqb _ _ (omega arith))
    ∙ ap (λ (n : ℕ). code_outcome n unit) parts.1

extended : (ts d station_type : ℕ) (f : Fields) (otherwise : Reply) (extension : Bool) → extension ≡ true → ts ≤ 126 → d ≤ 126 → station_type ≤ 3 → f.sa ≡ ts
    → reply_outcome ts d (heard_as (if extension then reply_frame d station_type f 3 [] else otherwise)) ≡ Some NoResource
extended ts d station_type f otherwise true e t b h s = understood ts d station_type f 3 [] t b h s replied_3
extended ts d station_type f otherwise false e t b h s = absurd cc

pub extension : (ts d station_type : ℕ) (f : Fields) (service : Service) (priority : Priority) (unit : List ℕ) → ts ≤ 126 → d ≤ 126 → station_type ≤ 3 → f.sa ≡ ts
    → is_answered service ≡ true → has_bit f.da 7 ≡ true → reply_outcome ts d (heard_as (service_reply d station_type f service priority unit)) ≡ Some NoResource
extension ts d station_type f Sda priority unit t b h s a e = extended ts d station_type f Acknowledge (has_bit f.da 7) e t b h s
extension ts d station_type f Sdn priority unit t b h s a e = absurd cc
extension ts d station_type f Srd priority unit t b h s a e = extended ts d station_type f (data_reply d station_type f priority unit) (has_bit f.da 7) e t b h s

plain : (ts d : ℕ) (extended otherwise : Reply) (extension : Bool) → extension ≡ false
    → reply_outcome ts d (heard_as (if extension then extended else otherwise)) ≡ reply_outcome ts d (heard_as otherwise)
plain ts d extended otherwise true e = absurd cc
plain ts d extended otherwise false e = refl

pub sda : (ts d station_type : ℕ) (f : Fields) (priority : Priority) (unit : List ℕ) → has_bit f.da 7 ≡ false
    → reply_outcome ts d (heard_as (service_reply d station_type f Sda priority unit)) ≡ Some Acked
sda ts d station_type f priority unit e = plain ts d (reply_frame d station_type f 3 []) Acknowledge (has_bit f.da 7) e

pub srd : (ts d station_type : ℕ) (f : Fields) (priority : Priority) (x : ℕ) (unit : List ℕ) → ts ≤ 126 → d ≤ 126 → station_type ≤ 3 → f.sa ≡ ts → has_bit f.da 7 ≡ false
    → reply_outcome ts d (heard_as (service_reply d station_type f Srd priority (x ∷ unit))) ≡ Some (Data (record { items = x ∷ unit }))
srd ts d station_type f priority x unit t b h s e =
    plain ts d (reply_frame d station_type f 3 []) (data_reply d station_type f priority (x ∷ unit)) (has_bit f.da 7) e
    ∙ plain ts d (reply_frame d station_type f 9 []) (if is_high priority then reply_frame d station_type f 10 (x ∷ unit) else reply_frame d station_type f 8 (x ∷ unit)) (length (x ∷ unit) == 0)
    (ne_eqb _ _ some)
    ∙ prioritised priority
  where
    some : length (x ∷ unit) ≡ 0 → ⊥
    some none = omega arith

    prioritised : (priority : Priority)
        → reply_outcome ts d (heard_as (if is_high priority then reply_frame d station_type f 10 (x ∷ unit) else reply_frame d station_type f 8 (x ∷ unit))) ≡ Some (Data (record { items = x ∷ unit }))
    prioritised High = understood ts d station_type f 10 (x ∷ unit) t b h s replied_10
    prioritised Low = understood ts d station_type f 8 (x ∷ unit) t b h s replied_8

pub srd_without_data : (ts d station_type : ℕ) (f : Fields) (priority : Priority) → ts ≤ 126 → d ≤ 126 → station_type ≤ 3 → f.sa ≡ ts → has_bit f.da 7 ≡ false
    → reply_outcome ts d (heard_as (service_reply d station_type f Srd priority [])) ≡ Some Acked
srd_without_data ts d station_type f priority t b h s e =
    plain ts d (reply_frame d station_type f 3 []) (data_reply d station_type f priority []) (has_bit f.da 7) e ∙ understood ts d station_type f 9 [] t b h s replied_9
