-- What the octets of a telegram say.
use Rattle.std.proofs.Common.{◌≡◌, ◌∙◌, sym, refl, ap, ℕ, ◌+◌, ◌-◌, ◌≤◌, ◌<◌, ◌==◌, Bool, true, false, if◌then◌else◌, List, [], ◌∷◌, ◌++◌, length, arith}
use Rattle.std.specs.Prelude.{slice_range}
use Rattle.std.proofs.lemmas.List.{nil_from_length}
use Rattle.std.proofs.lemmas.Bool.{eqb-true, eqb-false}
use Rattle.std.proofs.lemmas.Bool.Decides.{nat_tests}
use Rattle.std.proofs.lemmas.Grind.{common_steps}
use Rattle.pb_telegram.proofs.Frames.{frame_unit}
use Rattle.pb_telegram.specs.Faults.{need, fcs_place}
use Rattle.pb_telegram.specs.Grammar.{sd1, sd2, sd3, ed, fcs_of, length_of, spelling}
use Rattle.pb_telegram.specs.declared.telegrams.Telegram.{Telegram}
use Rattle.pb_telegram.specs.declared.telegrams.Telegram.TheVariants.{Short, Var, Fixed8, Token, Ack}
use Rattle.pb_cycles.specs.Fields.{Fields}
use Rattle.pb_cycles.specs.Messages.{message_in, message_of, frame_octets}
use Rattle.pb_cycles.specs.declared.messages.Message.{Message}
use Rattle.pb_cycles.specs.declared.messages.Message.TheVariants.{Framed}

abbrev framed : ℕ → ℕ → ℕ → List ℕ → Message
framed da sa fc unit = Framed (record { da = da; sa = sa; fc = fc; unit = unit })

abbrev short_octets : ℕ → ℕ → ℕ → List ℕ
short_octets da sa fc = sd1 ∷ da ∷ sa ∷ fc ∷ fcs_of da sa fc [] ∷ ed ∷ []

abbrev fixed_octets : ℕ → ℕ → ℕ → List ℕ → List ℕ
fixed_octets da sa fc unit = sd3 ∷ da ∷ sa ∷ fc ∷ (unit ++ fcs_of da sa fc unit ∷ ed ∷ [])

abbrev var_octets : ℕ → ℕ → ℕ → List ℕ → List ℕ
var_octets da sa fc unit = sd2 ∷ length_of unit ∷ length_of unit ∷ sd2 ∷ da ∷ sa ∷ fc ∷ (unit ++ fcs_of da sa fc unit ∷ ed ∷ [])

short-said : (da sa fc : ℕ) → message_in (short_octets da sa fc) ≡ framed da sa fc []
short-said da sa fc = refl

fixed-said : (da sa fc : ℕ) (unit : List ℕ) → length unit ≡ 8 → message_in (fixed_octets da sa fc unit) ≡ framed da sa fc unit
fixed-said da sa fc unit e =
    let end : 12 ≡ 4 + length unit = omega arith in
    let head = sd3 ∷ da ∷ sa ∷ fc ∷ [] in
    ap (framed da sa fc) (ap (slice_range (fixed_octets da sa fc unit) 4) end ∙ frame_unit head unit (fcs_of da sa fc unit) ed)

var-said : (da sa fc : ℕ) (unit : List ℕ) → 0 < length unit → length unit ≤ 246 → message_in (var_octets da sa fc unit) ≡ framed da sa fc unit
var-said da sa fc unit some fits =
    let xs = var_octets da sa fc unit in
    let head = sd2 ∷ length_of unit ∷ length_of unit ∷ sd2 ∷ da ∷ sa ∷ fc ∷ [] in
    let needed : need xs ≡ length_of unit + 6 = grind (arith, nat_tests, common_steps, some, fits) in
    let end : fcs_place xs ≡ 7 + length unit = ap (λ (n : ℕ). n - 2) needed ∙ omega arith in
    ap (framed da sa fc) (ap (slice_range xs 7) end ∙ frame_unit head unit (fcs_of da sa fc unit) ed)

pub telegram-said : (t : Telegram) → message_in (spelling t) ≡ message_of t
telegram-said (Short t) = short-said t.da t.sa t.fc
telegram-said (Var t) = var-said t.da t.sa t.fc t.unit.items t.some_unit t.unit_fits
telegram-said (Fixed8 t) = fixed-said t.da t.sa t.fc t.unit t.eight_octets
telegram-said (Token t) = refl
telegram-said Ack = refl

formed-said : (da sa fc : ℕ) (unit : List ℕ) (none eight : Bool) → (length unit == 0) ≡ none → (length unit == 8) ≡ eight → length unit ≤ 246
    → message_in (if none then short_octets da sa fc else if eight then fixed_octets da sa fc unit else var_octets da sa fc unit) ≡ framed da sa fc unit
formed-said da sa fc unit true eight e f fits = ap (framed da sa fc) (sym (nil_from_length unit (eqb-true _ _ e)))
formed-said da sa fc unit false true e f fits = fixed-said da sa fc unit (eqb-true _ _ f)
formed-said da sa fc unit false false e f fits = var-said da sa fc unit (some (length unit) (eqb-false _ _ e)) fits where
  some : (n : ℕ) → (n ≡ 0 → ⊥) → 0 < n
  some n h = omega arith

pub frame-said : (f : Fields) → length f.unit ≤ 246 → message_in (frame_octets f) ≡ Framed f
frame-said f fits = formed-said f.da f.sa f.fc f.unit (length f.unit == 0) (length f.unit == 8) refl refl fits
