-- The front of a spelling tells how long it is.
use Rattle.std.proofs.Common.{◌≡◌, ℕ, ◌+◌, ◌-◌, List, [], ◌∷◌, ◌++◌, length, length-append, append_assoc, refl, ap, sym, ◌∙◌, arith}
use Rattle.std.specs.Prelude.{slice_range}
use Rattle.std.proofs.lemmas.List.{nil_from_length}
use Rattle.std.proofs.lemmas.Bool.Decides.{nat_tests}
use Rattle.std.proofs.lemmas.Grind.{common_steps}
use Rattle.pb_telegram.specs.Grammar.{sd2, sd3, ed, fcs_of, length_of, spelling}
use Rattle.pb_telegram.specs.Faults.{need, fcs_place, unit_of}
use Rattle.pb_telegram.specs.declared.telegrams.Telegram.{Telegram}
use Rattle.pb_telegram.specs.declared.telegrams.Telegram.TheVariants.{Short, Var, Fixed8, Token, Ack}
use Rattle.pb_telegram.specs.declared.telegrams.VarTelegram.{VarTelegram}
use Rattle.pb_telegram.specs.declared.telegrams.Fixed8Telegram.{Fixed8Telegram}
use Rattle.pb_telegram.proofs.Frames.{frame_unit}

-- whatever follows a spelling, it needs its own length
need-spelling : (t : Telegram) (rest : List ℕ) → need (spelling t ++ rest) ≡ length (spelling t)
need-spelling (Short t) rest = refl
need-spelling (Var t) rest = grind (arith, nat_tests, common_steps, t.some_unit, t.unit_fits)
need-spelling (Fixed8 t) rest = grind (arith, common_steps, t.eight_octets)
need-spelling (Token t) rest = refl
need-spelling Ack rest = refl

-- the unit stands between the head and the check octet
pub unit_of_var : (t : VarTelegram) → unit_of (spelling (Var t)) ≡ t.unit.items
unit_of_var t =
    let unit = t.unit.items in
    let sum = fcs_of t.da t.sa t.fc unit in
    let head = sd2 ∷ length_of unit ∷ length_of unit ∷ sd2 ∷ t.da ∷ t.sa ∷ t.fc ∷ [] in
    let xs = spelling (Var t) in
    let needed : need xs ≡ length_of unit + 6 = grind (arith, nat_tests, common_steps, t.some_unit, t.unit_fits) in
    let end : fcs_place xs ≡ 7 + length unit = ap (λ (n : ℕ). n - 2) needed ∙ omega arith in
    ap (slice_range xs 7) end ∙ frame_unit head unit sum ed

pub unit_of_fixed : (t : Fixed8Telegram) → unit_of (spelling (Fixed8 t)) ≡ t.unit
unit_of_fixed t =
    let head = sd3 ∷ t.da ∷ t.sa ∷ t.fc ∷ [] in
    let end : 12 ≡ 4 + length t.unit = omega (arith, t.eight_octets) in
    ap (slice_range (spelling (Fixed8 t)) 4) end ∙ frame_unit head t.unit (fcs_of t.da t.sa t.fc t.unit) ed

pub no_rest : (t u : Telegram) (rest : List ℕ) → spelling t ++ rest ≡ spelling u → rest ≡ []
no_rest t u rest e =
    let whole : length (spelling u) ≡ length (spelling t) =
    sym (need-spelling u []) ∙ ap (λ (xs : List ℕ). need (xs ++ [])) (sym e) ∙ ap need (append_assoc (spelling t) rest []) ∙ need-spelling t (rest ++ []) in
    let parts : length (spelling t) + length rest ≡ length (spelling u) = sym (length-append (spelling t) rest) ∙ ap length e in
    nil_from_length rest (omega arith)
