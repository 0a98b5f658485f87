-- Telegrams one behind the other are cut into just these.
use Rattle.std.proofs.Common.{◌≡◌, ℕ, ◌+◌, List, [], ◌∷◌, ◌++◌, length, take, drop, map, refl, sym, ap, ◌∙◌, subst, Some}
use Rattle.std.proofs.Math.Seq.{take-append_seam, drop-append_seam}
use Rattle.pb_telegram.specs.Grammar.{spelling}
use Rattle.pb_telegram.specs.declared.chars.RxChar.TheVariants.{Good}
use Rattle.pb_telegram.specs.declared.telegrams.Telegram.{Telegram}
use Rattle.pb_telegram.specs.declared.telegrams.Telegram.TheVariants.{Short, Var, Fixed8, Token, Ack}
use Rattle.pb_telegram.proofs.OneTelegram.{one_telegram}
use Rattle.pb_monitor.specs.Cutting.{Piece, Whole, Skipped, need_of_data, needs, AreCutOf, spellings, wholes}
use Rattle.pb_monitor.proofs.Fronts.{needs_right}

-- the front of a stream that begins with a telegram tells its length
has_need : (t : Telegram) (rest : List ℕ) → (n : ℕ) × (needs (spelling t ++ rest) ≡ Some n)
has_need (Short t) rest = (6, refl)
has_need (Var t) rest = (need_of_data (length t.unit.items + 3), refl)
has_need (Fixed8 t) rest = (14, refl)
has_need (Token t) rest = (3, refl)
has_need Ack [] = (1, refl)
has_need Ack (x ∷ rest) = (1, refl)

nothing_behind : (xs : List ℕ) → xs ≡ xs ++ []
nothing_behind [] = refl
nothing_behind (x ∷ xs) = ap (λ (l : List ℕ). x ∷ l) (nothing_behind xs)

same_length : (t u : Telegram) (a b : List ℕ) → spelling t ++ a ≡ spelling u ++ b → length (spelling t) ≡ length (spelling u)
same_length t u a b e =
    let need = has_need u b in
    needs_right t a (spelling u ++ b) [] need.0 need.1 (e ∙ nothing_behind (spelling u ++ b))
    ∙ sym (needs_right u b (spelling u ++ b) [] need.0 need.1 (nothing_behind (spelling u ++ b)))

same_front : (t u : Telegram) (a b : List ℕ) → spelling t ++ a ≡ spelling u ++ b → spelling t ≡ spelling u
same_front t u a b e =
    sym (take-append_seam (spelling t) a) ∙ ap (take (length (spelling t))) e ∙ ap (λ n. take n (spelling u ++ b)) (same_length t u a b e) ∙ take-append_seam (spelling u) b

same_rest : (t u : Telegram) (a b : List ℕ) → spelling t ++ a ≡ spelling u ++ b → a ≡ b
same_rest t u a b e =
    sym (drop-append_seam (spelling t) a) ∙ ap (drop (length (spelling t))) e ∙ ap (λ n. drop n (spelling u ++ b)) (same_length t u a b e) ∙ drop-append_seam (spelling u) b

some_octet : (t : Telegram) (rest : List ℕ) → spelling t ++ rest ≡ [] → ⊥
some_octet (Short t) rest e = cc
some_octet (Var t) rest e = cc
some_octet (Fixed8 t) rest e = cc
some_octet (Token t) rest e = cc
some_octet Ack rest e = cc

pub telegrams_are_cut : (ts : List Telegram) (pieces : List Piece) → AreCutOf pieces (spellings ts) → pieces ≡ wholes ts
telegrams_are_cut [] [] cut = refl
telegrams_are_cut [] (Whole u ∷ pieces) cut = absurd (some_octet u cut.0 (sym cut.1))
telegrams_are_cut [] (Skipped octet ∷ pieces) cut = absurd (let e = cut.1.0 in cc)
telegrams_are_cut (t ∷ ts) [] cut = absurd (some_octet t (spellings ts) cut)
telegrams_are_cut (t ∷ ts) (Skipped octet ∷ pieces) cut = absurd (cut.1.1 t (spellings ts) refl)
telegrams_are_cut (t ∷ ts) (Whole u ∷ pieces) cut =
    let same : u ≡ t = one_telegram (map Good (spelling u)) u t refl (ap (map Good) (sym (same_front t u (spellings ts) cut.0 cut.1))) in
    let rest : spellings ts ≡ cut.0 = same_rest t u (spellings ts) cut.0 cut.1 in
    ap (λ x. Whole x ∷ pieces) same ∙ ap (λ (l : List Piece). Whole t ∷ l) (telegrams_are_cut ts pieces (subst (AreCutOf pieces) (sym rest) cut.2))
