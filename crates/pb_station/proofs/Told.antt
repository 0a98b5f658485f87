-- The mark of an end that stands last is told what it has brought.
use Rattle.std.proofs.Common.{◌≡◌, ◌∙◌, ap, refl, ℕ, ◌++◌, List, [], ◌∷◌, length, map, get_or}
use Rattle.std.specs.Prelude.{slice_set}
use Rattle.std.proofs.Math.Seq.{set-append_seam}
use Rattle.std.proofs.lemmas.List.{map-append}
use Rattle.pb_telegram.specs.declared.chars.RxChar.{RxChar}
use Rattle.law_turn.specs.Marks as turn
use Rattle.pb_station.specs.MarkViews.{mark_of, bringing}
use Rattle.pb_station.specs.declared.marks.Mark.{Mark}

at-seam : (copies : List Mark) (x d : Mark) → get_or (copies ++ x ∷ []) (length copies) d ≡ x
at-seam [] x d = refl
at-seam (y ∷ ys) x d = at-seam ys x d

told : (copies all : List Mark) (x z y : Mark) (n at seen : ℕ) (chars : List RxChar) → all ≡ copies ++ x ∷ [] → n ≡ length copies → z ≡ get_or all n z
    → mark_of x ≡ turn.End at seen [] → mark_of y ≡ bringing (mark_of z) chars → mark_of y ≡ turn.End at seen chars
told copies all x z y n at seen chars last place is end brings =
    let here : z ≡ x = is ∙ ap (λ (ms : List Mark). get_or ms n z) last ∙ ap (λ (k : ℕ). get_or (copies ++ x ∷ []) k z) place ∙ at-seam copies x z in
    brings ∙ ap (λ (m : Mark). bringing (mark_of m) chars) here ∙ ap (λ (m : turn.Mark). bringing m chars) end

pub told-last : (copies all : List Mark) (x z y : Mark) (n at seen : ℕ) (chars : List RxChar) → all ≡ copies ++ x ∷ [] → n ≡ length copies → z ≡ get_or all n z
    → mark_of x ≡ turn.End at seen [] → mark_of y ≡ bringing (mark_of z) chars → map mark_of (slice_set all n y) ≡ map mark_of copies ++ turn.End at seen chars ∷ []
told-last copies all x z y n at seen chars last place is end brings =
    ap (λ (ms : List Mark). map mark_of (slice_set ms n y)) last
    ∙ ap (λ (k : ℕ). map mark_of (slice_set (copies ++ x ∷ []) k y)) place
    ∙ ap (map mark_of) (set-append_seam copies x [] y)
    ∙ map-append mark_of copies (y ∷ [])
    ∙ ap (λ (m : turn.Mark). map mark_of copies ++ m ∷ []) (told copies all x z y n at seen chars last place is end brings)
