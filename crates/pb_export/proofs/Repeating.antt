-- Marks of a step that repeats: which of its happenings have none.
use Rattle.std.proofs.Common.{◌≡◌, ◌∙◌, ap, sym, refl, arith, ℕ, zero, suc, ◌+◌, ◌-◌, ◌*◌, ◌<◌, ◌≤◌, Bool, true, false, List, [], ◌++◌, append_assoc, append-nil}
use Rattle.std.specs.Prelude.{◌/◌, ◌↔◌, ◌&&◌, if◌then◌else◌, min, nat_le, nat_lt}
use Rattle.std.proofs.lemmas.Bool.{leb-true, ltb-true}
use Rattle.std.proofs.Math.Nat.{le-div_iff_mul-le}
use Rattle.law_runs.specs.Scenarios.{Deed, Planned}
use Rattle.pb_scenario.specs.Repeats.{series}
use Rattle.pb_scenario.specs.Scenarios.{ScenarioView}
use Rattle.pb_export.specs.Sheets.{Sheet}
use Rattle.pb_export.specs.Marks.{IsSteadySeries, happenings_of, mark, mark_if, marks_text, rest_of, skipped}
use Rattle.pb_export.specs.declared.marks.Series.{Series}

module _ (s : ScenarioView) (sheet : Sheet) (lanes : List ℕ) (deed : Deed) where
  abbrev happens : ℕ → Planned
  happens at = record { at = at; deed = deed }

  abbrev texts : (at every count : ℕ) → List ℕ
  texts at every count = marks_text s sheet lanes (series at every count deed)

  -- ---- before the sheet, and behind it

  early : (at : ℕ) → at < sheet.from → mark_if s sheet lanes (happens at) ≡ []
  early at before = by (nat_le sheet.from at) (nat_lt at sheet.last) refl
    where
      by : (a b : Bool) → nat_le sheet.from at ≡ a → (if a && b then mark s sheet lanes (happens at) else []) ≡ []
      by true b is = absurd (omega (arith, before, leb-true sheet.from at is))
      by false b is = refl

  late : (at : ℕ) → sheet.last ≤ at → mark_if s sheet lanes (happens at) ≡ []
  late at behind = by (nat_le sheet.from at) (nat_lt at sheet.last) refl
    where
      by : (a b : Bool) → nat_lt at sheet.last ≡ b → (if a && b then mark s sheet lanes (happens at) else []) ≡ []
      by a true is = absurd (omega (arith, behind, ltb-true at sheet.last is))
      by true false is = refl
      by false false is = refl

  none-behind : (at every count : ℕ) → sheet.last ≤ at → texts at every count ≡ []
  none-behind at every zero behind = refl
  none-behind at every (suc n) behind = ap (λ l. l ++ texts (at + every) every n) (late at behind) ∙ none-behind (at + every) every n (omega (arith, behind))

  -- some of the first are before the sheet
  skips : (gone at every count : ℕ) → 1 ≤ every → gone ≤ count → gone * every ≤ sheet.from - at → texts (at + gone * every) every (count - gone) ≡ texts at every count
  skips zero at every n steady fits before =
      let same : at + zero * every ≡ at = omega arith in
      let all : n - zero ≡ n = omega arith in
      ap (λ m. texts m every (n - zero)) same ∙ ap (texts at every) all
  skips (suc gone) at every zero steady fits before = absurd (omega (arith, fits))
  skips (suc gone) at every (suc n) steady fits before =
      let same : at + suc gone * every ≡ (at + every) + gone * every = omega arith in
      let left : suc n - suc gone ≡ n - gone = omega arith in
      ap (λ m. texts m every (suc n - suc gone)) same ∙ ap (texts ((at + every) + gone * every) every) left
      ∙ skips gone (at + every) every n steady (omega (arith, fits)) (omega (arith, before, steady))
      ∙ ap (λ l. l ++ texts (at + every) every n) (sym (early at (omega (arith, before, steady))))

  -- ---- by the series

  pub skipped-same : (x : Series) → IsSteadySeries x → marks_text s sheet lanes (happenings_of (skipped sheet.from x) deed) ≡ marks_text s sheet lanes (happenings_of x deed)
  skipped-same x (steady, less) =
      let gone = min ((sheet.from - x.at) / x.every) x.count in
      let by : (gone ≤ (sheet.from - x.at) / x.every) ↔ (gone * x.every ≤ sheet.from - x.at) = le-div_iff_mul-le (omega (arith, steady)) in
      skips gone x.at x.every x.count steady (omega arith) (by.0 (omega arith))

  -- one more mark
  pub more : (x : Series) (text after all : List ℕ) → 0 < x.count → after ≡ text ++ mark_if s sheet lanes (happens x.at)
      → text ++ marks_text s sheet lanes (happenings_of x deed) ≡ all → after ++ marks_text s sheet lanes (happenings_of (rest_of x) deed) ≡ all
  more x text after all some is so_far = by x.count some so_far
    where
      by : (n : ℕ) → 0 < n → text ++ texts x.at x.every n ≡ all → after ++ texts (x.at + x.every) x.every (n - 1) ≡ all
      by zero some so_far = absurd (omega (arith, some))
      by (suc n) some so_far =
          let left : suc n - 1 ≡ n = omega arith in
          let rest = texts (x.at + x.every) x.every n in
          ap (λ k. after ++ texts (x.at + x.every) x.every k) left ∙ ap (λ z. z ++ rest) is ∙ append_assoc text (mark_if s sheet lanes (happens x.at)) rest ∙ so_far

  -- no mark is left
  pub ended : (x : Series) (text all : List ℕ) → (0 < x.count → sheet.last ≤ x.at) → text ++ marks_text s sheet lanes (happenings_of x deed) ≡ all → text ≡ all
  ended x text all behind so_far = sym (append-nil text) ∙ ap (λ l. text ++ l) (sym (none x.count behind)) ∙ so_far
    where
      none : (n : ℕ) → (0 < n → sheet.last ≤ x.at) → texts x.at x.every n ≡ []
      none zero behind = refl
      none (suc n) behind = none-behind x.at x.every (suc n) (behind (omega arith))
