use Rattle.std.proofs.Common.{◌≡◌, ◌∙◌, ap, ◌++◌, ◌∷◌, [], ℕ, List}
use Rattle.std.specs.Prelude.{codes, decimal, OnOk}
use Rattle.pb_export.specs.Places.{rows, top}
use Rattle.pb_export.specs.Styles.{light, dark, patterns}
use Rattle.pb_export.specs.Pieces.{all_of}
use Rattle.pb_texts.proofs.Pieces.{last}
use Rattle.pb_export.proofs.svg.push_head_with.Goals as goal

pub returns : goal.returns
returns c =
    let sheet = c.args.sheet in
    let text = c.args.text.now.items in
    let is : OnOk c.push_pieces.result (c.push_pieces.new.text.items ≡ text ++ all_of ((codes "<svg xmlns=\"http://www.w3.org/2000/svg\" width=\"") ∷ (decimal 1170) ∷ (codes "\" height=\"") ∷ (decimal c.top-height.result) ∷ (codes "\" viewBox=\"0 0 ") ∷ (decimal 1170) ∷ (codes " ") ∷ (decimal c.top-height.result) ∷ (codes "\">\n") ∷ c.light.result.now ∷ c.dark.result.now ∷ c.patterns.result.now ∷ (codes "<rect class=\"paper\" width=\"100%\" height=\"100%\"/>\n") ∷ c.args.legend.now ∷ [])) = c.push_pieces.ensures in
    last c.push_pieces.result text c.push_pieces.new.text.items
    (all_of ((codes "<svg xmlns=\"http://www.w3.org/2000/svg\" width=\"") ∷ (decimal 1170) ∷ (codes "\" height=\"") ∷ (decimal c.top-height.result) ∷ (codes "\" viewBox=\"0 0 ") ∷ (decimal 1170) ∷ (codes " ") ∷ (decimal c.top-height.result) ∷ (codes "\">\n") ∷ c.light.result.now ∷ c.dark.result.now ∷ c.patterns.result.now ∷ (codes "<rect class=\"paper\" width=\"100%\" height=\"100%\"/>\n") ∷ c.args.legend.now ∷ []))
    (all_of ((codes "<svg xmlns=\"http://www.w3.org/2000/svg\" width=\"") ∷ (decimal 1170) ∷ (codes "\" height=\"") ∷ (decimal ((top sheet (rows sheet)))) ∷ (codes "\" viewBox=\"0 0 ") ∷ (decimal 1170) ∷ (codes " ") ∷ (decimal ((top sheet (rows sheet)))) ∷ (codes "\">\n") ∷ light ∷ dark ∷ patterns ∷ (codes "<rect class=\"paper\" width=\"100%\" height=\"100%\"/>\n") ∷ c.args.legend.now ∷ []))
    (ap (λ (v : ℕ). all_of ((codes "<svg xmlns=\"http://www.w3.org/2000/svg\" width=\"") ∷ (decimal 1170) ∷ (codes "\" height=\"") ∷ (decimal v) ∷ (codes "\" viewBox=\"0 0 ") ∷ (decimal 1170) ∷ (codes " ") ∷ (decimal c.top-height.result) ∷ (codes "\">\n") ∷ c.light.result.now ∷ c.dark.result.now ∷ c.patterns.result.now ∷ (codes "<rect class=\"paper\" width=\"100%\" height=\"100%\"/>\n") ∷ c.args.legend.now ∷ [])) (c.top-height.ensures.value ∙ ap (top sheet) c.rows.ensures.value)
    ∙ ap (λ (v : ℕ). all_of ((codes "<svg xmlns=\"http://www.w3.org/2000/svg\" width=\"") ∷ (decimal 1170) ∷ (codes "\" height=\"") ∷ (decimal ((top sheet (rows sheet)))) ∷ (codes "\" viewBox=\"0 0 ") ∷ (decimal 1170) ∷ (codes " ") ∷ (decimal v) ∷ (codes "\">\n") ∷ c.light.result.now ∷ c.dark.result.now ∷ c.patterns.result.now ∷ (codes "<rect class=\"paper\" width=\"100%\" height=\"100%\"/>\n") ∷ c.args.legend.now ∷ [])) (c.top-height.ensures.value ∙ ap (top sheet) c.rows.ensures.value)
    ∙ ap (λ (v : List ℕ). all_of ((codes "<svg xmlns=\"http://www.w3.org/2000/svg\" width=\"") ∷ (decimal 1170) ∷ (codes "\" height=\"") ∷ (decimal ((top sheet (rows sheet)))) ∷ (codes "\" viewBox=\"0 0 ") ∷ (decimal 1170) ∷ (codes " ") ∷ (decimal ((top sheet (rows sheet)))) ∷ (codes "\">\n") ∷ v ∷ c.dark.result.now ∷ c.patterns.result.now ∷ (codes "<rect class=\"paper\" width=\"100%\" height=\"100%\"/>\n") ∷ c.args.legend.now ∷ [])) (c.light.ensures)
    ∙ ap (λ (v : List ℕ). all_of ((codes "<svg xmlns=\"http://www.w3.org/2000/svg\" width=\"") ∷ (decimal 1170) ∷ (codes "\" height=\"") ∷ (decimal ((top sheet (rows sheet)))) ∷ (codes "\" viewBox=\"0 0 ") ∷ (decimal 1170) ∷ (codes " ") ∷ (decimal ((top sheet (rows sheet)))) ∷ (codes "\">\n") ∷ light ∷ v ∷ c.patterns.result.now ∷ (codes "<rect class=\"paper\" width=\"100%\" height=\"100%\"/>\n") ∷ c.args.legend.now ∷ [])) (c.dark.ensures)
    ∙ ap (λ (v : List ℕ). all_of ((codes "<svg xmlns=\"http://www.w3.org/2000/svg\" width=\"") ∷ (decimal 1170) ∷ (codes "\" height=\"") ∷ (decimal ((top sheet (rows sheet)))) ∷ (codes "\" viewBox=\"0 0 ") ∷ (decimal 1170) ∷ (codes " ") ∷ (decimal ((top sheet (rows sheet)))) ∷ (codes "\">\n") ∷ light ∷ dark ∷ v ∷ (codes "<rect class=\"paper\" width=\"100%\" height=\"100%\"/>\n") ∷ c.args.legend.now ∷ [])) (c.patterns.ensures)) is
