use Rattle.std.proofs.Common.{◌≡◌, ◌∙◌, ap, ◌++◌, ◌∷◌, [], ℕ}
use Rattle.std.specs.Prelude.{codes, decimal, OnOk}
use Rattle.pb_export.specs.Pieces.{all_of}
use Rattle.pb_texts.proofs.Pieces.{last}
use Rattle.pb_export.proofs.json.push_token.Goals as goal

pub returns : goal.returns
returns c =
    let text = c.args.text.now.items in
    let is : OnOk c.push_pieces.result (c.push_pieces.new.text.items ≡ text ++ all_of ((codes ",\"kind\":\"token\",\"da\":") ∷ (decimal c.from.result) ∷ (codes ",\"sa\":") ∷ (decimal c.from-2.result) ∷ [])) = c.push_pieces.ensures in
    last c.push_pieces.result text c.push_pieces.new.text.items
    (all_of ((codes ",\"kind\":\"token\",\"da\":") ∷ (decimal c.from.result) ∷ (codes ",\"sa\":") ∷ (decimal c.from-2.result) ∷ []))
    (all_of ((codes ",\"kind\":\"token\",\"da\":") ∷ (decimal c.args.da) ∷ (codes ",\"sa\":") ∷ (decimal c.args.sa) ∷ []))
    (ap (λ (v : ℕ). all_of ((codes ",\"kind\":\"token\",\"da\":") ∷ (decimal v) ∷ (codes ",\"sa\":") ∷ (decimal c.from-2.result) ∷ [])) (c.from.ensures)
    ∙ ap (λ (v : ℕ). all_of ((codes ",\"kind\":\"token\",\"da\":") ∷ (decimal c.args.da) ∷ (codes ",\"sa\":") ∷ (decimal v) ∷ [])) (c.from-2.ensures)) is
