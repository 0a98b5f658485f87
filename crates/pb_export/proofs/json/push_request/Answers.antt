use Rattle.std.proofs.Common.{◌≡◌, ◌∙◌, ap, ◌++◌, ◌∷◌, [], ℕ, List}
use Rattle.std.specs.Prelude.{codes, OnOk}
use Rattle.pb_export.specs.Words.{request_words, truth}
use Rattle.std.specs.Prelude.{◌/◌, ◌%◌, ◌==◌}
use Rattle.pb_export.specs.Pieces.{all_of}
use Rattle.pb_texts.proofs.Pieces.{last}
use Rattle.pb_export.proofs.json.push_request.Goals as goal

pub returns : goal.returns
returns c =
    let text = c.args.text.now.items in
    let is : OnOk c.push_pieces.result (c.push_pieces.new.text.items ≡ text ++ all_of ((codes ",\"kind\":\"request\",\"function\":\"") ∷ c.request_words.result.now ∷ (codes "\",\"fcb\":") ∷ c.truth.result.now ∷ (codes ",\"fcv\":") ∷ c.truth-2.result.now ∷ [])) = c.push_pieces.ensures in
    last c.push_pieces.result text c.push_pieces.new.text.items
    (all_of ((codes ",\"kind\":\"request\",\"function\":\"") ∷ c.request_words.result.now ∷ (codes "\",\"fcb\":") ∷ c.truth.result.now ∷ (codes ",\"fcv\":") ∷ c.truth-2.result.now ∷ []))
    (all_of ((codes ",\"kind\":\"request\",\"function\":\"") ∷ (request_words (c.args.fc % 16)) ∷ (codes "\",\"fcb\":") ∷ (truth (c.args.fc / 32 % 2 == 1)) ∷ (codes ",\"fcv\":") ∷ (truth (c.args.fc / 16 % 2 == 1)) ∷ []))
    (ap (λ (v : List ℕ). all_of ((codes ",\"kind\":\"request\",\"function\":\"") ∷ v ∷ (codes "\",\"fcb\":") ∷ c.truth.result.now ∷ (codes ",\"fcv\":") ∷ c.truth-2.result.now ∷ [])) (c.request_words.ensures)
    ∙ ap (λ (v : List ℕ). all_of ((codes ",\"kind\":\"request\",\"function\":\"") ∷ (request_words (c.args.fc % 16)) ∷ (codes "\",\"fcb\":") ∷ v ∷ (codes ",\"fcv\":") ∷ c.truth-2.result.now ∷ [])) (c.truth.ensures)
    ∙ ap (λ (v : List ℕ). all_of ((codes ",\"kind\":\"request\",\"function\":\"") ∷ (request_words (c.args.fc % 16)) ∷ (codes "\",\"fcb\":") ∷ (truth (c.args.fc / 32 % 2 == 1)) ∷ (codes ",\"fcv\":") ∷ v ∷ [])) (c.truth-2.ensures)) is
