use Rattle.std.proofs.Common.{◌≡◌, ◌∙◌, ap, ◌++◌, ◌∷◌, [], ℕ, List}
use Rattle.std.specs.Prelude.{codes, OnOk}
use Rattle.pb_medium.specs.Entries.{heard_of}
use Rattle.pb_export.specs.Names.{name_at}
use Rattle.pb_export.specs.Json.{comma_after}
use Rattle.pb_export.specs.Words.{heard_words}
use Rattle.pb_export.specs.Pieces.{all_of}
use Rattle.pb_texts.proofs.Pieces.{last}
use Rattle.pb_export.proofs.json.push_hearing.Goals as goal

pub returns : goal.returns
returns c =
    let text = c.args.text.now.items in
    let is : OnOk c.push_pieces.result (c.push_pieces.new.text.items ≡ text ++ all_of (c.comma_after.result.now ∷ (codes "\"") ∷ c.name_of.result.now ∷ (codes "\":\"") ∷ c.heard_words.result.now ∷ (codes "\"") ∷ [])) = c.push_pieces.ensures in
    last c.push_pieces.result text c.push_pieces.new.text.items
    (all_of (c.comma_after.result.now ∷ (codes "\"") ∷ c.name_of.result.now ∷ (codes "\":\"") ∷ c.heard_words.result.now ∷ (codes "\"") ∷ []))
    (all_of ((comma_after c.args.tap) ∷ (codes "\"") ∷ (name_at c.args.scenario.now c.args.tap) ∷ (codes "\":\"") ∷ (heard_words (heard_of c.args.heard)) ∷ (codes "\"") ∷ []))
    (ap (λ (v : List ℕ). all_of (v ∷ (codes "\"") ∷ c.name_of.result.now ∷ (codes "\":\"") ∷ c.heard_words.result.now ∷ (codes "\"") ∷ [])) (c.comma_after.ensures)
    ∙ ap (λ (v : List ℕ). all_of ((comma_after c.args.tap) ∷ (codes "\"") ∷ v ∷ (codes "\":\"") ∷ c.heard_words.result.now ∷ (codes "\"") ∷ [])) (c.name_of.ensures)
    ∙ ap (λ (v : List ℕ). all_of ((comma_after c.args.tap) ∷ (codes "\"") ∷ (name_at c.args.scenario.now c.args.tap) ∷ (codes "\":\"") ∷ v ∷ (codes "\"") ∷ [])) (c.heard_words.ensures)) is
