use Rattle.std.proofs.Common.{◌≡◌, ◌∙◌, ap, ◌++◌, ◌∷◌, [], ℕ, List}
use Rattle.std.specs.Prelude.{codes, decimal, OnOk}
use Rattle.pb_taps.specs.Taps.{spec_of}
use Rattle.pb_export.specs.Json.{comma_after, kind_words}
use Rattle.pb_export.specs.Pieces.{all_of}
use Rattle.pb_texts.proofs.Pieces.{last}
use Rattle.pb_export.proofs.json.push_station.Goals as goal

pub returns : goal.returns
returns c =
    let text = c.args.text.now.items in
    let is : OnOk c.push_pieces.result (c.push_pieces.new.text.items ≡ text ++ all_of (c.comma_after.result.now ∷ (codes "{\"name\":\"") ∷ c.as_bytes.result.now ∷ (codes "\",\"address\":") ∷ (decimal c.from.result) ∷ (codes ",\"kind\":\"") ∷ c.kind_words.result.now ∷ (codes "\"}") ∷ [])) = c.push_pieces.ensures in
    last c.push_pieces.result text c.push_pieces.new.text.items
    (all_of (c.comma_after.result.now ∷ (codes "{\"name\":\"") ∷ c.as_bytes.result.now ∷ (codes "\",\"address\":") ∷ (decimal c.from.result) ∷ (codes ",\"kind\":\"") ∷ c.kind_words.result.now ∷ (codes "\"}") ∷ []))
    (all_of ((comma_after c.args.tap) ∷ (codes "{\"name\":\"") ∷ c.args.name.now ∷ (codes "\",\"address\":") ∷ (decimal ((spec_of c.args.spec.now).address)) ∷ (codes ",\"kind\":\"") ∷ (kind_words (spec_of c.args.spec.now)) ∷ (codes "\"}") ∷ []))
    (ap (λ (v : List ℕ). all_of (v ∷ (codes "{\"name\":\"") ∷ c.as_bytes.result.now ∷ (codes "\",\"address\":") ∷ (decimal c.from.result) ∷ (codes ",\"kind\":\"") ∷ c.kind_words.result.now ∷ (codes "\"}") ∷ [])) (c.comma_after.ensures)
    ∙ ap (λ (v : List ℕ). all_of ((comma_after c.args.tap) ∷ (codes "{\"name\":\"") ∷ v ∷ (codes "\",\"address\":") ∷ (decimal c.from.result) ∷ (codes ",\"kind\":\"") ∷ c.kind_words.result.now ∷ (codes "\"}") ∷ [])) (c.as_bytes.ensures.value)
    ∙ ap (λ (v : ℕ). all_of ((comma_after c.args.tap) ∷ (codes "{\"name\":\"") ∷ c.args.name.now ∷ (codes "\",\"address\":") ∷ (decimal v) ∷ (codes ",\"kind\":\"") ∷ c.kind_words.result.now ∷ (codes "\"}") ∷ [])) (c.from.ensures)
    ∙ ap (λ (v : List ℕ). all_of ((comma_after c.args.tap) ∷ (codes "{\"name\":\"") ∷ c.args.name.now ∷ (codes "\",\"address\":") ∷ (decimal ((spec_of c.args.spec.now).address)) ∷ (codes ",\"kind\":\"") ∷ v ∷ (codes "\"}") ∷ [])) (c.kind_words.ensures)) is
