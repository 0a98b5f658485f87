use Rattle.std.proofs.Common.{◌≡◌, ◌∙◌, ap, ◌++◌, ◌∷◌, [], ℕ, List}
use Rattle.std.specs.Prelude.{codes, decimal, OnOk}
use Rattle.hex.specs.Hex.{encode_lower}
use Rattle.pb_export.specs.Words.{truth}
use Rattle.std.specs.Prelude.{◌%◌, nat_le}
use Rattle.pb_export.specs.Pieces.{all_of}
use Rattle.pb_texts.proofs.Pieces.{last}
use Rattle.pb_export.proofs.json.push_fields.Goals as goal

pub returns : goal.returns
returns c =
    let text = c.args.text.now.items in
    let is : OnOk c.push_pieces.result (c.push_pieces.new.text.items ≡ text ++ all_of ((codes ",\"da\":") ∷ (decimal c.from.result) ∷ (codes ",\"da_extension\":") ∷ c.truth.result.now ∷ (codes ",\"sa\":") ∷ (decimal c.from-2.result) ∷ (codes ",\"sa_extension\":") ∷ c.truth-2.result.now ∷ (codes ",\"fc\":") ∷ (decimal c.from-3.result) ∷ (codes ",\"unit\":\"") ∷ (encode_lower c.args.unit.now) ∷ (codes "\"") ∷ [])) = c.push_pieces.ensures in
    last c.push_pieces.result text c.push_pieces.new.text.items
    (all_of ((codes ",\"da\":") ∷ (decimal c.from.result) ∷ (codes ",\"da_extension\":") ∷ c.truth.result.now ∷ (codes ",\"sa\":") ∷ (decimal c.from-2.result) ∷ (codes ",\"sa_extension\":") ∷ c.truth-2.result.now ∷ (codes ",\"fc\":") ∷ (decimal c.from-3.result) ∷ (codes ",\"unit\":\"") ∷ (encode_lower c.args.unit.now) ∷ (codes "\"") ∷ []))
    (all_of ((codes ",\"da\":") ∷ (decimal (c.args.da % 128)) ∷ (codes ",\"da_extension\":") ∷ (truth (nat_le 128 c.args.da)) ∷ (codes ",\"sa\":") ∷ (decimal (c.args.sa % 128)) ∷ (codes ",\"sa_extension\":") ∷ (truth (nat_le 128 c.args.sa)) ∷ (codes ",\"fc\":") ∷ (decimal c.args.fc) ∷ (codes ",\"unit\":\"") ∷ (encode_lower c.args.unit.now) ∷ (codes "\"") ∷ []))
    (ap (λ (v : ℕ). all_of ((codes ",\"da\":") ∷ (decimal v) ∷ (codes ",\"da_extension\":") ∷ c.truth.result.now ∷ (codes ",\"sa\":") ∷ (decimal c.from-2.result) ∷ (codes ",\"sa_extension\":") ∷ c.truth-2.result.now ∷ (codes ",\"fc\":") ∷ (decimal c.from-3.result) ∷ (codes ",\"unit\":\"") ∷ (encode_lower c.args.unit.now) ∷ (codes "\"") ∷ [])) (c.from.ensures)
    ∙ ap (λ (v : List ℕ). all_of ((codes ",\"da\":") ∷ (decimal (c.args.da % 128)) ∷ (codes ",\"da_extension\":") ∷ v ∷ (codes ",\"sa\":") ∷ (decimal c.from-2.result) ∷ (codes ",\"sa_extension\":") ∷ c.truth-2.result.now ∷ (codes ",\"fc\":") ∷ (decimal c.from-3.result) ∷ (codes ",\"unit\":\"") ∷ (encode_lower c.args.unit.now) ∷ (codes "\"") ∷ [])) (c.truth.ensures)
    ∙ ap (λ (v : ℕ). all_of ((codes ",\"da\":") ∷ (decimal (c.args.da % 128)) ∷ (codes ",\"da_extension\":") ∷ (truth (nat_le 128 c.args.da)) ∷ (codes ",\"sa\":") ∷ (decimal v) ∷ (codes ",\"sa_extension\":") ∷ c.truth-2.result.now ∷ (codes ",\"fc\":") ∷ (decimal c.from-3.result) ∷ (codes ",\"unit\":\"") ∷ (encode_lower c.args.unit.now) ∷ (codes "\"") ∷ [])) (c.from-2.ensures)
    ∙ ap (λ (v : List ℕ). all_of ((codes ",\"da\":") ∷ (decimal (c.args.da % 128)) ∷ (codes ",\"da_extension\":") ∷ (truth (nat_le 128 c.args.da)) ∷ (codes ",\"sa\":") ∷ (decimal (c.args.sa % 128)) ∷ (codes ",\"sa_extension\":") ∷ v ∷ (codes ",\"fc\":") ∷ (decimal c.from-3.result) ∷ (codes ",\"unit\":\"") ∷ (encode_lower c.args.unit.now) ∷ (codes "\"") ∷ [])) (c.truth-2.ensures)
    ∙ ap (λ (v : ℕ). all_of ((codes ",\"da\":") ∷ (decimal (c.args.da % 128)) ∷ (codes ",\"da_extension\":") ∷ (truth (nat_le 128 c.args.da)) ∷ (codes ",\"sa\":") ∷ (decimal (c.args.sa % 128)) ∷ (codes ",\"sa_extension\":") ∷ (truth (nat_le 128 c.args.sa)) ∷ (codes ",\"fc\":") ∷ (decimal v) ∷ (codes ",\"unit\":\"") ∷ (encode_lower c.args.unit.now) ∷ (codes "\"") ∷ [])) (c.from-3.ensures)) is
