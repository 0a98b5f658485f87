use Rattle.std.proofs.Common.{◌≡◌, ◌∙◌, ap, ◌++◌, ◌∷◌, [], ℕ, List}
use Rattle.std.specs.Prelude.{codes, decimal, OnOk}
use Rattle.hex.specs.Hex.{encode_lower}
use Rattle.std.specs.Prelude.{length}
use Rattle.pb_medium.specs.Entries.{record_of}
use Rattle.pb_export.specs.Names.{name_at, address_at}
use Rattle.pb_export.specs.Saying.{sent_octets}
use Rattle.pb_export.specs.Pieces.{all_of}
use Rattle.pb_texts.proofs.Pieces.{last}
use Rattle.pb_export.proofs.json.push_speaker.Goals as goal

pub returns : goal.returns
returns c =
    let text = c.args.text.now.items in
    let is : OnOk c.push_pieces.result (c.push_pieces.new.text.items ≡ text ++ all_of ((codes ",\"station\":\"") ∷ c.name_of.result.now ∷ (codes "\",\"address\":") ∷ (decimal c.address_of.result) ∷ (codes ",\"octets\":\"") ∷ (encode_lower c.deref.result.now) ∷ (codes "\",\"octets_sent\":") ∷ (decimal (length c.sent_octets.result.now)) ∷ [])) = c.push_pieces.ensures in
    last c.push_pieces.result text c.push_pieces.new.text.items
    (all_of ((codes ",\"station\":\"") ∷ c.name_of.result.now ∷ (codes "\",\"address\":") ∷ (decimal c.address_of.result) ∷ (codes ",\"octets\":\"") ∷ (encode_lower c.deref.result.now) ∷ (codes "\",\"octets_sent\":") ∷ (decimal (length c.sent_octets.result.now)) ∷ []))
    (all_of ((codes ",\"station\":\"") ∷ (name_at c.args.scenario.now c.args.telegram.now.tap) ∷ (codes "\",\"address\":") ∷ (decimal (address_at c.args.scenario.now c.args.telegram.now.tap)) ∷ (codes ",\"octets\":\"") ∷ (encode_lower c.args.telegram.now.octets.items) ∷ (codes "\",\"octets_sent\":") ∷ (decimal (length (sent_octets (record_of c.args.telegram.now)))) ∷ []))
    (ap (λ (v : List ℕ). all_of ((codes ",\"station\":\"") ∷ v ∷ (codes "\",\"address\":") ∷ (decimal c.address_of.result) ∷ (codes ",\"octets\":\"") ∷ (encode_lower c.deref.result.now) ∷ (codes "\",\"octets_sent\":") ∷ (decimal (length c.sent_octets.result.now)) ∷ [])) (c.name_of.ensures)
    ∙ ap (λ (v : ℕ). all_of ((codes ",\"station\":\"") ∷ (name_at c.args.scenario.now c.args.telegram.now.tap) ∷ (codes "\",\"address\":") ∷ (decimal v) ∷ (codes ",\"octets\":\"") ∷ (encode_lower c.deref.result.now) ∷ (codes "\",\"octets_sent\":") ∷ (decimal (length c.sent_octets.result.now)) ∷ [])) (c.address_of.ensures)
    ∙ ap (λ (v : List ℕ). all_of ((codes ",\"station\":\"") ∷ (name_at c.args.scenario.now c.args.telegram.now.tap) ∷ (codes "\",\"address\":") ∷ (decimal (address_at c.args.scenario.now c.args.telegram.now.tap)) ∷ (codes ",\"octets\":\"") ∷ (encode_lower v) ∷ (codes "\",\"octets_sent\":") ∷ (decimal (length c.sent_octets.result.now)) ∷ [])) (c.deref.ensures.0)
    ∙ ap (λ (v : List ℕ). all_of ((codes ",\"station\":\"") ∷ (name_at c.args.scenario.now c.args.telegram.now.tap) ∷ (codes "\",\"address\":") ∷ (decimal (address_at c.args.scenario.now c.args.telegram.now.tap)) ∷ (codes ",\"octets\":\"") ∷ (encode_lower c.args.telegram.now.octets.items) ∷ (codes "\",\"octets_sent\":") ∷ (decimal (length v)) ∷ [])) (c.sent_octets.ensures.octets)) is
