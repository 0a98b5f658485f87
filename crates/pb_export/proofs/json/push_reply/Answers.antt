use Rattle.std.proofs.Common.{◌≡◌, ◌∙◌, ap, ◌++◌, ◌∷◌, [], ℕ, List}
use Rattle.std.specs.Prelude.{codes, OnOk}
use Rattle.pb_export.specs.Words.{reply_words, station_words}
use Rattle.std.specs.Prelude.{◌/◌, ◌%◌}
use Rattle.pb_export.specs.Pieces.{all_of}
use Rattle.pb_texts.proofs.Pieces.{last}
use Rattle.pb_export.proofs.json.push_reply.Goals as goal

pub returns : goal.returns
returns c =
    let text = c.args.text.now.items in
    let is : OnOk c.push_pieces.result (c.push_pieces.new.text.items ≡ text ++ all_of ((codes ",\"kind\":\"reply\",\"function\":\"") ∷ c.reply_words.result.now ∷ (codes "\",\"station_type\":\"") ∷ c.station_words.result.now ∷ (codes "\"") ∷ [])) = c.push_pieces.ensures in
    last c.push_pieces.result text c.push_pieces.new.text.items
    (all_of ((codes ",\"kind\":\"reply\",\"function\":\"") ∷ c.reply_words.result.now ∷ (codes "\",\"station_type\":\"") ∷ c.station_words.result.now ∷ (codes "\"") ∷ []))
    (all_of ((codes ",\"kind\":\"reply\",\"function\":\"") ∷ (reply_words (c.args.fc % 16)) ∷ (codes "\",\"station_type\":\"") ∷ (station_words (c.args.fc / 16 % 4)) ∷ (codes "\"") ∷ []))
    (ap (λ (v : List ℕ). all_of ((codes ",\"kind\":\"reply\",\"function\":\"") ∷ v ∷ (codes "\",\"station_type\":\"") ∷ c.station_words.result.now ∷ (codes "\"") ∷ [])) (c.reply_words.ensures)
    ∙ ap (λ (v : List ℕ). all_of ((codes ",\"kind\":\"reply\",\"function\":\"") ∷ (reply_words (c.args.fc % 16)) ∷ (codes "\",\"station_type\":\"") ∷ v ∷ (codes "\"") ∷ [])) (c.station_words.ensures)) is
