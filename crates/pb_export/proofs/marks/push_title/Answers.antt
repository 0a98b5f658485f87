use Rattle.std.proofs.Common.{◌≡◌, refl, ◌++◌, ◌∷◌, []}
use Rattle.std.specs.Prelude.{codes, decimal, OnOk}
use Rattle.pb_export.specs.Pieces.{all_of}
use Rattle.pb_texts.proofs.Pieces.{last}
use Rattle.pb_export.proofs.marks.push_title.Goals as goal

pub returns : goal.returns
returns c =
    let text = c.args.text.now.items in
    let is : OnOk c.push_pieces.result (c.push_pieces.new.text.items ≡ text ++ all_of ((codes "<g class=\"step\"><title>") ∷ (decimal c.args.at) ∷ (codes ": ") ∷ c.args.word.now ∷ (codes " ") ∷ c.args.name.now ∷ (codes "</title>") ∷ [])) = c.push_pieces.ensures in
    last c.push_pieces.result text c.push_pieces.new.text.items
    (all_of ((codes "<g class=\"step\"><title>") ∷ (decimal c.args.at) ∷ (codes ": ") ∷ c.args.word.now ∷ (codes " ") ∷ c.args.name.now ∷ (codes "</title>") ∷ []))
    (all_of ((codes "<g class=\"step\"><title>") ∷ (decimal c.args.at) ∷ (codes ": ") ∷ c.args.word.now ∷ (codes " ") ∷ c.args.name.now ∷ (codes "</title>") ∷ []))
    (refl) is
