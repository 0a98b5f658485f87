use Rattle.std.proofs.Common.{◌≡◌, ap, ◌++◌, ◌∷◌, [], ℕ, List}
use Rattle.std.specs.Prelude.{codes, decimal, OnOk}
use Rattle.pb_export.specs.Pieces.{all_of}
use Rattle.pb_texts.proofs.Pieces.{last}
use Rattle.pb_export.proofs.vcd.push_line.Goals as goal

pub returns : goal.returns
returns c =
    let text = c.args.text.now.items in
    let is : OnOk c.push_pieces.result (c.push_pieces.new.text.items ≡ text ++ all_of ((codes "$var wire 1 t") ∷ (decimal c.args.tap) ∷ (codes " ") ∷ c.as_bytes.result.now ∷ (codes " $end\n") ∷ [])) = c.push_pieces.ensures in
    last c.push_pieces.result text c.push_pieces.new.text.items
    (all_of ((codes "$var wire 1 t") ∷ (decimal c.args.tap) ∷ (codes " ") ∷ c.as_bytes.result.now ∷ (codes " $end\n") ∷ []))
    (all_of ((codes "$var wire 1 t") ∷ (decimal c.args.tap) ∷ (codes " ") ∷ c.args.name.now ∷ (codes " $end\n") ∷ []))
    (ap (λ (v : List ℕ). all_of ((codes "$var wire 1 t") ∷ (decimal c.args.tap) ∷ (codes " ") ∷ v ∷ (codes " $end\n") ∷ [])) (c.as_bytes.ensures.value)) is
