use Rattle.std.proofs.Common.{◌≡◌, ◌∙◌, ◌+◌, ℕ, List, [], ◌∷◌, ap, length}
use Rattle.std.specs.Prelude.{◌/◌}
use Rattle.pb_texts.proofs.Pieces.{last}
use Rattle.pb_export.specs.Pieces.{all_of, half, word}
use Rattle.pb_export.specs.Pcapng.{block, length_of, padded, padding}
use Rattle.pb_export.proofs.pcapng.push_block.Goals as goal

-- a block of parts
abbrev of_parts : (at : ℕ) (comment : List ℕ) (long : ℕ) (octets : List ℕ) (count : ℕ) (behind end : List ℕ) → List ℕ
of_parts at comment long octets count behind end =
    all_of (word 6 ∷ word long ∷ word 0 ∷ word (at / 4294967296) ∷ word at
    ∷ word (length octets) ∷ word count ∷ octets ∷ behind
    ∷ half 1 ∷ half (length comment) ∷ comment ∷ end
    ∷ word 0 ∷ word long ∷ [])

pub returns : goal.returns
returns c =
    let at = c.args.at in
    let comment = c.args.comment.now in
    let octets = c.args.octets.now in
    let count = c.args.count in
    let behind = c.padding.result.now in
    let end = c.padding-2.result.now in
    let long : 40 + c.padded.result + c.padded-2.result ≡ length_of octets comment =
    ap (λ (n : ℕ). 40 + n + c.padded-2.result) c.padded.ensures.value ∙ ap (λ (n : ℕ). 40 + padded (length octets) + n) c.padded-2.ensures.value in
    last c.push_pieces.result c.args.file.now.items c.push_pieces.new.text.items (of_parts at comment (40 + c.padded.result + c.padded-2.result) octets count behind end) (block at comment octets count)
    (ap (λ (n : ℕ). of_parts at comment n octets count behind end) long
    ∙ ap (λ (z : List ℕ). of_parts at comment (length_of octets comment) octets count z end) c.padding.ensures
    ∙ ap (λ (z : List ℕ). of_parts at comment (length_of octets comment) octets count (padding (length octets)) z) c.padding-2.ensures)
    c.push_pieces.ensures
