use Rattle.std.proofs.Common.{◌≡◌, ◌++◌, ◌∷◌, [], ℕ, List, Some, refl, arith}
use Rattle.std.specs.Prelude.{slice_get, slice_index}
use Rattle.std.proofs.lemmas.Option.{slice_get-get_or}
use Rattle.hex.specs.Hex.{encode_lower, encode_with}
use Rattle.pb_export.proofs.Loops.{item-step, item-end}
use Rattle.pb_export.proofs.pieces.push_hex.Goals as goal

more : (octet : ℕ) (octets : List ℕ) → encode_lower (octet ∷ octets) ≡ encode_lower (octet ∷ []) ++ encode_lower octets
unfolding encode_with
more octet octets = refl

none : encode_lower [] ≡ []
unfolding encode_with
none = refl

pub loop-octet-preserved : goal.loop-octet-preserved
loop-octet-preserved c =
    let octets = c.args.octets.now in
    let i = c.loop-octet.octet-index in
    let octet = slice_index octets i in
    let here : slice_get octets i ≡ Some octet = slice_get-get_or octets i 0 (omega (arith, c.loop-octet-test.true)) in
    item-step (λ k xs. encode_lower xs) (λ k x. encode_lower (x ∷ [])) octets i octet c.loop-octet.text.items c.push_octet.new.text.items _
    (λ k x xs. more x xs) here c.in_ok-push_octet.ensures c.loop-octet.invariant

pub returns : goal.returns
returns c =
    item-end (λ k xs. encode_lower xs) c.args.octets.now c.loop-octet.octet-index c.loop-octet.text.items _
    (λ k. none) (omega (arith, c.loop-octet-test.false)) c.loop-octet.invariant
