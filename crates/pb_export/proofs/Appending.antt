-- Pieces one by one.
use Rattle.std.proofs.Common.{◌≡◌, List, [], ◌∷◌, ◌++◌, refl, sym}
use Rattle.std.proofs.lemmas.List.{append-nil}
use Rattle.pb_export.specs.declared.pieces.Piece.{Piece}
use Rattle.pb_export.specs.Pieces.{joined, piece_bytes}

pub joined_cons : (p : Piece) (ps : List Piece) → joined (p ∷ ps) ≡ piece_bytes p ++ joined ps
joined_cons p [] = sym (append-nil (piece_bytes p))
joined_cons p (q ∷ ps) = refl
